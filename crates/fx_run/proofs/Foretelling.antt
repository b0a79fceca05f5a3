-- What an attempt tells ahead: the paths that its transaction consults after less was read.
use Rattle.std.proofs.Common.{◌≡◌, ℕ, suc, ◌≤◌, Bool, true, false, cond, List, [], ◌∷◌, ◌++◌, length, Option, Some, None, refl, ap, ◌∙◌, sym, subst, arith}
use Rattle.std.specs.FinMap.{get}
use Rattle.std.specs.Option.{option_map}
use Rattle.std.specs.Ordering.{eq_by_cmp}
use mathlib.Core.Path.{fun_ext}
use Rattle.fx_store.specs.declared.node.Node.{Node}
use Rattle.fx_store.specs.Names.{path_cmp}
use Rattle.fx_store.specs.Rule.{follow, Found, Needs, first_unknown}
use Rattle.fx_spec.specs.CommandTree.{CommandTree}
use Rattle.fx_spec.specs.Plans.{Turn, txn_of}
use Rattle.fx_spec.specs.Order.{BaseTree}
use Rattle.fx_spec.specs.Transaction.{Flow, way}
use Rattle.fx_view.specs.OwnList.{OwnList}
use Rattle.fx_view.specs.ReadList.{ReadList}
use Rattle.fx_view.specs.Own.{own_at, no_own}
use Rattle.fx_view.specs.Reads.{read_at, known_of, nodes_in}
use Rattle.fx_view.specs.Follows.{walked, InOrder}
use Rattle.fx_view.proofs.Growing.{Grows, Grows-reads}
use Rattle.fx_view.proofs.Ordering.{order_at}
use Rattle.fx_view.proofs.Rules.{follow_less, needs_unknown}
use Rattle.fx_run.specs.Course.{pursued}
use Rattle.fx_run.specs.Pursuing.{Came}
use Rattle.fx_machine.specs.Needs.{IsNext, Foretells}
use Rattle.fx_run.proofs.Explaining.{needs_way}

abbrev Path : Type 0
Path = List (List ℕ)

abbrev Read : Type 0
Read = Option Node × ℕ

-- ---- reads without their positions

known_nodes : (reads : ReadList) (path : Path) → known_of reads path ≡ own_at (nodes_in reads) path
known_nodes [] path = refl
known_nodes (e ∷ es) path = at (eq_by_cmp path_cmp path e.0) (known_nodes es path)
  where
    at : (b : Bool) → known_of es path ≡ own_at (nodes_in es) path → option_map (λ (r : Read). r.0) (cond b (Some e.1) (read_at es path)) ≡ cond b (Some e.1.0) (own_at (nodes_in es) path)
    at true rest = refl
    at false rest = rest

-- what is known does not depend on the positions
pub known_as : (reads other : ReadList) → nodes_in reads ≡ nodes_in other → known_of reads ≡ known_of other
known_as reads other same = fun_ext (λ path. known_nodes reads path ∙ (ap (λ own. own_at own path) same ∙ sym (known_nodes other path)))

abbrev bare : Path × Read → Path × Option Node
bare r = (r.0, r.1.0)

-- the reads that the nodes before one of them are of
record Parted (reads : ReadList) (front : OwnList) (path : Path) : Type 0 where
  before : ReadList
  read : Read
  after : ReadList
  whole : reads ≡ before ++ (path, read) ∷ after
  same : nodes_in before ≡ front

parted : (reads : ReadList) (front : OwnList) (path : Path) (node : Option Node) (rest : OwnList) → nodes_in reads ≡ front ++ (path, node) ∷ rest → Parted reads front path
parted [] [] path stood rest e = cc
parted [] (f ∷ front) path stood rest e = cc
parted (r ∷ reads) [] path node rest e =
    let both : ◌≡◌ {A = Path × Option Node} (bare r) (path, node) = cc in
    let here : r.0 ≡ path = ap (λ (x : Path × Option Node). x.0) both in
    record { before = []; read = r.1; after = reads; whole = ap (λ p. (p, r.1) ∷ reads) here; same = refl }
parted (r ∷ reads) (f ∷ front) path node rest e =
    let first : bare r ≡ f = cc in
    let tail : nodes_in reads ≡ front ++ (path, node) ∷ rest = cc in
    let p = parted reads front path node rest tail in
    record { before = r ∷ p.before; read = p.read; after = p.after; whole = ap (λ rs. r ∷ rs) p.whole; same = ap (λ x. x ∷ nodes_in p.before) first ∙ ap (λ xs. f ∷ xs) p.same }

length_nodes : (reads : ReadList) → length (nodes_in reads) ≡ length reads
length_nodes [] = refl
length_nodes (r ∷ reads) = ap suc (length_nodes reads)

-- ---- what lies behind the first of two rows

behind : {A : Type 0} (xs ys front : List A) (e : A) (rest : List A) → xs ++ ys ≡ front ++ e ∷ rest → length xs ≤ length front → (f : List A) × (front ≡ xs ++ f) × (ys ≡ f ++ e ∷ rest)
behind [] ys front e rest h within = (front, refl, h)
behind (x ∷ xs) ys [] e rest h within = absurd (omega arith)
behind (x ∷ xs) ys (y ∷ front) e rest h within =
    let same : x ≡ y = cc in
    let tail : xs ++ ys ≡ front ++ e ∷ rest = cc in
    let b = behind xs ys front e rest tail (omega arith) in
    (b.0, ap (λ z. z ∷ front) (sym same) ∙ ap (λ zs. x ∷ zs) b.1, b.2)

-- ---- what the attempt tells

module _ (base : BaseTree) (turn : Turn) (t : List CommandTree) (planned : txn_of base.plan turn ≡ Some t) (reads : ReadList) where
  none_read : (r : Option Read) → option_map (λ (r : Read). r.0) r ≡ None → r ≡ None
  none_read None h = refl
  none_read (Some r) h = cc

  -- where the rule needs a path, that path comes next
  needs_next : (path : Path) → follow (known_of reads) no_own (pursued base.description t) ≡ Needs path → IsNext base turn reads path
  needs_next path needs = record {
    unread = none_read (read_at reads path) (needs_unknown (known_of reads) no_own (pursued base.description t) path needs);
    needed = λ u is nodes whole agrees.
        let same : t ≡ u = (let both : Some t ≡ Some u = sym planned ∙ is in cc) in
        subst (λ u. first_unknown (known_of reads) (way base.description u (get nodes)) ≡ Some path) same (needs_way base.description t reads (get nodes) agrees path needs);
  }

module _ (base : BaseTree) (turn : Turn) (t : List CommandTree) (planned : txn_of base.plan turn ≡ Some t) (old more reads : ReadList) (kept : reads ≡ old ++ more) (came : Came Flow) (found : follow (known_of reads) no_own (pursued base.description t) ≡ Found came) (order : InOrder old more (walked (known_of reads) no_own (pursued base.description t))) where
  pub foretells : Foretells base turn old reads
  foretells front path node rest past e =
      let p = parted reads (nodes_in front) path node rest e in
      let long : length p.before ≡ length front = sym (length_nodes p.before) ∙ (ap length p.same ∙ length_nodes front) in
      let b = behind old more p.before (path, p.read) p.after (sym kept ∙ p.whole) (omega (arith, long, past)) in
      let rule = pursued base.description t in
      let first : first_unknown (known_of (old ++ b.0)) (walked (known_of reads) no_own rule) ≡ Some path = order_at old more (walked (known_of reads) no_own rule) b.0 path p.read p.after order b.2 in
      let known : known_of (old ++ b.0) ≡ known_of front = ap known_of (sym b.1) ∙ known_as p.before front p.same in
      let grows : Grows (known_of p.before) (known_of reads) = subst (λ rs. Grows (known_of p.before) (known_of rs)) (sym p.whole) (Grows-reads p.before ((path, p.read) ∷ p.after)) in
      let grows_as : Grows (known_of front) (known_of reads) = subst (λ k. Grows k (known_of reads)) (known_as p.before front p.same) grows in
      needs_next base turn t planned front path
      (follow_less (known_of front) (known_of reads) no_own grows_as rule came path found (subst (λ k. first_unknown k (walked (known_of reads) no_own rule) ≡ Some path) known first))
