-- Looks and the reads that they are of.
use Rattle.std.proofs.Common.{◌≡◌, ℕ, suc, ◌≤◌, Bool, true, false, cond, ◌||◌, List, [], ◌∷◌, ◌++◌, length, Option, Some, None, is_some, refl, sym, ap, subst, ◌∙◌, ◌⊎◌, inl, inr, arith, length-append}
use Rattle.std.specs.List.{Contains, IsDistinct, list_any}
use Rattle.std.specs.Map.{keys_of}
use Rattle.std.specs.Option.{option_map, IsSome}
use Rattle.std.specs.Ordering.{eq_by_cmp}
use Rattle.std.specs.FinMap.{get}
use Rattle.std.proofs.lemmas.Cmp.{eq_by_cmp_equiv}
use Rattle.std.proofs.lemmas.List.{map-append}
use Rattle.std.proofs.lemmas.Map.Keys.{IsDistinct-push}
use Rattle.std.proofs.lemmas.Option.{none-some, same_Some}
use Rattle.fx_store.specs.declared.node.Node.{Node}
use Rattle.fx_store.specs.Names.{path_cmp}
use Rattle.fx_store.specs.Orders.{path_total}
use Rattle.fx_store.specs.Rule.{Known, first_unknown}
use Rattle.fx_store.specs.Whole.{Store, Nodes}
use Rattle.fx_spec.specs.CommandTree.{CommandTree}
use Rattle.fx_spec.specs.Plans.{Turn, txn_of}
use Rattle.fx_spec.specs.Order.{BaseTree, state}
use Rattle.fx_spec.specs.Transaction.{way}
use Rattle.fx_spec.proofs.Orders.{state-front}
use Rattle.fx_view.specs.ReadList.{ReadList}
use Rattle.fx_view.specs.Reads.{read_at, known_of, IsReads, Agrees}
use Rattle.fx_view.proofs.Lists.{read_more_cases}
use Rattle.fx_machine.specs.declared.attempt.Attempt.{Attempt}
use Rattle.fx_machine.specs.Explained.{IsExplained, RunsAs}
use Rattle.fx_machine.specs.Machine.{position_at, first_unseen, AgreesAt, HasSeenAll, ComesNext, IsStaleAt, IsFresh}
use Rattle.fx_machine.specs.Passes.{AreTrueReads}
use Rattle.fx_machine.specs.Needs.{IsNeeded, AllRead}
use Rattle.fx_board.specs.Board.{IsFreshReads, IsStaleRead, IsNamed}
use Rattle.fx_board.specs.Log.{Log}
use Rattle.fx_diaries.specs.Looks.{looks_in}
use Rattle.fx_diaries.specs.Named.{IsNamedAt}

abbrev Path : Type 0
Path = List (List ℕ)

abbrev Read : Type 0
Read = Option Node × ℕ

-- the look at a path has the position of the read there
pub position-read : (reads : ReadList) (path : Path) → position_at (looks_in reads) path ≡ option_map (λ (r : Read). r.1) (read_at reads path)
position-read [] path = refl
position-read (e ∷ es) path = at (eq_by_cmp path_cmp path e.0) (position-read es path)
  where
    at : (b : Bool) → position_at (looks_in es) path ≡ option_map (λ (r : Read). r.1) (read_at es path) → cond b (Some e.1.1) (position_at (looks_in es) path) ≡ option_map (λ (r : Read). r.1) (cond b (Some e.1) (read_at es path))
    at true rest = refl
    at false rest = rest

pub unlooked : (reads : ReadList) (path : Path) → read_at reads path ≡ None → position_at (looks_in reads) path ≡ None
unlooked reads path none = position-read reads path ∙ ap (option_map (λ (r : Read). r.1)) none

both_some : (r : Option Read) → is_some (option_map (λ (r : Read). r.1) r) ≡ is_some (option_map (λ (r : Read). r.0) r)
both_some None = refl
both_some (Some r) = refl

seen_as_known : (reads : ReadList) (path : Path) → is_some (position_at (looks_in reads) path) ≡ is_some (known_of reads path)
seen_as_known reads path = ap is_some (position-read reads path) ∙ both_some (read_at reads path)

pub first_unseen-unknown : (reads : ReadList) (paths : List Path) → first_unseen (looks_in reads) paths ≡ first_unknown (known_of reads) paths
first_unseen-unknown reads [] = refl
first_unseen-unknown reads (path ∷ paths) =
    ap (λ b. cond b (first_unseen (looks_in reads) paths) (Some path)) (seen_as_known reads path) ∙ ap (λ rest. cond (is_some (known_of reads path)) rest (Some path)) (first_unseen-unknown reads paths)

-- a filestore that agrees with the looks agrees with true reads
pub agrees : (base : BaseTree) (o : List Turn) (reads : ReadList) (S : Store) → AreTrueReads base o reads → AgreesAt base o (looks_in reads) S → Agrees reads S
agrees base o reads S true_reads at path node known = by (read_at reads path) refl known
  where
    by : (r : Option Read) → read_at reads path ≡ r → option_map (λ (r : Read). r.0) r ≡ Some node → S path ≡ node
    by None is e = absurd (none-some node e)
    by (Some r) is e = at path r.1 (position-read reads path ∙ ap (option_map (λ (r : Read). r.1)) is) ∙ sym (true_reads path r.0 r.1 is).1 ∙ same_Some r.0 node e

pub has_seen_all : (base : BaseTree) (o : List Turn) (turn : Turn) (reads : ReadList) (t : List CommandTree) → AreTrueReads base o reads → AllRead base turn reads → txn_of base.plan turn ≡ Some t → HasSeenAll base o (looks_in reads) t
has_seen_all base o turn reads t true_reads all planned nodes whole at =
    first_unseen-unknown reads (way base.description t (get nodes)) ∙ all t planned nodes whole (agrees base o reads (get nodes) true_reads at)

pub comes_next : (base : BaseTree) (o : List Turn) (turn : Turn) (reads : ReadList) (t : List CommandTree) (path : Path) → AreTrueReads base o reads → IsNeeded base turn reads path → txn_of base.plan turn ≡ Some t → ComesNext base o (looks_in reads) t path
comes_next base o turn reads t path true_reads needed planned nodes whole at =
    first_unseen-unknown reads (way base.description t (get nodes)) ∙ needed t planned nodes whole (agrees base o reads (get nodes) true_reads at)

-- ---- an explained attempt has read all

none_unknown : (known : Known) (paths : List Path) → ((path : Path) → Contains paths path → is_some (known path) ≡ true) → first_unknown known paths ≡ None
none_unknown known [] all = refl
none_unknown known (path ∷ paths) all =
    ap (λ b. cond b (first_unknown known paths) (Some path)) (all path (0, omega arith, refl)) ∙ none_unknown known paths (λ q inside. all q (suc inside.0, omega (arith, inside.1), inside.2))

known_read : (r : Option Read) → IsSome r → is_some (option_map (λ (r : Read). r.0) r) ≡ true
known_read None some = some
known_read (Some r) some = refl

pub all_read : (base : BaseTree) (a : Attempt) → IsExplained base a → AllRead base (a.shell, a.txn) a.reads
all_read base a explained t planned nodes whole agree =
    let same : explained.txn ≡ t = same_Some explained.txn t (sym explained.planned ∙ planned) in
    let runs : RunsAs base.description t a nodes = subst (λ t. RunsAs base.description t a nodes) same (explained.runs nodes whole agree) in
    none_unknown (known_of a.reads) (way base.description t (get nodes)) (λ path inside. known_read (read_at a.reads path) ((runs.foot path).1 inside))

-- ---- stale and fresh

pub stale_at : (base : BaseTree) (o : List Turn) (reads : ReadList) (entry : ℕ) (path : Path) → IsStaleRead base o reads entry path → IsStaleAt base o (looks_in reads) entry path
stale_at base o reads entry path s = (s.1, position-read reads path ∙ ap (option_map (λ (r : Read). r.1)) s.2, s.3, s.4, s.5)

stale_read : (base : BaseTree) (o : List Turn) (reads : ReadList) (entry : ℕ) (path : Path) → IsStaleAt base o (looks_in reads) entry path → IsStaleRead base o reads entry path
stale_read base o reads entry path s = by (read_at reads path) refl (sym (position-read reads path) ∙ s.1)
  where
    by : (r : Option Read) → read_at reads path ≡ r → option_map (λ (r : Read). r.1) (read_at reads path) ≡ Some s.0 → IsStaleRead base o reads entry path
    by None is e = absurd (none-some s.0 (sym (ap (option_map (λ (r : Read). r.1)) is) ∙ e))
    by (Some r) is e =
        let position : r.1 ≡ s.0 = same_Some r.1 s.0 (sym (ap (option_map (λ (r : Read). r.1)) is) ∙ e) in
        (r.0, s.0, is ∙ ap (λ i. Some (r.0, i)) position, s.2, s.3, s.4)

pub fresh_at : (base : BaseTree) (o : List Turn) (reads : ReadList) → IsFreshReads base o reads → IsFresh base o (looks_in reads)
fresh_at base o reads fresh entry path s = fresh entry path (stale_read base o reads entry path s)

-- what is named of the reads is named of the looks
pub named_at : (log : Log) (reads : ReadList) (entry : ℕ) (path : Path) → IsNamed log reads entry path → IsNamedAt log.base log.order (looks_in reads) entry path
named_at log reads entry path named = record {
  stale = stale_at log.base log.order reads entry path named.stale;
  last = named.last.last;
  least = λ e p s. named.least e p (stale_read log.base log.order reads e p s);
}

-- ---- reads that grow, and reads of an order that grows

unread_key : (reads : ReadList) (path : Path) → read_at reads path ≡ None → list_any (eq_by_cmp path_cmp path) (keys_of reads) ≡ false
unread_key [] path none = refl
unread_key (e ∷ es) path none = go (eq_by_cmp path_cmp path e.0) none (unread_key es path)
  where
    go : (b : Bool) → cond b (Some e.1) (read_at es path) ≡ None → (read_at es path ≡ None → list_any (eq_by_cmp path_cmp path) (keys_of es) ≡ false) → (b || list_any (eq_by_cmp path_cmp path) (keys_of es)) ≡ false
    go true none rest = absurd (none-some e.1 (sym none))
    go false none rest = rest none

pub once_more : (reads : ReadList) (path : Path) (read : Read) → IsReads reads → read_at reads path ≡ None → IsReads (reads ++ (path, read) ∷ [])
once_more reads path read once none =
    subst (IsDistinct (eq_by_cmp path_cmp)) (sym (map-append (λ (r : Path × Read). r.0) reads ((path, read) ∷ []))) (IsDistinct-push (eq_by_cmp_equiv path_total) (keys_of reads) path once (unread_key reads path none))

pub true_more : (base : BaseTree) (o : List Turn) (reads : ReadList) (path : Path) → AreTrueReads base o reads → AreTrueReads base o (reads ++ (path, (get (state base o (length o)) path, length o)) ∷ [])
true_more base o reads path true_reads q node position e =
    by (read_more_cases reads path (get (state base o (length o)) path, length o) q (node, position) e)
  where
    by : (read_at reads q ≡ Some (node, position)) ⊎ ((q ≡ path) × (◌≡◌ {A = Read} (get (state base o (length o)) path, length o) (node, position))) → (position ≤ length o) × (node ≡ get (state base o position) q)
    by (inl h) = true_reads q node position h
    by (inr h) =
        let at : length o ≡ position = ap (λ (r : Read). r.1) h.1 in
        let here : get (state base o (length o)) path ≡ node = ap (λ (r : Read). r.0) h.1 in
        (omega (arith, at), sym here ∙ subst (λ i. get (state base o (length o)) path ≡ get (state base o i) path) at refl ∙ ap (get (state base o position)) (sym h.0))

pub true_longer : (base : BaseTree) (o more : List Turn) (reads : ReadList) → AreTrueReads base o reads → AreTrueReads base (o ++ more) reads
true_longer base o more reads true_reads path node position e =
    let h = true_reads path node position e in
    (omega (arith, h.0, length-append o more), h.1 ∙ sym (ap (λ (m : Nodes). get m path) (state-front base o more position h.0)))
