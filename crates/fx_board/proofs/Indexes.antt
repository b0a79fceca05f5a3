-- The index of last changes: it stays right with one entry more, and the least stale read is found by it.
use Rattle.std.proofs.Common.{◌≡◌, ◌≢◌, ℕ, zero, suc, ◌<◌, ◌≤◌, Bool, true, false, cond, ◌||◌, nat_le, List, [], ◌∷◌, ◌++◌, length, Option, Some, None, slice_get, refl, sym, ap, subst, ◌∙◌, inl, inr, arith, length-append}
use Rattle.std.specs.Prelude.{◌↔◌, ◌⊎◌, IsTrue, MatchOption}
use Rattle.std.specs.declared.cmp.Ordering.{Ordering}
use Rattle.std.specs.declared.cmp.Ordering.TheVariants.{Less, Equal, Greater}
use Rattle.std.specs.BTreeMap.Comparable.{le_lt_trans}
use Rattle.std.specs.Cmp.{eq_by_cmp_equiv}
use Rattle.std.specs.FinMap.{get}
use Rattle.std.specs.List.{Contains, fold}
use Rattle.std.specs.Ordering.{eq_by_cmp, is_le, ordering_reverse}
use Rattle.std.proofs.lemmas.Bool.{true≢false, cases_lt}
use Rattle.std.proofs.lemmas.Bool.Decides.{nat_tests}
use Rattle.std.proofs.lemmas.List.{take_all}
use Rattle.std.proofs.lemmas.List.Folds.{list_any-append}
use Rattle.std.proofs.lemmas.Map.Entries.{lookup_from_place}
use Rattle.std.proofs.lemmas.Map.Views.{list_any-from_Contains, Contains-from_any}
use Rattle.std.proofs.lemmas.Option.{same_Some, none-some}
use Rattle.fx_store.specs.declared.node.Node.{Node}
use Rattle.fx_store.specs.Names.{path_cmp, has_path}
use Rattle.fx_store.specs.Orders.{path_total, path_same, path_eq_same}
use Rattle.fx_store.specs.Whole.{Nodes}
use Rattle.fx_store.proofs.Tables.{path_symm}
use Rattle.fx_view.specs.ReadList.{ReadList}
use Rattle.fx_view.specs.Reads.{IsReads, read_at}
use Rattle.fx_view.proofs.Lookups.{lookup-read_at}
use Rattle.fx_spec.specs.Plans.{Turn}
use Rattle.fx_spec.specs.Order.{BaseTree, state, Changes}
use Rattle.fx_spec.proofs.Orders.{state-front}
use Rattle.fx_board.specs.Board.{NeverChanged, IsLastChange, IsIndex, IsNamed, IsStaleRead, IsFreshReads}
use Rattle.fx_board.specs.Index.{Index, Named, last_in, IsNoted, changed_since, lesser, with_read, least_stale}
use Rattle.fx_board.specs.Log.{Log}

abbrev Path : Type 0
Path = List (List ℕ)

abbrev Read : Type 0
Read = Path × (Option Node × ℕ)

-- ---- one entry more

-- no entry past the order changes anything
past : (base : BaseTree) (o : List Turn) (i : ℕ) → length o ≤ i → state base o (suc i) ≡ state base o i
unfolding state
past base o i le = let less : length o ≤ suc i = omega (arith, le) in rw (take_all (suc i) o less, take_all i o le) refl

pub changes_within : (base : BaseTree) (o : List Turn) (i : ℕ) (path : Path) → Changes base o i path → i < length o
changes_within base o i path changes = elim (cases_lt i (length o)) [
  | inl lt ↦ lt
  | inr le ↦ absurd (changes (ap (λ (n : Nodes). get n path) (sym (past base o i le))))
]

-- what an entry changes stays as the order grows
stays : (base : BaseTree) (o more : List Turn) (i : ℕ) (path : Path) → i < length o → Changes base o i path → Changes base (o ++ more) i path
stays base o more i path lt changes =
    subst (λ (n : Nodes). get n path ≢ get (state base (o ++ more) (suc i)) path) (sym (state-front base o more i (omega (arith, lt)))) (subst (λ (n : Nodes). get (state base o i) path ≢ get n path) (sym (state-front base o more (suc i) (omega (arith, lt)))) changes)

stood : (base : BaseTree) (o more : List Turn) (i : ℕ) (path : Path) → i < length o → Changes base (o ++ more) i path → Changes base o i path
stood base o more i path lt changes =
    subst (λ (n : Nodes). get n path ≢ get (state base o (suc i)) path) (state-front base o more i (omega (arith, lt))) (subst (λ (n : Nodes). get (state base (o ++ more) i) path ≢ get n path) (state-front base o more (suc i) (omega (arith, lt))) changes)

has_from : (changed : List Path) (path : Path) → Contains changed path → has_path changed path ≡ true
has_from changed path has = list_any-from_Contains (eq_by_cmp_equiv path_total) path changed has

from_has : (changed : List Path) (path : Path) → has_path changed path ≡ true → Contains changed path
from_has changed path has = Contains-from_any path_eq_same path changed has

module _ (base : BaseTree) (o : List Turn) (turn : Turn) (changed : List Path) (own : (path : Path) → Contains changed path ↔ Changes base (o ++ turn ∷ []) (length o) path) where
  abbrev before : Log
  before = record { base = base; order = o }

  abbrev after : Log
  after = record { base = base; order = o ++ turn ∷ [] }

  -- an entry that changes the path is the new one, or one of the others
  either : (j : ℕ) (path : Path) → Changes base (o ++ turn ∷ []) j path → Changes base o j path ⊎ ((j ≡ length o) × (has_path changed path ≡ true))
  either j path changes =
      let lt : j < length (o ++ turn ∷ []) = changes_within base (o ++ turn ∷ []) j path changes in
      elim (cases_lt j (length o)) [
        | inl less ↦ inl (stood base o (turn ∷ []) j path less changes)
        | inr le ↦
            let last : j ≡ length o = omega (arith, length-append o (turn ∷ []), lt, le) in
            inr (last, has_from changed path ((own path).1 (subst (λ j. Changes base (o ++ turn ∷ []) j path) last changes)))
      ]

  pub index_more : (old new : Index) → IsIndex before old → IsNoted old new changed (length o) → IsIndex after new
  index_more old new index noted path =
      subst (λ (last : Option ℕ). MatchOption last (NeverChanged after path) (IsLastChange after path)) (sym (noted path)) (by (has_path changed path) refl)
    where
      unchanged : (last : Option ℕ) → has_path changed path ≡ false → MatchOption last (NeverChanged before path) (IsLastChange before path) → MatchOption last (NeverChanged after path) (IsLastChange after path)
      unchanged None other never = λ j changes. elim (either j path changes) [
        | inl earlier ↦ never j earlier
        | inr new ↦ true≢false (sym new.1 ∙ other)
      ]
      unchanged (Some i) other last = record {
        changed = stays base o (turn ∷ []) i path (changes_within base o i path last.changed) last.changed;
        last = λ j lt changes. elim (either j path changes) [
          | inl earlier ↦ last.last j lt earlier
          | inr new ↦ true≢false (sym new.1 ∙ other)
        ];
      }

      by : (b : Bool) → has_path changed path ≡ b → MatchOption (cond b (Some (length o)) (last_in old path)) (NeverChanged after path) (IsLastChange after path)
      by true has = record {
        changed = (own path).0 (from_has changed path has);
        last = λ j lt changes. let within : j < length (o ++ turn ∷ []) = changes_within base (o ++ turn ∷ []) j path changes in omega (arith, length-append o (turn ∷ []), lt, within);
      }
      by false other = unchanged (last_in old path) other (index path)

-- one path more is noted
pub noted_more : (old mid new : Index) (done : List Path) (path : Path) (entry : ℕ) → IsNoted old mid done entry → ((q : Path) → last_in new q ≡ cond (eq_by_cmp path_cmp path q) (Some entry) (last_in mid q)) → IsNoted old new (done ++ path ∷ []) entry
noted_more old mid new done path entry before step q =
    step q ∙ (ap (cond (eq_by_cmp path_cmp path q) (Some entry)) (before q) ∙ (by (eq_by_cmp path_cmp path q) (has_path done q)
    ∙ ap (λ b. cond b (Some entry) (last_in old q)) (ap (λ b. has_path done q || (b || false)) (path_symm path q) ∙ sym (list_any-append (eq_by_cmp path_cmp q) done (path ∷ [])))))
  where
    by : (a b : Bool) → cond a (Some entry) (cond b (Some entry) (last_in old q)) ≡ cond (b || (a || false)) (Some entry) (last_in old q)
    by true true = refl
    by true false = refl
    by false true = refl
    by false false = refl

-- ---- the least stale read

le_trans : (x y z : Path) → IsTrue (is_le (path_cmp x y)) → IsTrue (is_le (path_cmp y z)) → IsTrue (is_le (path_cmp x z))
le_trans x y z xy yz = by (path_cmp y z) refl
  where
    by : (r : Ordering) → path_cmp y z ≡ r → IsTrue (is_le (path_cmp x z))
    by Less e = ap is_le (le_lt_trans path_total x y z xy e)
    by Equal e = subst (λ w. IsTrue (is_le (path_cmp x w))) (path_same y z e) xy
    by Greater e = absurd (true≢false (sym yz ∙ ap is_le e))

le_itself : (x : Path) → IsTrue (is_le (path_cmp x x))
le_itself x = by (path_cmp x x) (path_total.antisymm x x)
  where
    by : (r : Ordering) → r ≡ ordering_reverse r → IsTrue (is_le r)
    by Less e = refl
    by Equal e = refl
    by Greater e = ap is_le e

-- a path that stands at most at the other
abbrev IsAtMost : Option Named → Path → Type 0
IsAtMost None p = ⊥
IsAtMost (Some n) p = IsTrue (is_le (path_cmp n.0 p))

lesser_left : (a b : Option Named) (p : Path) → IsAtMost a p → IsAtMost (lesser a b) p
lesser_left None b p h = absurd h
lesser_left (Some a) None p h = h
lesser_left (Some a) (Some b) p h = by (path_cmp a.0 b.0) refl
  where
    by : (r : Ordering) → path_cmp a.0 b.0 ≡ r → IsAtMost (cond (is_le r) (Some a) (Some b)) p
    by Less e = h
    by Equal e = h
    by Greater e = le_trans b.0 a.0 p (ap is_le (path_total.antisymm b.0 a.0 ∙ ap ordering_reverse e)) h

lesser_right : (a b : Option Named) (p : Path) → IsAtMost b p → IsAtMost (lesser a b) p
lesser_right None b p h = h
lesser_right (Some a) None p h = absurd h
lesser_right (Some a) (Some b) p h = by (is_le (path_cmp a.0 b.0)) refl
  where
    by : (t : Bool) → is_le (path_cmp a.0 b.0) ≡ t → IsAtMost (cond t (Some a) (Some b)) p
    by true e = le_trans a.0 b.0 p e h
    by false e = h

lesser_from : (a b : Option Named) (n : Named) → lesser a b ≡ Some n → (a ≡ Some n) ⊎ (b ≡ Some n)
lesser_from None b n e = inr e
lesser_from (Some a) None n e = inl e
lesser_from (Some a) (Some b) n e = by (is_le (path_cmp a.0 b.0)) e
  where
    by : (t : Bool) → cond t (Some a) (Some b) ≡ Some n → (Some a ≡ Some n) ⊎ (Some b ≡ Some n)
    by true e = inl e
    by false e = inr e

module _ (index : Index) where
  abbrev since : Read → Option Named
  since r = changed_since r.0 r.1.1 (last_in index r.0)

  least_left : (reads : ReadList) (least : Option Named) (p : Path) → IsAtMost least p → IsAtMost (fold (with_read index) least reads) p
  least_left [] least p h = h
  least_left (r ∷ rs) least p h = least_left rs (with_read index least r) p (lesser_left least (since r) p h)

  least_all : (reads : ReadList) (least : Option Named) (k : ℕ) (r : Read) → slice_get reads k ≡ Some r → (p : Path) → IsAtMost (since r) p → IsAtMost (fold (with_read index) least reads) p
  least_all [] least k r at p h = absurd (none-some _ at)
  least_all (q ∷ rs) least zero r at p h =
      least_left rs (with_read index least q) p (lesser_right least (since q) p (subst (λ (r : Read). IsAtMost (since r) p) (sym (same_Some _ _ at)) h))
  least_all (q ∷ rs) least (suc k) r at p h = least_all rs (with_read index least q) k r at p h

  record IsFound (reads : ReadList) (n : Named) : Type 0 where
    place : ℕ
    read : Read
    stands : slice_get reads place ≡ Some read
    changed : since read ≡ Some n

  least_from : (reads : ReadList) (least : Option Named) (n : Named) → fold (with_read index) least reads ≡ Some n → (least ≡ Some n) ⊎ IsFound reads n
  least_from [] least n e = inl e
  least_from (r ∷ rs) least n e = elim (least_from rs (with_read index least r) n e) [
    | inl first ↦ elim (lesser_from least (since r) n first) [
      | inl old ↦ inl old
      | inr here ↦ inr (record { place = 0; read = r; stands = refl; changed = here })
    ]
    | inr later ↦ inr (record { place = suc later.place; read = later.read; stands = later.stands; changed = later.changed })
  ]

-- a read stands among them
record Stands (reads : ReadList) (path : Path) (read : Option Node × ℕ) : Type 0 where
  place : ℕ
  stands : slice_get reads place ≡ Some (path, read)

read_stands : (reads : ReadList) (path : Path) (read : Option Node × ℕ) → read_at reads path ≡ Some read → Stands reads path read
read_stands [] path read e = absurd (none-some _ e)
read_stands (r ∷ rs) path read e = by (eq_by_cmp path_cmp path r.0) refl e (λ f. read_stands rs path read f)
  where
    by : (b : Bool) → eq_by_cmp path_cmp path r.0 ≡ b → cond b (Some r.1) (read_at rs path) ≡ Some read → (read_at rs path ≡ Some read → Stands rs path read) → Stands (r ∷ rs) path read
    by true same e rest = record { place = 0; stands = ap Some (ap (λ (p : Path). (p, r.1)) (sym (path_eq_same path r.0 same)) ∙ ap (λ (read : Option Node × ℕ). (path, read)) (same_Some _ _ e)) }
    by false other e rest = let found = rest e in record { place = suc found.place; stands = found.stands }

record IsSince (path : Path) (position : ℕ) (last : Option ℕ) (n : Named) : Type 0 where
  named : n.0 ≡ path
  entry : last ≡ Some n.1
  after : position ≤ n.1

since_is : (path : Path) (position : ℕ) (last : Option ℕ) (n : Named) → changed_since path position last ≡ Some n → IsSince path position last n
since_is path position None n e = absurd (none-some _ e)
since_is path position (Some entry) n e = by (nat_le position entry) refl e
  where
    by : (t : Bool) → nat_le position entry ≡ t → cond t (Some (path, entry)) None ≡ Some n → IsSince path position (Some entry) n
    by true le e =
        let same : (path, entry) ≡ n = same_Some _ _ e in
        let at : position ≤ entry = grind (arith, nat_tests, le) in
        record { named = sym (ap (λ (n : Named). n.0) same); entry = ap (λ (n : Named). Some n.1) same; after = subst (λ (n : Named). position ≤ n.1) same at }
    by false le e = absurd (none-some _ e)

module _ (log : Log) (index : Index) (right : IsIndex log index) (reads : ReadList) where
  -- a stale read's path stands in the index, with an entry that is no earlier
  last_of : (entry : ℕ) (path : Path) → IsStaleRead log.base log.order reads entry path → (last : ℕ) × (last_in index path ≡ Some last) × (entry ≤ last)
  last_of entry path stale = by (last_in index path) refl (right path)
    where
      by : (last : Option ℕ) → last_in index path ≡ last → MatchOption last (NeverChanged log path) (IsLastChange log path) → (last : ℕ) × (last_in index path ≡ Some last) × (entry ≤ last)
      by None e never = absurd (never entry stale.5)
      by (Some last) e is = (
        last,
        e,
        elim (cases_lt last entry) [
          | inl later ↦ absurd (is.last entry later stale.5)
          | inr most ↦ most
        ],
      )

  at_most : (entry : ℕ) (path : Path) → IsStaleRead log.base log.order reads entry path → IsAtMost (least_stale index reads) path
  at_most entry path stale =
      let read = read_stands reads path (stale.0, stale.1) stale.2 in
      let last = last_of entry path stale in
      let position : stale.1 ≤ entry = stale.3 in
      let later : entry ≤ last.0 = last.2 in
      let le : nat_le stale.1 last.0 ≡ true = grind (arith, nat_tests, position, later) in
      least_all index reads None read.place (path, (stale.0, stale.1)) read.stands path
      (subst (λ (l : Option ℕ). IsAtMost (changed_since path stale.1 l) path) (sym last.1) (subst (λ (t : Bool). IsAtMost (cond t (Some (path, last.0)) None) path) (sym le) (le_itself path)))

  pub none_stale : least_stale index reads ≡ None → IsFreshReads log.base log.order reads
  none_stale none entry path stale = subst (λ (l : Option Named). IsAtMost l path) none (at_most entry path stale)

  pub named : (n : Named) → IsReads reads → least_stale index reads ≡ Some n → IsNamed log reads n.1 n.0
  named n once found = elim (least_from index reads None n found) [
    | inl none ↦ absurd (none-some _ none)
    | inr f ↦
        let since = since_is f.read.0 f.read.1.1 (last_in index f.read.0) n f.changed in
        let there : last_in index n.0 ≡ Some n.1 = ap (last_in index) since.named ∙ since.entry in
        let last : IsLastChange log n.0 n.1 = subst (λ (l : Option ℕ). MatchOption l (NeverChanged log n.0) (IsLastChange log n.0)) there (right n.0) in
        let read : read_at reads n.0 ≡ Some (f.read.1.0, f.read.1.1) = ap (read_at reads) since.named ∙ (sym (lookup-read_at reads f.read.0) ∙ lookup_from_place (eq_by_cmp_equiv path_total) reads f.place f.read.0 f.read.1 once f.stands) in
        record {
          stale = (f.read.1.0, f.read.1.1, read, since.after, changes_within log.base log.order n.1 n.0 last.changed, last.changed);
          last = last;
          least = λ e p stale. subst (λ (l : Option Named). IsAtMost l p) found (at_most e p stale);
        }
  ]
