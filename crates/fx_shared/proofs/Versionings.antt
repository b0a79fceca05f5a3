-- The versions of all paths, at the start and with one entry more.
use Rattle.std.proofs.Common.{◌≡◌, ℕ, suc, ◌-◌, ◌<◌, ◌≤◌, true, false, cond, List, [], ◌∷◌, ◌++◌, length, Option, Some, None, refl, sym, ap, subst, ◌∙◌, inl, inr, arith, length-append, append-nil}
use Rattle.std.specs.Prelude.{unwrap_or, nat_lt}
use Rattle.std.specs.FinMap.{get}
use Rattle.std.specs.List.{All}
use Rattle.std.proofs.lemmas.Bool.{cases_lt}
use Rattle.std.proofs.lemmas.Bool.Decides.{nat_tests}
use Rattle.std.proofs.lemmas.List.Elements.{All-nil, All-head, All-tail, All-push, All-weaker, All-get_or}
use Rattle.std.proofs.lemmas.List.Sorted.{IsNonDecreasingBy-short, IsNonDecreasingBy-push}
use Rattle.fx_store.specs.declared.node.Node.{Node}
use Rattle.fx_store.specs.Changes.{IsChanges, change_at}
use Rattle.fx_store.proofs.Overlays.{over-change_at}
use Rattle.fx_store.proofs.Stores.{get-over_nodes}
use Rattle.fx_spec.specs.Plans.{Turn}
use Rattle.fx_spec.specs.Order.{BaseTree, state}
use Rattle.fx_spec.proofs.Orders.{state-front}
use Rattle.fx_machine.specs.declared.attempt.Attempt.{Attempt}
use Rattle.fx_machine.specs.Explained.{IsExplained}
use Rattle.fx_machine.specs.Machine.{next_number}
use Rattle.fx_machine.specs.Passes.{AreTrueReads}
use Rattle.fx_board.specs.Board.{IsLog, IsFreshReads, started, settled}
use Rattle.fx_board.specs.Log.{Log}
use Rattle.fx_board.proofs.Settling.{agrees_now, next_state}
use Rattle.fx_shared.specs.declared.versions.Version.{Version}
use Rattle.fx_shared.specs.Versions.{AreAscending, version_before, version_at, version_of}
use Rattle.fx_shared.specs.Tables.{VersionTable, versions_in, AreAdded}
use Rattle.fx_shared.specs.Kept.{HasVersions}

abbrev Path : Type 0
Path = List (List ℕ)

abbrev IsBelow : ℕ → Version → Type 0
IsBelow n v = v.entry < n

-- ---- one version more

version_at-push : (was : Option Node) (vs : List Version) (v : Version) (i : ℕ) → version_at was (vs ++ v ∷ []) i ≡ version_before i (version_at was vs i) v
version_at-push was [] v i = refl
version_at-push was (w ∷ vs) v i = version_at-push (version_before i was w) vs v i

-- before an entry its versions leave nothing
early : (was : Option Node) (vs : List Version) (n i : ℕ) (o : Option (Option Node)) → i ≤ n → version_at was (vs ++ version_of n o) i ≡ version_at was vs i
early was vs n i None h = ap (λ vs. version_at was vs i) (append-nil vs)
early was vs n i (Some node) h =
    let not_yet : nat_lt n i ≡ false = grind (arith, nat_tests, h) in
    version_at-push was vs (record { entry = n; node = node }) i ∙ ap (λ b. cond b node (version_at was vs i)) not_yet

-- versions below a number have all left what they leave
all_below : (was : Option Node) (vs : List Version) (n : ℕ) → All (IsBelow n) vs → version_at was vs (suc n) ≡ version_at was vs n
all_below was [] n below = refl
all_below was (v ∷ vs) n below =
    let here = All-head (IsBelow n) v vs below in
    let then : nat_lt v.entry (suc n) ≡ true = grind (arith, nat_tests, here) in
    let now : nat_lt v.entry n ≡ true = grind (arith, nat_tests, here) in
    ap (λ b. version_at (cond b v.node was) vs (suc n)) (then ∙ sym now) ∙ all_below (version_before n was v) vs n (All-tail (IsBelow n) v vs below)

-- after it there stands what it has left
late : (was : Option Node) (vs : List Version) (n : ℕ) (o : Option (Option Node)) → All (IsBelow n) vs → version_at was (vs ++ version_of n o) (suc n) ≡ unwrap_or o (version_at was vs n)
late was vs n None below = ap (λ vs. version_at was vs (suc n)) (append-nil vs) ∙ all_below was vs n below
late was vs n (Some node) below =
    let now : nat_lt n (suc n) ≡ true = grind (arith, nat_tests) in
    version_at-push was vs (record { entry = n; node = node }) (suc n) ∙ ap (λ b. cond b node (version_at was vs (suc n))) now

below_more : (vs : List Version) (n : ℕ) (o : Option (Option Node)) → All (IsBelow n) vs → All (IsBelow (suc n)) (vs ++ version_of n o)
below_more vs n None below = subst (All (IsBelow (suc n))) (sym (append-nil vs)) (All-weaker (IsBelow n) (IsBelow (suc n)) (λ v h. omega (arith, h)) vs below)
below_more vs n (Some node) below = All-push (IsBelow (suc n)) vs (record { entry = n; node = node }) (All-weaker (IsBelow n) (IsBelow (suc n)) (λ v h. omega (arith, h)) vs below) (omega arith)

ascend_more : (vs : List Version) (n : ℕ) (o : Option (Option Node)) → All (IsBelow n) vs → AreAscending vs → AreAscending (vs ++ version_of n o)
ascend_more vs n None below up = subst AreAscending (sym (append-nil vs)) up
ascend_more vs n (Some node) below up =
    IsNonDecreasingBy-push (λ (v : Version). v.entry) vs (record { entry = n; node = node }) up
    (λ d some. let last = All-get_or (IsBelow n) vs (length vs - 1) d (omega (arith, some)) below in omega (arith, last))

-- ---- the versions of a log

at_first : (base : BaseTree) (i : ℕ) → i ≤ 0 → state base [] i ≡ base.loaded
unfolding state
at_first base i h = let none : i ≡ 0 = omega (arith, h) in rw none refl

pub begins : (base : BaseTree) (table : VersionTable) → table ≡ [] → HasVersions (started base) table
begins base table none = subst (HasVersions (started base)) (sym none) (record {
  at = λ path i h. ap (λ nodes. get nodes path) (at_first base i h);
  below = λ path. All-nil (IsBelow 0);
  ascend = λ path. IsNonDecreasingBy-short (λ (v : Version). v.entry) [] (omega arith);
})

-- it is one of the tables in which each path has the same versions
pub same_versions : (log : Log) (old new : VersionTable) → HasVersions log old → ((path : Path) → versions_in new path ≡ versions_in old path) → HasVersions log new
same_versions log old new has same = record {
  at = λ path i h. has.at path i h ∙ ap (λ vs. version_at (get log.base.loaded path) vs i) (sym (same path));
  below = λ path. subst (All (IsBelow (length log.order))) (sym (same path)) (has.below path);
  ascend = λ path. subst AreAscending (sym (same path)) (has.ascend path);
}

module _ (log : Log) (old new : VersionTable) (a : Attempt) (has : HasVersions log old) (is : IsLog log) (explained : IsExplained log.base a) (next : a.txn ≡ next_number log.order a.shell) (reads : AreTrueReads log.base log.order a.reads) (fresh : IsFreshReads log.base log.order a.reads) (up : IsChanges a.changes) (added : AreAdded old new a.changes (length log.order)) where
  abbrev n : ℕ
  n = length log.order

  abbrev o : List Turn
  o = log.order ++ (a.shell, a.txn) ∷ []

  left : (path : Path) → get (state log.base o (suc n)) path ≡ unwrap_or (change_at a.changes path) (get (state log.base log.order n) path)
  left path =
      ap (λ nodes. get nodes path) (next_state log.base log.order a explained next is.loaded (agrees_now log.base log.order a.reads reads fresh) up)
      ∙ (get-over_nodes (state log.base log.order n) a.changes path ∙ over-change_at (get (state log.base log.order n)) a.changes up path)

  pub has_more : HasVersions (settled log a.shell a.txn) new
  has_more =
      let one : length o ≡ suc n = omega (arith, length-append log.order ((a.shell, a.txn) ∷ [])) in
      record {
        at = λ path i h.
            let loaded = get log.base.loaded path in
            let vs = versions_in old path in
            subst (λ ws. get (state log.base o i) path ≡ version_at loaded ws i) (sym (added path))
            (elim (cases_lt i (suc n)) [
              | inl before ↦
                  ap (λ nodes. get nodes path) (state-front log.base log.order ((a.shell, a.txn) ∷ []) i (omega (arith, before)))
                  ∙ (has.at path i (omega (arith, before)) ∙ sym (early loaded vs n i (change_at a.changes path) (omega (arith, before))))
              | inr after ↦
                  let last : suc n ≡ i = omega (arith, h, one, after) in
                  subst (λ i. get (state log.base o i) path ≡ version_at loaded (vs ++ version_of n (change_at a.changes path)) i) last
                  (left path ∙ (ap (unwrap_or (change_at a.changes path)) (has.at path n (omega arith)) ∙ sym (late loaded vs n (change_at a.changes path) (has.below path))))
            ]);
        below = λ path. subst (λ k. All (IsBelow k) (versions_in new path)) (sym one) (subst (All (IsBelow (suc n))) (sym (added path)) (below_more (versions_in old path) n (change_at a.changes path) (has.below path)));
        ascend = λ path. subst AreAscending (sym (added path)) (ascend_more (versions_in old path) n (change_at a.changes path) (has.below path) (has.ascend path));
      }
