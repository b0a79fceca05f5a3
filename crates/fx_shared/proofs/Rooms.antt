-- Lists with more room, and with one version more.
use Rattle.std.proofs.Common.{◌≡◌, ℕ, suc, ◌+◌, ◌<◌, ◌≤◌, Bool, true, false, cond, List, [], ◌∷◌, ◌++◌, length, take, get_or, Some, None, refl, sym, ap, subst, ◌∙◌, arith, append-nil}
use Rattle.std.specs.Prelude.{IsSomeAnd, vec_len, vec_capacity}
use Rattle.std.specs.declared.cmp.Ordering.TheVariants.{Less}
use Rattle.std.specs.Ordering.{eq_by_cmp, is_eq}
use Rattle.std.specs.List.{AllByRecursion}
use Rattle.std.specs.List.Sorted.{IsStrictlySortedBy}
use Rattle.std.proofs.Math.Seq.{take-suc}
use Rattle.std.proofs.lemmas.List.{take_all}
use Rattle.std.proofs.lemmas.List.Elements.{All-nil, All-head, All-tail, All-cons, All-push, All-weaker}
use Rattle.fx_store.specs.declared.changes.Change.{Change}
use Rattle.fx_store.specs.Changes.{IsChanges, changed_paths, change_at}
use Rattle.fx_store.specs.Names.{path_cmp}
use Rattle.fx_store.specs.Orders.{path_eq_same}
use Rattle.fx_store.proofs.Tables.{path_symm}
use Rattle.fx_store.proofs.Overlays.{none_above}
use Rattle.fx_shared.specs.declared.versions.Version.{Version}
use Rattle.fx_shared.specs.Versions.{version_of}
use Rattle.fx_shared.specs.Tables.{Listed, VersionTable, list_in, listed, versions_in, IsSpare, HasRoom, HaveRoom, IsRoomier, HasOneMore}

abbrev Path : Type 0
Path = List (List ℕ)

abbrev IsAt : Path → Path → Bool
IsAt path q = eq_by_cmp path_cmp path q

-- one path's list is replaced
module _ (old new : VersionTable) (path : Path) (w : Listed) (updates : (q : Path) → list_in new q ≡ cond (IsAt path q) (Some w) (list_in old q)) where
  pub roomier : w.items ≡ versions_in old path → (HasRoom old path → IsSpare w) → IsRoomier old new
  roomier same room = record {
    same = λ q. ap listed (updates q) ∙ items q (IsAt path q) refl;
    kept = λ q had. subst (λ o. IsSomeAnd o IsSpare) (sym (updates q)) (spare q (IsAt path q) refl had);
  }
    where
      items : (q : Path) (b : Bool) → IsAt path q ≡ b → listed (cond b (Some w) (list_in old q)) ≡ versions_in old q
      items q true e = same ∙ ap (versions_in old) (path_eq_same path q e)
      items q false e = refl

      spare : (q : Path) (b : Bool) → IsAt path q ≡ b → HasRoom old q → IsSomeAnd (cond b (Some w) (list_in old q)) IsSpare
      spare q true e had = room (subst (HasRoom old) (sym (path_eq_same path q e)) had)
      spare q false e had = had

  -- the list that stood there has room for one more, or has what room it had
  pub reserved : (v : Listed) → list_in old path ≡ Some v → w.items ≡ v.items → vec_len w ≡ vec_len v → vec_capacity v ≤ vec_capacity w → IsRoomier old new
  reserved v stood items len capacity =
      roomier (items ∙ sym (ap listed stood)) (λ had. let spare : IsSpare v = subst (λ o. IsSomeAnd o IsSpare) stood had in omega (arith, spare, len, capacity))

  -- an empty list is new there
  pub inserted : list_in old path ≡ None → w.items ≡ [] → vec_len w + 1 ≤ vec_capacity w → IsRoomier old new
  inserted none items room = roomier (items ∙ sym (ap listed none)) (λ had. omega (arith, room))

pub roomier_then : (old mid new : VersionTable) → IsRoomier old mid → IsRoomier mid new → IsRoomier old new
roomier_then old mid new a b = record { same = λ q. b.same q ∙ a.same q; kept = λ q had. b.kept q (a.kept q had) }

-- ---- room for one change more

abbrev HasRoomFor : VersionTable → Change → Type 0
HasRoomFor table c = HasRoom table c.path

pub room_first : (table : VersionTable) (c : Change) (cs : List Change) → HaveRoom table (c ∷ cs) → HasRoom table c.path
room_first table c cs room = All-head (HasRoomFor table) c cs room

pub rooms_more : (old new : VersionTable) (cs : List Change) (i : ℕ) (c : Change) → IsRoomier old new → i < length cs → c ≡ get_or cs i c → HasRoom new c.path → HaveRoom old (take i cs) → HaveRoom new (take (i + 1) cs)
rooms_more old new cs i c more within at here before =
    let one : i + 1 ≡ suc i = omega arith in
    subst (HaveRoom new) (sym (ap (λ k. take k cs) one ∙ (take-suc cs i c within ∙ ap (λ d. take i cs ++ d ∷ []) (sym at))))
    (All-push (HasRoomFor new) (take i cs) c (All-weaker (HasRoomFor old) (HasRoomFor new) (λ d. more.kept d.path) (take i cs) before) here)

pub rooms_all : (table : VersionTable) (cs : List Change) (i : ℕ) → length cs ≤ i → HaveRoom table (take i cs) → HaveRoom table cs
rooms_all table cs i past room = subst (HaveRoom table) (take_all i cs past) room

-- ---- one change made

module _ (old new : VersionTable) (path : Path) (version : Version) (one : HasOneMore old new path version) where
  rooms_of : (cs : List Change) → AllByRecursion (λ q. path_cmp path q ≡ Less) (changed_paths cs) → HaveRoom old cs → HaveRoom new cs
  rooms_of [] above room = All-nil (HasRoomFor new)
  rooms_of (c ∷ cs) above room =
      All-cons (HasRoomFor new) c cs
      (subst (λ o. IsSomeAnd o IsSpare) (sym (one.others c.path (ap is_eq above.0))) (All-head (HasRoomFor old) c cs room))
      (rooms_of cs above.1 (All-tail (HasRoomFor old) c cs room))

module _ (old new : VersionTable) (c : Change) (cs : List Change) (entry : ℕ) (one : HasOneMore old new c.path (record { entry = entry; node = c.node })) where
  pub rooms_left : IsChanges (c ∷ cs) → HaveRoom old (c ∷ cs) → HaveRoom new cs
  unfolding IsStrictlySortedBy
  rooms_left up room = rooms_of old new c.path (record { entry = entry; node = c.node }) one cs up.0 (All-tail (HasRoomFor old) c cs room)

  pub added_with_rest : IsChanges (c ∷ cs) → (q : Path) → versions_in new q ++ version_of entry (change_at cs q) ≡ versions_in old q ++ version_of entry (change_at (c ∷ cs) q)
  unfolding IsStrictlySortedBy
  added_with_rest up q = by (eq_by_cmp path_cmp q c.path) refl
    where
      by : (b : Bool) → eq_by_cmp path_cmp q c.path ≡ b → versions_in new q ++ version_of entry (change_at cs q) ≡ versions_in old q ++ version_of entry (cond b (Some c.node) (change_at cs q))
      by true e =
          let same = path_eq_same q c.path e in
          ap (λ o. versions_in new q ++ version_of entry o) (ap (change_at cs) same ∙ none_above cs c.path up.0)
          ∙ (append-nil (versions_in new q) ∙ (ap (versions_in new) same ∙ (one.here ∙ ap (λ p. versions_in old p ++ record { entry = entry; node = c.node } ∷ []) (sym same))))
      by false e = ap (λ o. listed o ++ version_of entry (change_at cs q)) (one.others q (path_symm c.path q ∙ e))

pub ascending_rest : (c : Change) (cs : List Change) → IsChanges (c ∷ cs) → IsChanges cs
unfolding IsStrictlySortedBy
ascending_rest c cs up = up.1
