-- Lists by their places, and reads with one more.
use Rattle.std.proofs.Common.{◌≡◌, ◌⊎◌, inl, inr, ℕ, Bool, true, false, cond, List, [], ◌∷◌, ◌++◌, drop, Option, Some, None, refl}
use Rattle.std.specs.Prelude.{slice_get}
use Rattle.std.specs.Ordering.{eq_by_cmp}
use Rattle.std.proofs.lemmas.List.{drop_all}
use Rattle.std.proofs.lemmas.Option.{same_Some, none-some}
use Rattle.fx_base.proofs.Lists.{none_past}
use Rattle.fx_store.specs.declared.node.Node.{Node}
use Rattle.fx_store.specs.Names.{path_cmp}
use Rattle.fx_store.specs.Orders.{path_eq_same}
use Rattle.fx_view.specs.ReadList.{ReadList}
use Rattle.fx_view.specs.Reads.{read_at}

abbrev Path : Type 0
Path = List (List ℕ)

abbrev Read : Type 0
Read = Option Node × ℕ

-- where nothing is at a place, nothing comes from there on
pub drop_past : {A : Type 0} (xs : List A) (i : ℕ) → slice_get xs i ≡ None → drop i xs ≡ []
drop_past xs i is = drop_all i xs (none_past xs i is)

-- a read is one of those before, or the new one
pub read_more_cases : (reads : ReadList) (path : Path) (read : Read) (q : Path) (r : Read) → read_at (reads ++ (path, read) ∷ []) q ≡ Some r → (read_at reads q ≡ Some r) ⊎ ((q ≡ path) × (read ≡ r))
read_more_cases [] path read q r e = go (eq_by_cmp path_cmp q path) refl e
  where
    go : (b : Bool) → eq_by_cmp path_cmp q path ≡ b → cond b (Some read) None ≡ Some r → (read_at [] q ≡ Some r) ⊎ ((q ≡ path) × (read ≡ r))
    go true is e = inr (path_eq_same q path is, same_Some read r e)
    go false is e = absurd (none-some r e)
read_more_cases (x ∷ xs) path read q r e = go (eq_by_cmp path_cmp q x.0) e (read_more_cases xs path read q r)
  where
    go : (b : Bool) → cond b (Some x.1) (read_at (xs ++ (path, read) ∷ []) q) ≡ Some r → (read_at (xs ++ (path, read) ∷ []) q ≡ Some r → (read_at xs q ≡ Some r) ⊎ ((q ≡ path) × (read ≡ r))) → (cond b (Some x.1) (read_at xs q) ≡ Some r) ⊎ ((q ≡ path) × (read ≡ r))
    go true e rest = inl e
    go false e rest = rest e
