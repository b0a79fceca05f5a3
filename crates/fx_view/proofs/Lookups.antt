-- Look-ups by path: what the tables answer is what the definitions say.
use Rattle.std.proofs.Common.{◌≡◌, ℕ, zero, suc, ◌+◌, not, Bool, true, false, cond, List, [], ◌∷◌, ◌++◌, map, slice_get, Option, Some, None, refl, sym, ap, subst, arith}
use Rattle.std.specs.Prelude.{position}
use Rattle.std.specs.List.{IsDistinct, position_or_len}
use Rattle.std.specs.Map.{lookup, keys_of}
use Rattle.std.proofs.lemmas.Option.{same_Some}
use Rattle.std.specs.Ordering.{eq_by_cmp}
use Rattle.indexmap.specs.IndexMap.{insert_entry}
use Rattle.fx_store.specs.declared.node.Node.{Node}
use Rattle.fx_store.specs.Names.{path_cmp}
use Rattle.fx_view.specs.ReadList.{ReadList}
use Rattle.fx_view.specs.OwnList.{OwnList}
use Rattle.fx_view.specs.Reads.{read_at, placed, count_before, IsReads}
use Rattle.fx_view.specs.Own.{own_at, put_own}

abbrev Path : Type 0
Path = List (List ℕ)

pub lookup-read_at : (reads : ReadList) (path : Path) → lookup (eq_by_cmp path_cmp path) reads ≡ read_at reads path
lookup-read_at [] path = refl
lookup-read_at (e ∷ es) path = ap (cond (eq_by_cmp path_cmp path e.0) (Some e.1)) (lookup-read_at es path)

pub lookup-own_at : (own : OwnList) (path : Path) → lookup (eq_by_cmp path_cmp path) own ≡ own_at own path
lookup-own_at [] path = refl
lookup-own_at (e ∷ es) path = ap (cond (eq_by_cmp path_cmp path e.0) (Some e.1)) (lookup-own_at es path)

-- an own change that is set, as the table sets it
pub insert-put_own : (own : OwnList) (path : Path) (now : Option Node) → insert_entry (eq_by_cmp path_cmp) own path now ≡ put_own own path now
insert-put_own [] path now = refl
insert-put_own (e ∷ es) path now = ap (λ rest. cond (eq_by_cmp path_cmp path e.0) ((e.0, now) ∷ es) (e ∷ rest)) (insert-put_own es path now)

-- a read of a new path, as the table adds it
pub insert-new : (reads : ReadList) (path : Path) (read : Option Node × ℕ) → read_at reads path ≡ None → insert_entry (eq_by_cmp path_cmp) reads path read ≡ reads ++ (path, read) ∷ []
insert-new [] path read none = refl
insert-new (e ∷ es) path read none = first (eq_by_cmp path_cmp path e.0) none (insert-new es path read)
  where
    first : (b : Bool) → cond b (Some e.1) (read_at es path) ≡ None → (read_at es path ≡ None → insert_entry (eq_by_cmp path_cmp) es path read ≡ es ++ (path, read) ∷ []) → cond b ((e.0, read) ∷ es) (e ∷ insert_entry (eq_by_cmp path_cmp) es path read) ≡ e ∷ (es ++ (path, read) ∷ [])
    first true found rest = cc
    first false found rest = ap (λ es. e ∷ es) (rest found)

-- ---- a read at another position

abbrev Read : Type 0
Read = Option Node × ℕ

-- the entries with w as the value at an index, as a table writes it
abbrev pub written : {K X : Type 0} → List (K × X) → ℕ → X → List (K × X)
written [] i w = []
written (e ∷ es) zero w = (e.0, w) ∷ es
written (e ∷ es) (suc i) w = e ∷ written es i w

pub placed_is : (reads : ReadList) (i : ℕ) (read : Read) (position : ℕ) → slice_get (map (λ (e : Path × Read). e.1) reads) i ≡ Some read → written reads i (read.0, position) ≡ placed i position reads
placed_is [] i read position is = refl
placed_is (e ∷ es) zero read position is = ap (λ (r : Read). (e.0, (r.0, position)) ∷ es) (sym (same_Some e.1 read is))
placed_is (e ∷ es) (suc i) read position is = ap (λ es. e ∷ es) (placed_is es i read position is)

pub placed_keys : (reads : ReadList) (i position : ℕ) → keys_of (placed i position reads) ≡ keys_of reads
placed_keys [] i position = refl
placed_keys (e ∷ es) zero position = refl
placed_keys (e ∷ es) (suc i) position = ap (λ ks. e.0 ∷ ks) (placed_keys es i position)

pub placed_once : (reads : ReadList) (i position : ℕ) → IsReads reads → IsReads (placed i position reads)
placed_once reads i position once = subst (IsDistinct (eq_by_cmp path_cmp)) (sym (placed_keys reads i position)) once

-- ---- the reads before a path's

module _ (path : Path) where
  abbrev is : Path → Bool
  is = eq_by_cmp path_cmp path

  pub count_position : (reads : ReadList) → position_or_len is (keys_of reads) ≡ count_before (path ∷ []) reads
  count_position [] = refl
  count_position (e ∷ es) = at (is e.0) (count_position es)
    where
      at : (b : Bool) → position_or_len is (keys_of es) ≡ count_before (path ∷ []) es → cond (not b) (1 + position_or_len is (keys_of es)) 0 ≡ cond (cond b true false) 0 (suc (count_before (path ∷ []) es))
      at true rest = refl
      at false rest = omega (arith, rest)
