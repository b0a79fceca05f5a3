-- The index of last changes: for each path that an entry has changed, the number of the last such entry.
use Rattle.std.specs.Prelude.{◌≡◌, ℕ, cond, nat_le, List, Option, Some, None, option_map}
use Rattle.std.specs.Borrow.{Bor}
use Rattle.std.specs.List.{fold}
use Rattle.std.specs.Map.{lookup}
use Rattle.std.specs.Ordering.{eq_by_cmp, is_le}
use Rattle.fx_store.specs.declared.node.Node.{Node}
use Rattle.fx_store.specs.Names.{path_cmp, has_path}
use Rattle.fx_view.specs.ReadList.{ReadList}

abbrev pub Index : Type 0
Index = List (List (List ℕ) × ℕ)

abbrev pub last_in : Index → List (List ℕ) → Option ℕ
last_in index path = lookup (eq_by_cmp path_cmp path) index

-- one entry more, which changes these paths
abbrev pub IsNoted : Index → Index → List (List (List ℕ)) → ℕ → Type 0
IsNoted old new changed entry = (path : List (List ℕ)) → last_in new path ≡ cond (has_path changed path) (Some entry) (last_in old path)

-- a path with the last entry that changed it
abbrev pub Named : Type 0
Named = List (List ℕ) × ℕ

abbrev pub named_by : Option (Bor (List (List ℕ)) × ℕ) → Option Named
named_by found = option_map (λ n. (n.0.now, n.1)) found

-- the path with its last change, where that is at or after a position
abbrev pub changed_since : List (List ℕ) → ℕ → Option ℕ → Option Named
changed_since path position None = None
changed_since path position (Some entry) = cond (nat_le position entry) (Some (path, entry)) None

-- the one with the lesser path
abbrev pub lesser : Option Named → Option Named → Option Named
lesser None b = b
lesser (Some a) None = Some a
lesser (Some a) (Some b) = cond (is_le (path_cmp a.0 b.0)) (Some a) (Some b)

abbrev pub with_read : Index → Option Named → List (List ℕ) × (Option Node × ℕ) → Option Named
with_read index least r = lesser least (changed_since r.0 r.1.1 (last_in index r.0))

-- the least of the read paths that an entry has changed at or after its look, with the last entry that changed it
abbrev pub least_stale : Index → ReadList → Option Named
least_stale index reads = fold (with_read index) None reads
