-- A measure that each event lowers: how many transactions are not in the order; then how many shells have looked at a path
-- that an entry has changed since; then how many looks there could yet be.
use Rattle.std.specs.Prelude.{◌≡◌, ◌⊎◌, ℕ, suc, ◌-◌, ◌^◌, ◌<◌, ◌≤◌, ◌&&◌, Bool, true, false, not, cond, nat_eq, nat_le, List, length, Option, Some, None, is_some, bytes_eq, count_by}
use Rattle.std.specs.Cmp.Lexicographic.{pointwise}
use Rattle.std.specs.FinMap.{get}
use Rattle.std.specs.List.{sum_by, list_any}
use Rattle.fx_store.specs.declared.node.Node.{Node}
use Rattle.fx_store.specs.declared.node.Node.TheVariants.{File, Dir, Link}
use Rattle.fx_spec.specs.Plans.{Turn}
use Rattle.fx_spec.specs.Order.{BaseTree, state, first_numbers}
use Rattle.fx_machine.specs.Machine.{Machine, Look, looks_of, next_txn}

abbrev pub same_flag : Bool → Bool → Bool
same_flag true flag = flag
same_flag false flag = not flag

abbrev pub same_node : Option Node → Option Node → Bool
same_node None None = true
same_node (Some (File a exec)) (Some (File b was)) = bytes_eq a b && same_flag exec was
same_node (Some (Dir a)) (Some (Dir b)) = pointwise (pointwise nat_eq) a b
same_node (Some (Link a)) (Some (Link b)) = bytes_eq a b
same_node _ _ = false

-- whether entry `i` changes what stands at the path
abbrev pub changes_at : BaseTree → List Turn → ℕ → List (List ℕ) → Bool
changes_at base o i path = not (same_node (get (state base o i) path) (get (state base o (suc i)) path))

-- whether an entry has changed the path of a look at or after it
abbrev pub is_stale_look : BaseTree → List Turn → Look → Bool
is_stale_look base o l = list_any (λ i. nat_le l.1 i && changes_at base o i l.0) (first_numbers (length o))

abbrev pub is_stale : BaseTree → Machine → ℕ → Bool
is_stale base m shell = list_any (is_stale_look base m.order) (looks_of m shell)

abbrev pub has_left : BaseTree → Machine → ℕ → Bool
has_left base m shell = is_some (next_txn base m.order shell)

-- as many different paths as there can be, by their texts of at most 16,384 bytes
unfoldable pub most_paths : ℕ
most_paths = 257 ^ 16384

abbrev pub looks_left : BaseTree → Machine → ℕ → ℕ
looks_left base m shell = cond (has_left base m shell) (most_paths - length (looks_of m shell)) 0

pub record Measure : Type 0 where
  pub unsettled : ℕ
  pub stale : ℕ
  pub looks : ℕ

abbrev pub shells : BaseTree → List ℕ
shells base = first_numbers (length base.plan)

unfoldable pub measure : BaseTree → Machine → Measure
measure base m = record {
  unsettled = sum_by length base.plan - length m.order;
  stale = count_by (is_stale base m) (shells base);
  looks = sum_by (looks_left base m) (shells base);
}

-- lower by the first of the three numbers in which they differ
abbrev pub IsLower : Measure → Measure → Type 0
IsLower a b = (a.unsettled < b.unsettled) ⊎ ((a.unsettled ≡ b.unsettled) × ((a.stale < b.stale) ⊎ ((a.stale ≡ b.stale) × (a.looks < b.looks))))

-- no shell has looked at more paths than there are
abbrev pub HasRoom : BaseTree → Machine → Type 0
HasRoom base m = (shell : ℕ) → length (looks_of m shell) ≤ most_paths
