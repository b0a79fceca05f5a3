use Rattle.std.proofs.Common.{◌≡◌, ◌+◌, ◌++◌, vec_len}
use Rattle.std.specs.List.{All}
use Rattle.fx_disk.specs.Held.{names_of, IsHeldIn}
use Rattle.fx_disk.proofs.entries.look_at_each.Given as goal

abbrev pub invariant-loop-name : goal.invariant-loop-name
invariant-loop-name g l = (vec_len l.entries + l.name-iterator.rest.len ≡ vec_len l.fn.names) × (names_of l.entries.items ++ l.name-iterator.rest.items ≡ l.fn.names.items) × All (IsHeldIn l.folder) l.entries.items
