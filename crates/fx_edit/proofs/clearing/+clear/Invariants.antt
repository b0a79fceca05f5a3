use Rattle.std.proofs.Common.{◌+◌, ◌*◌, ◌-◌, length}
use Rattle.fx_store.specs.Resolve.{◌/ₚ◌}
use Rattle.fx_spec.specs.Edit as edit
use Rattle.fx_edit.proofs.Changing.{IsChanging}
use Rattle.fx_edit.proofs.clearing.+clear.Given as goal

abbrev pub decreases-clear : goal.decreases-clear
decreases-clear g l = 3 * (64 - length l.path.now) + 2

abbrev pub decreases-clear_names : goal.decreases-clear_names
decreases-clear_names g l = 3 * (64 - length l.path.now) + 1

abbrev pub decreases-clear_entry : goal.decreases-clear_entry
decreases-clear_entry g l = 3 * (64 - length l.path.now)

abbrev pub invariant-clear_names-loop-name : goal.invariant-clear_names-loop-name
invariant-clear_names-loop-name g l = IsChanging g.R.Reader.meaning (λ n. edit.clear (l.path /ₚ n)) l.names l.initial.session l.session l.initial.edits l.edits l.name-iterator
