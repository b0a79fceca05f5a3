use Rattle.fx_edit.proofs.Relists.{relisting_next, relisting_stops, relisting_ends}
use Rattle.fx_edit.proofs.relisting.change_entries.Goals as goal

pub returns-in_err-change_entry : goal.returns-in_err-change_entry
returns-in_err-change_entry g c = record { follows = relisting_stops c.loop-name.invariant c.in-Some.ensures.next c.from_residual.result c.from_residual.ensures.1 c.in_err-change_entry.ensures.follows }

pub loop-name-preserved : goal.loop-name-preserved
loop-name-preserved g c = relisting_next c.loop-name.invariant c.in-Some.ensures.next c.in-Some.ensures.left c.in_ok-change_entry.ensures.follows

pub returns : goal.returns
returns g c = record { follows = relisting_ends c.loop-name.invariant c.in_default.ensures.next }
