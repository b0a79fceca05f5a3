use Rattle.std.proofs.Common.{◌≡◌}
use Rattle.fx_view.specs.Own.{put_all}
use Rattle.fx_edit.proofs.edits.Edits.put_all.Given as goal

abbrev pub invariant-loop-change : goal.invariant-loop-change
invariant-loop-change l = l.overlay ≡ put_all l.initial.overlay l.yielded
