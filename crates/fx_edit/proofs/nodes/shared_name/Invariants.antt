use Rattle.std.proofs.Common.{length}
use Rattle.fx_edit.proofs.nodes.shared_name.Given as goal

abbrev pub decreases-loop-name : goal.decreases-loop-name
decreases-loop-name l = length l.left
