use Rattle.std.proofs.Common.{◌≡◌, take}
use Rattle.fx_spec.specs.Bases.{base_tree}
use Rattle.fx_audit.specs.Orders.{pair_turns, logged}
use Rattle.fx_audit.proofs.replaying.enter_all.Given as goal

abbrev pub invariant-loop-pair : goal.invariant-loop-pair
invariant-loop-pair l = l.board ≡ logged (base_tree l.base.value) (pair_turns (take l.pair-index l.order))
