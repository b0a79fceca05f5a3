use Rattle.fx_spec.specs.Bases.{base_tree}
use Rattle.fx_shared.specs.Crews.{base_of}
use Rattle.fx_views.specs.Viewing.{IsOnlooker}
use Rattle.fx_views.proofs.viewing.look_on.Given as goal

abbrev pub invariant-loop-txn : goal.invariant-loop-txn
invariant-loop-txn g l = IsOnlooker (base_of l.crew) (base_tree l.views.value) l.crew.shares.now l.shell l.txn l.onlooker
