use Rattle.std.proofs.Common.{refl}
use Rattle.fx_view.proofs.WalkRules.{rule_of-start}
use Rattle.fx_view.proofs.walk.start.Goals as goal

pub returns : goal.returns
returns c = rule_of-start _ c.args.path.now c.args.follow c.root.ensures c.along.ensures refl refl
