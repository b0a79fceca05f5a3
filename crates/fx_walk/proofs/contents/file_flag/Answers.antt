use Rattle.std.proofs.Common.{true, refl}
use Rattle.fx_spec.specs.Describe as describe
use Rattle.fx_walk.proofs.Standing.{content_answers, content_stops}
use Rattle.fx_walk.proofs.contents.file_flag.Goals as goal

pub returns-in_err-node : goal.returns-in_err-node
returns-in_err-node g c = record { follows = content_stops describe.flag_value refl c.args.path.now true c.from_residual.result c.from_residual.ensures.1 c.in_err-node.ensures.follows }

pub returns : goal.returns
returns g c = record { follows = content_answers describe.flag_value refl c.args.path.now true c.flag_held.result c.flag_held.ensures c.in_ok-node.ensures.follows }
