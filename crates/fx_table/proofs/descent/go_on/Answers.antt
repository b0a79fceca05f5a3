use Rattle.std.proofs.Common.{◌+◌, refl}
use Rattle.fx_table.proofs.Descents.{stays_left}
use Rattle.fx_table.proofs.descent.go_on.Goals as goal

pub returns-clause-left : goal.returns-clause-left
returns-clause-left c = λ nodes. stays_left nodes c.args.levels.now.items c.push.new.self.items c.args.level (c.args.level.next + 1) refl c.in_ok-push.ensures.items
