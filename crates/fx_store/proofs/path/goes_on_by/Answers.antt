use Rattle.std.proofs.Common.{rules}
use Rattle.fx_store.proofs.Passing.{goes_on, goes_off}
use Rattle.fx_store.proofs.path.goes_on_by.Goals as goal

pub returns-then-not-passes : goal.returns-then-not-passes
returns-then-not-passes c = goes_off c.args.path.now c.args.way.now c.args.name.now (search rules)

pub returns-in-Some : goal.returns-in-Some
returns-in-Some c = goes_on c.args.path.now c.args.way.now c.next.new.self c.in-Some.next.now c.args.name.now c.eq.result (search rules) c.eq.ensures
