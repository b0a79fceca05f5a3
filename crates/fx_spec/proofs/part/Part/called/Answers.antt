use Rattle.std.proofs.Common.{◌≡◌, ◌-◌, arith, sym}
use Rattle.fx_spec.specs.DefViews.{def_tree}
use Rattle.fx_spec.proofs.Calls.{last_above, last_unknown}
use Rattle.fx_spec.proofs.part.Part.called.Goals as goal

pub returns-else-self-lt-CALL_LIMIT-clause-form : goal.returns-else-self-lt-CALL_LIMIT-clause-form
returns-else-self-lt-CALL_LIMIT-clause-form c =
    let none : 64 - c.args.self.now.level ≡ 0 = omega (arith, c.if-self-lt-CALL_LIMIT.false) in
    last_above c.args.self.now.defs.now (64 - c.args.self.now.level) c.args.name.now c.args.args.now (def_tree c.in-Some.def.now) none (sym c.in-Some.ensures)

pub returns-in-None-clause-form : goal.returns-in-None-clause-form
returns-in-None-clause-form c = last_unknown c.args.self.now.defs.now (64 - c.args.self.now.level) c.args.name.now c.args.args.now (sym c.in-None.ensures)
