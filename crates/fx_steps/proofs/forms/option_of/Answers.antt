use Rattle.fx_steps.proofs.Prelude.{◌-◌}
use Rattle.fx_steps.proofs.Unfolding.{call_tree, call_alone}
use Rattle.fx_steps.proofs.forms.option_of.Goals as goal

pub returns-in-Call-clause-form : goal.returns-in-Call-clause-form
returns-in-Call-clause-form c =
    rw (call_tree c.args.spec.now.spec.now c.in-Call.field-0 c.in-Call.field-1 c.in-Call.is) ((call_alone c.args.spec.now.defs.now (64 - c.args.spec.now.level) c.in-Call.field-0 c.in-Call.field-1).option)
