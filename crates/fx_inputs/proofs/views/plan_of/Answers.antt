use Rattle.fx_inputs.proofs.Plans.{fits_alone}
use Rattle.fx_inputs.proofs.views.plan_of.Goals as goal

pub add-requires : goal.add-requires
add-requires c = fits_alone c.new-plan.result c.args.script c.new-plan.ensures c.requires.shaped c.requires.few
