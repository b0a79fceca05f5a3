use Rattle.fx_steps.proofs.Prelude.{◌-◌, sym, ap, ◌∙◌, shape_tree, same_shape}
use Rattle.fx_spec.specs.Views.{spec_tree}
use Rattle.fx_spec.proofs.Meaning.{part_shape}
use Rattle.fx_steps.proofs.shapes.has_value_shape.Goals as goal

pub returns : goal.returns
returns c = c.has_written_shape.ensures ∙ ap (λ s. same_shape s (shape_tree c.args.shape.now)) (sym (part_shape c.args.spec.now.defs.now (64 - c.args.spec.now.level) (spec_tree c.args.spec.now.spec.now)))
