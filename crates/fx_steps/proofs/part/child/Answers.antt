use Rattle.fx_steps.proofs.Prelude.{sym, ap, ◌∙◌, part_of, step_tree}
use Rattle.fx_steps.specs.Parts as parts
use Rattle.fx_steps.proofs.part.child.Goals as goal

pub returns-in-Elem-clause-part : goal.returns-in-Elem-clause-part
returns-in-Elem-clause-part c = c.row_part.ensures.part c.in-Elem.field-0 ∙ ap (λ s. parts.child (step_tree s) (part_of c.args.spec.now)) (sym c.in-Elem.is)
