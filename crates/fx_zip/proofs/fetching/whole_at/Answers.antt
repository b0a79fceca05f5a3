use Rattle.fx_zip.proofs.Prelude.{sym, ◌∙◌, shape_tree, same_shape, value_shape, part_of, value_needed}
use Rattle.fx_zip.proofs.Questions.{shaped_follows, misshaped}
use Rattle.fx_zip.proofs.fetching.whole_at.Goals as goal

pub returns-then-has_value_shape-clause-follows : goal.returns-then-has_value_shape-clause-follows
returns-then-has_value_shape-clause-follows g c =
    shaped_follows g.R.Reader.meaning c.args.session.now c.value_at.new.session (same_shape (value_shape (part_of c.args.spec.now)) (shape_tree c.args.shape.now)) (value_needed c.args.path.now c.args.env.now (part_of c.args.spec.now)) c.value_at.result (sym c.has_value_shape.ensures ∙ c.if-has_value_shape.true) c.value_at.ensures.follows

pub returns-else-has_value_shape-clause-follows : goal.returns-else-has_value_shape-clause-follows
returns-else-has_value_shape-clause-follows g c =
    misshaped g.R.Reader.meaning c.args.session.now (same_shape (value_shape (part_of c.args.spec.now)) (shape_tree c.args.shape.now)) (value_needed c.args.path.now c.args.env.now (part_of c.args.spec.now)) (sym c.has_value_shape.ensures ∙ c.if-has_value_shape.false)
