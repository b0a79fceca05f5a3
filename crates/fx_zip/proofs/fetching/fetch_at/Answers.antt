use Rattle.fx_zip.proofs.Prelude.{Err, sym, ◌∙◌, shape_tree, Refusal, asks_flag, flag_at, fetched, has_fetch_shape, fetch_shape, of_shape, part_of}
use Rattle.fx_session.specs.declared.halt.Halt.TheVariants as halt
use Rattle.fx_zip.proofs.Questions.{flag_follows, form_follows, shaped_follows, misshaped}
use Rattle.fx_zip.proofs.fetching.fetch_at.Goals as goal

pub returns-then-asks_flag-clause-follows : goal.returns-then-asks_flag-clause-follows
returns-then-asks_flag-clause-follows g c =
    flag_follows g.R.Reader.meaning c.args.session.now c.flag_at.new.session (asks_flag (shape_tree c.args.shape.now) (part_of c.args.spec.now)) (flag_at c.args.path.now)
    (of_shape (has_fetch_shape (shape_tree c.args.shape.now) (fetch_shape (part_of c.args.spec.now))) (fetched c.args.path.now c.args.env.now (part_of c.args.spec.now))) c.flag_at.result (sym c.asks_flag.ensures ∙ c.if-asks_flag.true) c.flag_at.ensures.follows

pub returns-then-has_fetch_shape-clause-follows : goal.returns-then-has_fetch_shape-clause-follows
returns-then-has_fetch_shape-clause-follows g c =
    form_follows g.R.Reader.meaning c.args.session.now c.fetched.new.session (asks_flag (shape_tree c.args.shape.now) (part_of c.args.spec.now)) (flag_at c.args.path.now)
    (of_shape (has_fetch_shape (shape_tree c.args.shape.now) (fetch_shape (part_of c.args.spec.now))) (fetched c.args.path.now c.args.env.now (part_of c.args.spec.now))) c.fetched.result (sym c.asks_flag.ensures ∙ c.if-asks_flag.false)
    (shaped_follows g.R.Reader.meaning c.args.session.now c.fetched.new.session (has_fetch_shape (shape_tree c.args.shape.now) (fetch_shape (part_of c.args.spec.now))) (fetched c.args.path.now c.args.env.now (part_of c.args.spec.now)) c.fetched.result (sym c.has_fetch_shape.ensures ∙ c.if-has_fetch_shape.true) c.fetched.ensures.follows)

pub returns-else-has_fetch_shape-clause-follows : goal.returns-else-has_fetch_shape-clause-follows
returns-else-has_fetch_shape-clause-follows g c =
    form_follows g.R.Reader.meaning c.args.session.now c.args.session.now (asks_flag (shape_tree c.args.shape.now) (part_of c.args.spec.now)) (flag_at c.args.path.now)
    (of_shape (has_fetch_shape (shape_tree c.args.shape.now) (fetch_shape (part_of c.args.spec.now))) (fetched c.args.path.now c.args.env.now (part_of c.args.spec.now))) (Err (halt.Refused Refusal.WrongForm)) (sym c.asks_flag.ensures ∙ c.if-asks_flag.false)
    (misshaped g.R.Reader.meaning c.args.session.now (has_fetch_shape (shape_tree c.args.shape.now) (fetch_shape (part_of c.args.spec.now))) (fetched c.args.path.now c.args.env.now (part_of c.args.spec.now)) (sym c.has_fetch_shape.ensures ∙ c.if-has_fetch_shape.false))
