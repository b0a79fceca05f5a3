use Rattle.fx_view.specs.Own.{own_at}
use Rattle.fx_view.specs.Walks.{rule_at}
use Rattle.fx_base.proofs.Errors.{err_of}
use Rattle.fx_view.proofs.Stepping.{steps_after_look, look_stops, look_refused}
use Rattle.fx_view.proofs.resolving.look_into.Goals as goal

pub returns-in_err-node-clause-rule : goal.returns-in_err-node-clause-rule
returns-in_err-node-clause-rule g c = λ n.
    rw (err_of c.from_residual.result c.in_err-node.field-0.0 c.from_residual.ensures.1)
    (look_stops g.R.Reader.meaning (own_at c.args.overlay.now) (c.args.reader.now, n) (c.look.new.reader, n) c.args.path (rule_at c.args.walk.now c.args.name) c.in_err-node.field-0.0 (c.in_err-node.ensures.follows n))

pub returns-in_err-arrive-clause-rule : goal.returns-in_err-arrive-clause-rule
returns-in_err-arrive-clause-rule g c = λ n.
    rw (err_of c.from_residual-in_err-arrive.result _ c.from_residual-in_err-arrive.ensures.1)
    (look_refused g.R.Reader.meaning (own_at c.args.overlay.now) (c.args.reader.now, n) (c.look.new.reader, n) c.args.path (rule_at c.args.walk.now c.args.name) c.in_ok-node.node (c.in_ok-node.ensures.follows n))

pub returns-clause-rule : goal.returns-clause-rule
returns-clause-rule g c = λ n.
    steps_after_look g.R.Reader.meaning (own_at c.args.overlay.now) (c.args.reader.now, n) (c.look.new.reader, n) c.args.path (rule_at c.args.walk.now c.args.name) c.in_ok-node.node c.arrive.new.walk c.in_ok-arrive.field-0 (c.in_ok-node.ensures.follows n) c.in_ok-arrive.ensures.rule
