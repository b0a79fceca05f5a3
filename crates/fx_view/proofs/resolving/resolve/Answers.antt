use Rattle.std.proofs.Common.{Ok, Err}
use Rattle.fx_view.specs.Own.{own_at}
use Rattle.fx_view.specs.Walks.{rule_of}
use Rattle.fx_base.proofs.Errors.{err_of}
use Rattle.fx_view.proofs.Stepping.{steps_landed, steps_on}
use Rattle.fx_view.proofs.resolving.resolve.Goals as goal

pub returns-in_err-step : goal.returns-in_err-step
returns-in_err-step g c = record {
  follows = λ n. rw (err_of c.from_residual.result c.in_err-step.field-0.0 c.from_residual.ensures.1) (c.loop-walk.invariant n (c.step.new.reader, n) (Err c.in_err-step.field-0.0) (c.in_err-step.ensures.rule n));
}

pub returns-in-Some : goal.returns-in-Some
returns-in-Some g c = record {
  follows = λ n.
      c.loop-walk.invariant n (c.step.new.reader, n) (Ok c.in-Some.landing)
      (steps_landed g.R.Reader.meaning (own_at c.args.overlay.now) (c.loop-walk.reader, n) (c.step.new.reader, n) (rule_of c.loop-walk.walk) c.step.new.walk c.in_ok-step.field-0 c.in-Some.landing c.in-Some.is (c.in_ok-step.ensures.rule n));
}

pub loop-walk-preserved : goal.loop-walk-preserved
loop-walk-preserved g c = λ n last result h.
    c.loop-walk.invariant n last result (steps_on g.R.Reader.meaning (own_at c.args.overlay.now) (c.loop-walk.reader, n) (c.step.new.reader, n) (rule_of c.loop-walk.walk) c.step.new.walk c.in_ok-step.field-0 last result c.in-None.is (c.in_ok-step.ensures.rule n) h)
