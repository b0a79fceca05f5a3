use Rattle.fx_steps.proofs.Prelude.{◌≡◌, length, Some, refl, ap, arith, tree_of}
use Rattle.fx_steps.proofs.Arguments.{shaped_at, try_first, try_next, try_fails, few_tried, all_tried, few_in_all}
use Rattle.fx_steps.proofs.Sessions.{counts_on}
use Rattle.fx_steps.proofs.evaluating.try_arguments.Goals as goal

pub loop-i-init : goal.loop-i-init
loop-i-init g c = (try_first c.args.env.now c.args.args.now c.args.session.now.steps, refl)

pub evaluate-requires : goal.evaluate-requires
evaluate-requires g c = shaped_at c.args.env.now c.args.args.now c.loop-i.i c.argument.result.now c.argument.ensures c.requires

pub returns-in_err-value-clause-faults : goal.returns-in_err-value-clause-faults
returns-in_err-value-clause-faults g c =
    try_fails c.args.env.now c.args.args.now c.args.session.now.steps c.loop-i.session.steps c.loop-i.i c.loop-i.invariant.0 c.argument.result.now c.argument.ensures c.evaluate.new.session.steps (ap (λ s. s.steps) c.in_err-value.ensures.tick)
    c.in_err-value.field-0.0 c.from_residual.result c.from_residual.ensures.1 c.in_err-value.ensures.value

pub returns-in_err-value-clause-most : goal.returns-in_err-value-clause-most
returns-in_err-value-clause-most g c =
    few_tried c.args.env.now c.args.args.now c.args.session.now.steps c.loop-i.session.steps c.loop-i.i c.loop-i.invariant.0 c.argument.result.now c.argument.ensures c.evaluate.new.session.steps (ap (λ s. s.steps) c.in_err-value.ensures.tick)

pub loop-i-preserved : goal.loop-i-preserved
loop-i-preserved g c = (
  try_next c.args.env.now c.args.args.now c.args.session.now.steps c.loop-i.session.steps c.loop-i.i c.loop-i.invariant.0 c.argument.result.now c.argument.ensures c.evaluate.new.session.steps (ap (λ s. s.steps) c.in_ok-value.ensures.tick)
      (tree_of c.in_ok-value.value) c.in_ok-value.ensures.value,
  counts_on c.args.session.now c.loop-i.session 1 c.loop-i.invariant.1 c.in_ok-value.ensures.tick,
)

pub returns-clause-faults : goal.returns-clause-faults
returns-clause-faults g c =
    let all : length c.args.args.now ≡ c.loop-i.i = omega (arith, c.len-i-end.ensures, c.loop-i.auto.i-end, c.loop-i-test.false) in
    ap Some (all_tried c.args.env.now c.args.args.now c.args.session.now.steps c.loop-i.session.steps c.loop-i.i c.loop-i.invariant.0 all)

pub returns-clause-most : goal.returns-clause-most
returns-clause-most g c =
    let all : length c.args.args.now ≡ c.loop-i.i = omega (arith, c.len-i-end.ensures, c.loop-i.auto.i-end, c.loop-i-test.false) in
    few_in_all c.args.env.now c.args.args.now c.args.session.now.steps c.loop-i.session.steps c.loop-i.i c.loop-i.invariant.0 all

pub returns-in_err-value-clause-still : goal.returns-in_err-value-clause-still
returns-in_err-value-clause-still g c = counts_on c.args.session.now c.loop-i.session 1 c.loop-i.invariant.1 c.in_err-value.ensures.tick

pub returns-clause-still : goal.returns-clause-still
returns-clause-still g c = c.loop-i.invariant.1
