use Rattle.std.proofs.Common.{◌∙◌, map, ap}
use Rattle.std.specs.Slice.Iter.{iter_rest}
use Rattle.std.proofs.lemmas.List.{nil_from_length}
use Rattle.fx_expr.specs.Views.{tree_of}
use Rattle.fx_spec.specs.ParamViews.{param_tree}
use Rattle.fx_session.proofs.ArgumentsLemmas.{argument_shaped, first_argument, steps_so_far, last_steps, last_names, refused_names, refused_steps, few_steps, next_argument, some_parameter}
use Rattle.fx_session.proofs.arguments.inner_env.Goals as goal

pub unreachable-requires : goal.unreachable-requires
unreachable-requires g c = some_parameter c.loop-arg.invariant c.in-Some.ensures.steps (ap (map param_tree) (nil_from_length _ c.in_default.ensures.steps.0))

pub work_out-requires : goal.work_out-requires
work_out-requires g c = argument_shaped c.loop-arg.invariant c.in-Some.ensures.steps (ap (map param_tree) c.in-Some-next.ensures.steps)

pub returns-in_err-value-clause-names : goal.returns-in_err-value-clause-names
returns-in_err-value-clause-names g c =
    refused_names c.loop-arg.invariant c.in-Some.ensures.steps c.in_err-value.ensures.tick
    c.from_residual.result c.in_err-value.field-0.0 c.from_residual.ensures.1 c.in_err-value.ensures.value

pub returns-in_err-value-clause-steps : goal.returns-in_err-value-clause-steps
returns-in_err-value-clause-steps g c =
    refused_steps c.loop-arg.invariant c.in-Some.ensures.steps c.in_err-value.ensures.tick
    c.from_residual.result c.in_err-value.field-0.0 c.from_residual.ensures.1 c.in_err-value.ensures.value

pub returns-in_err-value-clause-most : goal.returns-in_err-value-clause-most
returns-in_err-value-clause-most g c = few_steps c.loop-arg.invariant c.in-Some.ensures.steps c.in_err-value.ensures.tick

pub returns-in_err-bind_value-clause-most : goal.returns-in_err-bind_value-clause-most
returns-in_err-bind_value-clause-most g c = few_steps c.loop-arg.invariant c.in-Some.ensures.steps c.in_ok-value.ensures.tick

pub loop-arg-preserved : goal.loop-arg-preserved
loop-arg-preserved g c =
    next_argument c.loop-arg.invariant c.in-Some.ensures.steps (ap (map param_tree) c.in-Some-next.ensures.steps)
    (tree_of c.in_ok-value.value) c.bind_value.new.env c.in_ok-value.ensures.tick c.in_ok-value.ensures.value c.in_ok-bind_value.ensures.bound

pub loop-arg-init : goal.loop-arg-init
loop-arg-init g c =
    first_argument _ _ c.new-inner.result c.requires c.iter-left.ensures.rest (ap iter_rest c.into_iter-arg-iterator.ensures.into_iter_gives ∙ c.iter-arg-items.ensures.rest) c.new-inner.ensures

pub returns-clause-names : goal.returns-clause-names
returns-clause-names g c = last_names c.loop-arg.invariant (nil_from_length _ c.in-None.ensures.steps.0)

pub returns-clause-steps : goal.returns-clause-steps
returns-clause-steps g c = last_steps c.loop-arg.invariant (nil_from_length _ c.in-None.ensures.steps.0)

pub returns-clause-most : goal.returns-clause-most
returns-clause-most g c = steps_so_far c.loop-arg.invariant
