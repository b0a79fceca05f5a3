use Rattle.std.proofs.Common.{◌<◌, length, map, ap, arith}
use Rattle.std.specs.Slice.Iter.{iter_rest}
use Rattle.std.proofs.lemmas.List.{nil_from_length}
use Rattle.fx_spec.specs.DefViews.{def_tree}
use Rattle.fx_check.proofs.Checking.{handed}
use Rattle.fx_check.proofs.Rests.{next_def, one_within, wrong_def, no_defs, all_left}
use Rattle.fx_check.proofs.text.check_defs.Goals as goal

pub loop-before-init : goal.loop-before-init
loop-before-init c = all_left c.args.defs.now _ c.iter-def-items.ensures.rest

pub returns-in_err-check_def : goal.returns-in_err-check_def
returns-in_err-check_def c =
    handed _ c.from_residual.result c.in_err-check_def.field-0.0 _ c.from_residual.ensures.1
    (wrong_def c.loop-before.invariant (def_tree c.in-Some.def.now) (map def_tree (iter_rest c.next.new.self)) (ap (map def_tree) c.in-Some.ensures.steps) c.in_err-check_def.field-0.0 c.in_err-check_def.ensures)

pub overflow_step-before : goal.overflow_step-before
overflow_step-before c =
    let within : c.loop-before.before < length c.args.defs.now = one_within c.loop-before.invariant (def_tree c.in-Some.def.now) (map def_tree (iter_rest c.next.new.self)) (ap (map def_tree) c.in-Some.ensures.steps) in
    omega (arith, within, c.iter-def-items.ensures.len, c.iter-def-items.ensures.bound)

pub loop-before-preserved : goal.loop-before-preserved
loop-before-preserved c =
    next_def c.loop-before.invariant (def_tree c.in-Some.def.now) (map def_tree (iter_rest c.next.new.self)) (ap (map def_tree) c.in-Some.ensures.steps) _ c.in_ok-check_def.ensures

pub returns : goal.returns
returns c = no_defs c.loop-before.invariant (ap (map def_tree) (nil_from_length _ c.in-None.ensures.steps.0))
