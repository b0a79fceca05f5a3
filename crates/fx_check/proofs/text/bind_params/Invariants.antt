use Rattle.std.proofs.Common.{◌≡◌, map}
use Rattle.std.specs.Slice.Iter.{iter_rest}
use Rattle.fx_spec.specs.ParamViews.{param_tree}
use Rattle.fx_check.specs.Checked.{with_params}
use Rattle.fx_check.proofs.text.bind_params.Given as goal

abbrev pub invariant-loop-param : goal.invariant-loop-param
invariant-loop-param l = with_params l.initial.scope l.params ≡ with_params l.scope (map param_tree (iter_rest l.param-iterator))
