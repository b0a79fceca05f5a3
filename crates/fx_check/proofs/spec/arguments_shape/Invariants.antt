use Rattle.std.proofs.Common.{◌≡◌, map}
use Rattle.std.specs.Slice.Iter.{iter_rest}
use Rattle.fx_spec.specs.ParamViews.{param_tree}
use Rattle.fx_check.specs.Checked.{checked_arguments}
use Rattle.fx_check.proofs.spec.arguments_shape.Given as goal

abbrev pub invariant-loop-arg : goal.invariant-loop-arg
invariant-loop-arg l = checked_arguments l.scope l.args l.params ≡ checked_arguments l.scope (iter_rest l.arg-iterator) (map param_tree (iter_rest l.left))
