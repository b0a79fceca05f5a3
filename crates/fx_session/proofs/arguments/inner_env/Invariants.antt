use Rattle.std.proofs.Common.{map}
use Rattle.std.specs.Slice.Iter.{iter_rest}
use Rattle.fx_spec.specs.ParamViews.{param_tree}
use Rattle.fx_session.proofs.ArgumentsLemmas.{IsAtArgument}
use Rattle.fx_session.proofs.arguments.inner_env.Given as goal

abbrev pub invariant-loop-arg : goal.invariant-loop-arg
invariant-loop-arg g l =
    IsAtArgument l.env l.params l.args l.initial.session l.session (map param_tree (iter_rest l.left)) (iter_rest l.arg-iterator) l.inner
