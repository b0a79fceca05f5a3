use Rattle.std.proofs.Common.{◌≡◌, List, subst, rules}
use Rattle.fx_expr.specs.ExprTree.{ExprTree}
use Rattle.fx_spec.specs.declared.spec.Spec.{the_lemmas}
use Rattle.fx_spec.specs.Views.{spec_tree}
use Rattle.fx_spec.specs.WellShaped.{IsCall, IsWritten}
use Rattle.fx_spec.specs.Written.{WrittenTree}
use Rattle.fx_check.proofs.Checking.{arguments_shaped}
use Rattle.fx_check.proofs.settling.+settled.Goals as goal

pub settled-settled_args-requires : goal.settled-settled_args-requires
settled-settled_args-requires t c =
    let args : List ExprTree = c.in-Call.args in
    let tree : spec_tree c.args.spec ≡ WrittenTree.call c.in-Call.name args = search (rules, the_lemmas) in
    let call : IsCall c.requires.0 c.requires.1 c.in-Call.name args = subst (λ w. IsWritten c.requires.0 c.requires.1 w) tree c.requires.2 in
    arguments_shaped c.requires.1 args call.named.params call.arguments
