use Rattle.std.proofs.Common.{◌≡◌, ◌∙◌, ℕ, List, map, ap, sym, subst}
use Rattle.std.specs.Slice.Iter.{iter_rest}
use Rattle.fx_expr.specs.ExprTree.{ExprTree}
use Rattle.fx_expr.specs.ShapeTree.{ShapeTree}
use Rattle.fx_expr.specs.Views.{shape_tree}
use Rattle.fx_spec.specs.ParamViews.{param_tree}
use Rattle.fx_spec.specs.WellShaped.{Scope}
use Rattle.fx_check.specs.Faults.{OrFault, ◌>>=◌}
use Rattle.fx_check.specs.Gives.{IsFault}
use Rattle.fx_check.specs.Checked.{checked_arguments, shaped_as}
use Rattle.fx_check.proofs.Checking.{given, fault_then, handed}
use Rattle.fx_check.proofs.spec.arguments_shape.Goals as goal

pub returns-in_err-check_shape : goal.returns-in_err-check_shape
returns-in_err-check_shape c =
    let g : Scope = c.args.scope.now in
    let p : List ℕ × ShapeTree = param_tree c.in-Some-next.param.now in
    let es : List ExprTree = iter_rest c.next.new.self in
    let ps : List (List ℕ × ShapeTree) = map param_tree (iter_rest c.next-in-loop-arg.new.self) in
    let here : checked_arguments g c.args.args.now c.args.params.now ≡ (shaped_as g p.1 c.in-Some.arg.now >>= λ _. checked_arguments g es ps) =
    c.loop-arg.invariant ∙ (λ k. checked_arguments g (c.in-Some.ensures.steps k) (map param_tree (c.in-Some-next.ensures.steps k))) in
    let fault = c.in_err-check_shape.field-0.0 in
    handed shape_tree c.from_residual-in_err-check_shape.result fault _ c.from_residual-in_err-check_shape.ensures.1
    (subst (λ (o : OrFault ShapeTree). IsFault fault o) (sym here)
    (fault_then fault (shaped_as g p.1 c.in-Some.arg.now) (λ _. checked_arguments g es ps)
    (subst (λ (s : ShapeTree). IsFault fault (shaped_as g s c.in-Some.arg.now)) c.in_ok-expected.ensures
    (subst (λ (e : ExprTree). IsFault fault (shaped_as g (shape_tree c.in_ok-expected.expected) e)) c.expr.ensures c.in_err-check_shape.ensures))))

pub loop-arg-preserved : goal.loop-arg-preserved
loop-arg-preserved c =
    let g : Scope = c.args.scope.now in
    let p : List ℕ × ShapeTree = param_tree c.in-Some-next.param.now in
    let es : List ExprTree = iter_rest c.next.new.self in
    let ps : List (List ℕ × ShapeTree) = map param_tree (iter_rest c.next-in-loop-arg.new.self) in
    let here : checked_arguments g c.args.args.now c.args.params.now ≡ (shaped_as g p.1 c.in-Some.arg.now >>= λ _. checked_arguments g es ps) =
    c.loop-arg.invariant ∙ (λ k. checked_arguments g (c.in-Some.ensures.steps k) (map param_tree (c.in-Some-next.ensures.steps k))) in
    here
    ∙ given (shaped_as g p.1 c.in-Some.arg.now) (λ _. checked_arguments g es ps) _
    (ap (λ s. shaped_as g s c.in-Some.arg.now) (sym c.in_ok-expected.ensures)
    ∙ ap (λ e. shaped_as g (shape_tree c.in_ok-expected.expected) e) (sym c.expr.ensures)
    ∙ c.in_ok-check_shape.ensures)
