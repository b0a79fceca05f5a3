use Rattle.std.proofs.Common.{◌≡◌, List, ◌∙◌, sym, ap, subst, Ok, rules}
use Rattle.fx_expr.specs.ShapeTree.{ShapeTree}
use Rattle.fx_expr.specs.Views.{shape_tree}
use Rattle.fx_spec.specs.declared.spec.Spec.{the_lemmas}
use Rattle.fx_spec.specs.Written.{WrittenTree, DefTree}
use Rattle.fx_spec.specs.Views.{spec_tree}
use Rattle.fx_spec.specs.WellShaped.{Scope}
use Rattle.fx_check.specs.Faults.{OrFault}
use Rattle.fx_check.specs.Checked.{checked, with_name}
use Rattle.fx_check.specs.Gives.{Gives}
use Rattle.fx_check.proofs.Checking.{Named, name_is_free, pair_checked}
use Rattle.fx_check.proofs.spec.+value_shape.Goals as goal

pub returns-in_ok-shape-in-Pair-2-clause-shape : goal.returns-in_ok-shape-in-Pair-2-clause-shape
returns-in_ok-shape-in-Pair-2-clause-shape t c =
    let defs : List DefTree = c.args.defs.now in
    let g : Scope = c.args.scope.now in
    let a : WrittenTree = spec_tree c.in-Pair.first.value in
    let b : WrittenTree = spec_tree c.in-Pair.second.value in
    let s : ShapeTree = shape_tree c.in_ok-shape-in-Pair.shape in
    let inner : Scope = c.bind.new.self in
    let tree : spec_tree c.args.spec.now ≡ WrittenTree.pair c.in-Pair.word a b = search (rules, the_lemmas) in
    let first : checked defs g a ≡ Ok s = ap (λ x. checked defs g (spec_tree x)) (sym c.deref-in-Pair.ensures) ∙ c.in_ok-shape-in-Pair.ensures.shape in
    let name : with_name g c.in-Pair.word s ≡ Ok inner = ap (λ h. with_name h c.in-Pair.word s) (sym c.in_ok-shape-in-Pair.ensures.same) ∙ c.in_ok-bind-in-Pair.ensures in
    let second : checked defs inner b ≡ Ok (shape_tree c.in_ok-shape-in-Pair-2.shape) = ap (λ x. checked defs inner (spec_tree x)) (sym c.deref-in-Pair-2.ensures) ∙ c.in_ok-shape-in-Pair-2.ensures.shape in
    let named : Named g c.in-Pair.word s inner = name_is_free g c.in-Pair.word s inner name in
    subst (λ (o : OrFault ShapeTree). Gives shape_tree c.pair_shape.result o) (sym (ap (λ d. checked defs g d) tree ∙ pair_checked defs g inner c.in-Pair.word a b s _ first name second))
    (c.pair_shape.ensures.shape g c.in-Pair.word s (c.in_ok-shape-in-Pair-2.ensures.same ∙ named.is))
