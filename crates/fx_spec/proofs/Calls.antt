-- A call has its body's value inside one call more.
use Rattle.std.proofs.Common.{◌≡◌, ℕ, zero, suc, ◌-◌, refl, ap, ◌∙◌, List, [], Option, Some, None, arith}
use Rattle.std.specs.Option.{option_map_or}
use Rattle.fx_store.specs.Rule.{Answer}
use Rattle.fx_expr.specs.ExprTree.{ExprTree}
use Rattle.fx_expr.specs.ShapeTree.{ShapeTree}
use Rattle.fx_spec.specs.Calls.{CallsStandForBodies}
use Rattle.fx_spec.specs.Describe.{Bindings, arguments, argument_evals, behind, at_body, value}
use Rattle.fx_spec.specs.SpecTree.{SpecTree}
use Rattle.fx_spec.specs.Written.{WrittenTree, DefTree, definition, part_tree}

-- what a call of an optional definition means, where it is unfolded no more, and while it is
abbrev pub last_of : List ExprTree → Option DefTree → SpecTree
last_of args o = option_map_or (λ (d : DefTree). SpecTree.last args d.params) o (SpecTree.last args [])

abbrev pub call_of : List DefTree → ℕ → List ExprTree → Option DefTree → SpecTree
call_of defs n args o = option_map_or (λ (d : DefTree). SpecTree.call args d.params (part_tree defs n d.body)) o (SpecTree.last args [])

-- what a call means while it is unfolded, and where it is not any more
pub called_below : (defs : List DefTree) (n : ℕ) (f : List ℕ) (args : List ExprTree) (d : DefTree) → definition f defs ≡ Some d → part_tree defs (suc n) (WrittenTree.call f args) ≡ SpecTree.call args d.params (part_tree defs n d.body)
called_below defs n f args d e = ap (call_of defs n args) e

last_value : (p : List (List ℕ)) (env : Bindings) (args : List ExprTree) (o : Option DefTree) → value p env (last_of args o) ≡ Answer None
unfolding value
last_value p env args None = refl
last_value p env args (Some d) = refl

call_value : (p : List (List ℕ)) (env : Bindings) (args : List ExprTree) (params : _) (s : SpecTree) → value p env (SpecTree.call args params s) ≡ behind (argument_evals env args) (at_body params (λ inner. value p inner s) (arguments env args))
unfolding value
call_value p env args params s = refl

pub calls_stand_for_bodies : CallsStandForBodies
calls_stand_for_bodies defs p env f args = record {
  below = λ level low d e.
      let left : 64 - level ≡ suc (64 - suc level) = omega (arith, low) in
      ap (λ n. value p env (part_tree defs n (WrittenTree.call f args))) left
      ∙ ap (value p env) (called_below defs (64 - suc level) f args d e)
      ∙ call_value p env args d.params (part_tree defs (64 - suc level) d.body);
  above = λ level high.
      let none : 64 - level ≡ 0 = omega (arith, high) in
      ap (λ n. value p env (part_tree defs n (WrittenTree.call f args))) none ∙ last_value p env args (definition f defs);
}

-- a call is the last one at 64 calls, and where its name has no definition
pub last_above : (defs : List DefTree) (n : ℕ) (f : List ℕ) (args : List ExprTree) (d : DefTree) → n ≡ 0 → definition f defs ≡ Some d → (params : List (List ℕ × ShapeTree)) × (part_tree defs n (WrittenTree.call f args) ≡ SpecTree.last args params)
last_above defs n f args d none e = (d.params, ap (λ n. part_tree defs n (WrittenTree.call f args)) none ∙ ap (last_of args) e)

pub last_unknown : (defs : List DefTree) (n : ℕ) (f : List ℕ) (args : List ExprTree) → definition f defs ≡ None → (params : List (List ℕ × ShapeTree)) × (part_tree defs n (WrittenTree.call f args) ≡ SpecTree.last args params)
last_unknown defs zero f args e = ([], ap (last_of args) e)
last_unknown defs (suc n) f args e = ([], ap (call_of defs n args) e)
