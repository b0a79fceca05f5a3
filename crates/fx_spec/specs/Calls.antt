-- What the value of a call is, by the calls around it: true where there are fewer than 64 of them, every argument has a value,
-- and the definition's body has a value inside one call more, in which the parameters alone are bound.
use Rattle.std.specs.Prelude.{◌≡◌, ℕ, suc, ◌-◌, ◌<◌, ◌≤◌, List, Option, Some, None}
use Rattle.fx_store.specs.Rule.{Ask, Answer}
use Rattle.fx_expr.specs.ExprTree.{ExprTree}
use Rattle.fx_expr.specs.Tree.{Tree}
use Rattle.fx_spec.specs.Describe.{Bindings, arguments, argument_evals, behind, at_body, value}
use Rattle.fx_spec.specs.Written.{WrittenTree, DefTree, definition, part_tree}

-- the value of a part of a text, around which there are so many calls
abbrev pub value_inside : List DefTree → ℕ → List (List ℕ) → Bindings → WrittenTree → Ask (Option Tree)
value_inside defs level p env d = value p env (part_tree defs (64 - level) d)

pub record CallsUnfold (defs : List DefTree) (p : List (List ℕ)) (env : Bindings) (f : List ℕ) (args : List ExprTree) : Type 0 where
  pub below : (level : ℕ) → level < 64 → (d : DefTree) → definition f defs ≡ Some d
      → value_inside defs level p env (WrittenTree.call f args) ≡ behind (argument_evals env args) (at_body d.params (λ inner. value_inside defs (suc level) p inner d.body) (arguments env args))
  pub above : (level : ℕ) → 64 ≤ level → value_inside defs level p env (WrittenTree.call f args) ≡ Answer None

abbrev pub CallsStandForBodies : Type 0
CallsStandForBodies = (defs : List DefTree) (p : List (List ℕ)) (env : Bindings) (f : List ℕ) (args : List ExprTree) → CallsUnfold defs p env f args
