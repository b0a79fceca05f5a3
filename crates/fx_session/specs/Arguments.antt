-- What a call gives of its arguments: the names of its body, or the first fault.
use Rattle.std.specs.Prelude.{◌≡◌, ℕ, List, Result, Ok, Err}
use Rattle.fx_expr.specs.declared.fault.EvalFault.{EvalFault}
use Rattle.fx_expr.specs.declared.fault.EvalFault.TheVariants.{Fault, NoMemory}
use Rattle.fx_expr.specs.declared.fault.ExprFault.{ExprFault}
use Rattle.fx_expr.specs.ExprTree.{ExprTree}
use Rattle.fx_expr.specs.ShapeTree.{ShapeTree}
use Rattle.fx_expr.specs.Shapes.{BindingsHave}
use Rattle.fx_expr.specs.Tree.{Tree}
use Rattle.fx_spec.specs.Describe.{Bindings, arguments, with_values}
use Rattle.fx_spec.specs.WellShaped.{Scope, AreArguments}

-- the arguments have the shapes of the parameters, in some shapes that the bound values have
pub record HaveShapes (env : Bindings) (params : List (List ℕ × ShapeTree)) (args : List ExprTree) : Type 0 where
  pub scope : Scope
  pub bindings : BindingsHave env scope
  pub arguments : AreArguments scope args params

-- the parameters with the values of the arguments, or the first fault
abbrev pub with_each : List (List ℕ × ShapeTree) → Result (List Tree) ExprFault → Result Bindings ExprFault
with_each params (Ok vs) = Ok (with_values params vs)
with_each params (Err f) = Err f

abbrev pub inner_names : Bindings → List (List ℕ × ShapeTree) → List ExprTree → Result Bindings ExprFault
inner_names env params args = with_each params (arguments env args)

-- the call answers these names, or the fault, exactly; want of memory is free
abbrev pub GivesNames : Result Bindings EvalFault → Result Bindings ExprFault → Type 0
GivesNames (Ok names) given = given ≡ Ok names
GivesNames (Err (Fault f)) given = given ≡ Err f
GivesNames (Err NoMemory) given = Unit {0}

-- a statement of calls that are not refused for want of memory
abbrev pub UnlessRefused : Result Bindings EvalFault → Type 0 → Type 0
UnlessRefused (Ok names) P = P
UnlessRefused (Err (Fault f)) P = P
UnlessRefused (Err NoMemory) P = Unit {0}
