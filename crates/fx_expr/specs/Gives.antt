-- What a call of the program says of an outcome of the definitions.
use Rattle.std.specs.Prelude.{◌≡◌, Result, Ok, Err}
use Rattle.fx_expr.specs.declared.fault.EvalFault.{EvalFault}
use Rattle.fx_expr.specs.declared.fault.EvalFault.TheVariants.{Fault, NoMemory}
use Rattle.fx_expr.specs.Eval.{Outcome}
use Rattle.fx_expr.specs.Tree.{Tree}

-- the outcome's value, or its fault, exactly; want of memory is free
abbrev pub Gives : {X : Type 0} → (X → Tree) → Result X EvalFault → Outcome → Type 0
Gives view (Ok x) o = o ≡ Ok (view x)
Gives view (Err (Fault f)) o = o ≡ Err f
Gives view (Err NoMemory) o = Unit {0}
