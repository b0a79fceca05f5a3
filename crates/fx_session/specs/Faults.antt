-- Why a call gives no answer where an expression or a path is at fault.
use Rattle.fx_expr.specs.declared.fault.EvalFault.{EvalFault}
use Rattle.fx_expr.specs.declared.fault.EvalFault.TheVariants as eval
use Rattle.fx_store.specs.declared.name.PathFault.{PathFault}
use Rattle.fx_store.specs.declared.name.PathFault.TheVariants as path
use Rattle.fx_spec.specs.declared.refusal.Refusal.{Refusal}
use Rattle.fx_view.specs.declared.reader.Stop.TheVariants as stop
use Rattle.fx_session.specs.declared.halt.Halt.{Halt}
use Rattle.fx_session.specs.declared.halt.Halt.TheVariants as halt

abbrev pub of_eval : EvalFault → Halt
of_eval (eval.Fault fault) = halt.Refused (Refusal.Expr fault)
of_eval eval.NoMemory = halt.Stopped stop.NoMemory

abbrev pub of_path : PathFault → Halt
of_path path.BadName = halt.Refused Refusal.BadName
of_path path.TooDeep = halt.Refused Refusal.TooDeep
of_path path.NoMemory = halt.Stopped stop.NoMemory
