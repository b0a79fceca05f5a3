use Rattle.fx_large_commands.specs.Base.{IsReading}
use Rattle.fx_large_commands.proofs.base.add_scripts.Given as goal

abbrev pub invariant-scripts : goal.invariant-scripts
invariant-scripts l = IsReading l.texts l.k l.plan
