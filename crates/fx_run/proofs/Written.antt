-- A command as it is written.
use Rattle.std.proofs.Common.{◌≡◌, ℕ, Result, ap, sym, subst}
use Rattle.fx_spec.specs.declared.command.Command.{Command}
use Rattle.fx_spec.specs.CommandTree.{count}
use Rattle.fx_spec.specs.Describe.{Bindings}
use Rattle.fx_spec.specs.Transaction.{run}
use Rattle.fx_spec.specs.Views.{command_tree}
use Rattle.fx_view.specs.Meaning.{Meaning}
use Rattle.fx_run.specs.declared.leave.Leave.{Leave}
use Rattle.fx_run.specs.declared.work.Work.{Work}
use Rattle.fx_run.specs.Scopes.{HasCommand, Scopes}
use Rattle.fx_run.specs.Works.{root_of, standing_of, IsSound, Obeys, IsQuiet}
use Rattle.fx_run.proofs.Obeyed.{obeys_quiet}

module _ (given written : Command) (is : given ≡ written) where
  pub comes_as : (vars : Bindings) → HasCommand vars (command_tree given) → HasCommand vars (command_tree written)
  comes_as vars h = subst (λ k. HasCommand vars (command_tree k)) is h

  pub counts_as : count (command_tree given) ≡ count (command_tree written)
  counts_as = ap (λ k. count (command_tree k)) is

  pub scopes_as : (old new : Bindings) (r : Result (Unit {0}) Leave) → Scopes (command_tree written) old new r → Scopes (command_tree given) old new r
  scopes_as old new r h = subst (λ k. Scopes (command_tree k) old new r) (sym is) h

  module _ {R L : Type 0} {m : Meaning R} (i : ℕ) {old new : Work R L} {r : Result (Unit {0}) Leave} where
    pub obeys_as : Obeys m (run (root_of old) i (command_tree written) (standing_of old)) old new r → Obeys m (run (root_of old) i (command_tree given) (standing_of old)) old new r
    obeys_as h = subst (λ k. Obeys m (run (root_of old) i (command_tree k) (standing_of old)) old new r) (sym is) h

    pub quiet_as : IsSound m old.walk → IsQuiet (run (root_of old) i (command_tree written) (standing_of old)) old new r → Obeys m (run (root_of old) i (command_tree given) (standing_of old)) old new r
    quiet_as sound h = obeys_as (obeys_quiet sound h)
