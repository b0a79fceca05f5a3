-- From the stages of reading to the last one.
use Rattle.std.proofs.Common.{ℕ, List, IfSome}
use Rattle.fx_store.specs.Whole.{Nodes}
use Rattle.fx_outside.specs.Host.{HostView, ReadsOnly}
use Rattle.fx_outside.specs.Tree.{Tree}
use Rattle.fx_folder.specs.declared.readying.Out.{Out}
use Rattle.fx_folder.specs.Folder.{IsReady}
use Rattle.fx_spec.specs.Order.{BaseTree}
use Rattle.fx_words.specs.Job.{RunJob}
use Rattle.fx_command.specs.Table.{IsComing}
use Rattle.fx_command.proofs.Told.{if_some_both}
use Rattle.fx_inputs.specs.Inputs.{HasBase}
use Rattle.fx_inputs.proofs.Stages.{then_told}
use Rattle.fx_run_commands.specs.Runs.Answers.{IsRunFrom}
use Rattle.fx_run_commands.specs.Runs.Rows.{run_making}

coming : (t : Tree) (j : RunJob) (base : BaseTree) (last : Nodes) (output : List ℕ) (there : Out) → IsRunFrom base j.mode last output → HasBase t j.inputs base → IsReady t j.out there → IsComing (run_making j) t (last, output) there
coming t j base last output there run is free = record {
  comes = record {
    base = base;
    order = run.order;
    retries = run.retries;
    begins = is;
    complete = run.complete;
    tried = run.tried;
    printed = run.printed;
    last = run.last;
  };
  free = free;
}

pub can_leave : (j : RunJob) (base : BaseTree) (last : Nodes) (output : List ℕ) (there : Out) (a b : HostView) → ReadsOnly a b → IfSome a.told (λ t. HasBase t j.inputs base) → IfSome a.told (λ t. IsReady t j.out there) → IsRunFrom base j.mode last output → IfSome b.told (λ t. IsComing (run_making j) t (last, output) there)
can_leave j base last output there a b reads is free run =
    then_told (λ t. IsComing (run_making j) t (last, output) there) a b reads
    (if_some_both (λ t. HasBase t j.inputs base) (λ t. IsReady t j.out there) (λ t. IsComing (run_making j) t (last, output) there) a.told
    (λ t is free. coming t j base last output there run is free) is free)
