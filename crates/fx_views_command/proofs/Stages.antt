-- From the stages of reading to the last one.
use Rattle.std.proofs.Common.{ℕ, List, IfSome}
use Rattle.fx_store.specs.Whole.{Nodes}
use Rattle.fx_outside.specs.Host.{HostView, ReadsOnly}
use Rattle.fx_outside.specs.Tree.{Tree}
use Rattle.fx_folder.specs.declared.readying.Out.{Out}
use Rattle.fx_folder.specs.Folder.{IsReady}
use Rattle.fx_spec.specs.Order.{BaseTree}
use Rattle.fx_spec.specs.Plans.{script_of}
use Rattle.fx_words.specs.Job.{ViewsJob}
use Rattle.fx_inputs.specs.Views.{HasBases, HasViewsInputs}
use Rattle.fx_inputs.proofs.Stages as inputs
use Rattle.fx_inputs.proofs.Stages.{then_told}
use Rattle.fx_command.specs.Table.{IsComing}
use Rattle.fx_command.proofs.Told.{if_some_both, if_some_map}
use Rattle.fx_views_command.specs.Answers.{IsViewsRunFrom}
use Rattle.fx_views_command.specs.Rows.{views_making}

has_inputs : (t : Tree) (j : ViewsJob) (base views : BaseTree) → HasBases t j base views → HasViewsInputs t j
has_inputs t j base views is = (((base.description, is.begins.spec), (script_of views.plan 0, is.alone)), inputs.has_inputs t j.inputs base is.begins)

pub inputs_read : (j : ViewsJob) (base views : BaseTree) (a b : HostView) → ReadsOnly a b → IfSome a.told (λ t. HasBases t j base views) → IfSome b.told (λ t. HasViewsInputs t j)
inputs_read j base views a b reads is =
    then_told (λ t. HasViewsInputs t j) a b reads (if_some_map (λ t. HasBases t j base views) (λ t. HasViewsInputs t j) a.told (λ t is. has_inputs t j base views is) is)

coming : (t : Tree) (j : ViewsJob) (base views : BaseTree) (last : Nodes) (output : List ℕ) (there : Out) → IsViewsRunFrom base (script_of views.plan 0) last output → HasBases t j base views → IsReady t j.out there → IsComing (views_making j) t (last, output) there
coming t j base views last output there run is free = record {
  comes = record {
    base = base;
    views = script_of views.plan 0;
    order = run.order;
    retries = run.retries;
    answers = run.answers;
    begins = is.begins;
    read = is.alone;
    complete = run.complete;
    tried = run.tried;
    traced = run.traced;
    viewed = run.viewed;
    printed = run.printed;
    last = run.last;
  };
  free = free;
}

pub can_leave : (j : ViewsJob) (base views : BaseTree) (last : Nodes) (output : List ℕ) (there : Out) (a b c : HostView) → ReadsOnly a b → ReadsOnly b c → IfSome a.told (λ t. HasBases t j base views) → IfSome b.told (λ t. IsReady t j.out there) → IsViewsRunFrom base (script_of views.plan 0) last output → IfSome c.told (λ t. IsComing (views_making j) t (last, output) there)
can_leave j base views last output there a b c first then is free run =
    then_told (λ t. IsComing (views_making j) t (last, output) there) b c then
    (if_some_both (λ t. HasBases t j base views) (λ t. IsReady t j.out there) (λ t. IsComing (views_making j) t (last, output) there) b.told
    (λ t is free. coming t j base views last output there run is free) (then_told _ a b first is) free)
