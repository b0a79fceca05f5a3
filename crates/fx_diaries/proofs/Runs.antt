-- Events lead from a state to one state only.
use Rattle.std.proofs.Common.{◌≡◌, List, [], ◌∷◌, sym, subst, ◌∙◌}
use Rattle.fx_spec.specs.Order.{BaseTree}
use Rattle.fx_machine.specs.declared.event.Event.{Event}
use Rattle.fx_machine.specs.declared.event.Event.TheVariants as event
use Rattle.fx_machine.specs.Machine.{Machine, Step, Run}

pub step_same : (base : BaseTree) (m a b : Machine) (e : Event) → Step base m e a → Step base m e b → a ≡ b
step_same base m a b (event.Look k path position) s t = s.after ∙ sym t.after
step_same base m a b (event.Settled k entry) s t = s.after ∙ sym t.after
step_same base m a b (event.Conflict k entry path) s t = s.after ∙ sym t.after

pub run_same : (base : BaseTree) (m a b : Machine) (events : List Event) → Run base m events a → Run base m events b → a ≡ b
run_same base m a b [] s t = sym s ∙ t
run_same base m a b (e ∷ events) s t =
    run_same base s.0 a b events s.2 (subst (λ n. Run base n events b) (step_same base m t.0 s.0 e t.1 s.1) t.2)
