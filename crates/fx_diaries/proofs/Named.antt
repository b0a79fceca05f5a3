-- What the conflicts of a run name, as its events come.
use Rattle.std.proofs.Common.{◌≡◌, List, [], ◌∷◌, ◌++◌, sym, ap, subst, ◌∙◌}
use Rattle.fx_spec.specs.Order.{BaseTree}
use Rattle.fx_machine.specs.declared.event.Event.{Event}
use Rattle.fx_machine.specs.Machine.{Machine, Step, Run}
use Rattle.fx_diaries.specs.Named.{NamesConflict, NameConflicts}
use Rattle.fx_diaries.proofs.Runs.{step_same}

none_within : (before : List Event) (e : Event) (after : List Event) → [] ≡ before ++ e ∷ after → ⊥
none_within [] e after split = absurd (cc)
none_within (x ∷ before) e after split = absurd (cc)

pub names_none : (base : BaseTree) (m : Machine) → NameConflicts base m []
names_none base m before e after m' split run = absurd (none_within before e after split)

-- with one event more
pub names_more : (base : BaseTree) (m : Machine) (events : List Event) (m' : Machine) (e : Event) → Run base m events m' → NameConflicts base m events → NamesConflict base m' e → NameConflicts base m (events ++ e ∷ [])
names_more base m [] m' e run names named [] x after n split until =
    let same : e ≡ x = cc in
    subst (λ n. NamesConflict base n x) (sym run ∙ until) (subst (NamesConflict base m') same named)
names_more base m [] m' e run names named (y ∷ before) x after n split until =
    let rest : [] ≡ before ++ x ∷ after = cc in
    absurd (none_within before x after rest)
names_more base m (y ∷ events) m' e run names named [] x after n split until =
    let same : y ≡ x = cc in
    names [] x events n (ap (λ e. e ∷ events) same) until
names_more base m (y ∷ events) m' e run names named (z ∷ before) x after n split until =
    let same : y ≡ z = cc in
    let rest : events ++ e ∷ [] ≡ before ++ x ∷ after = cc in
    let on : until.0 ≡ run.0 = step_same base m until.0 run.0 y (subst (λ e. Step base m e until.0) (sym same) until.1) run.1 in
    names_more base run.0 events m' e run.2 (λ front f back k at led. names (y ∷ front) f back k (ap (λ es. y ∷ es) at) (run.0, run.1, led)) named before x after n rest
    (subst (λ m. Run base m before n) on until.2)
