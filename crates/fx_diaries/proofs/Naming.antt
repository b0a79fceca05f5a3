-- What the conflicts among some events name, in the states to which the events lead.
use Rattle.std.proofs.Common.{List, [], ◌∷◌, ◌++◌, refl, subst}
use Rattle.std.specs.Prelude.{⊤}
use Rattle.fx_spec.specs.Order.{BaseTree}
use Rattle.fx_machine.specs.declared.event.Event.{Event}
use Rattle.fx_machine.specs.Machine.{Machine, Run, Step}
use Rattle.fx_diaries.specs.Named.{NamesConflict, NameConflicts}

-- each conflict names what it is to name
abbrev pub NamesAll : BaseTree → Machine → List Event → Type 0
NamesAll base m [] = ⊤
NamesAll base m (e ∷ events) = NamesConflict base m e × ((m' : Machine) → Step base m e m' → NamesAll base m' events)

pub name_on : (base : BaseTree) (m : Machine) (events more : List Event) → NamesAll base m events → ((m' : Machine) → Run base m events m' → NamesAll base m' more) → NamesAll base m (events ++ more)
name_on base m [] more names next = next m refl
name_on base m (e ∷ events) more names next = (names.0, λ m1 step. name_on base m1 events more (names.1 m1 step) (λ m' run. next m' (m1, step, run)))

names_at : (base : BaseTree) (m : Machine) (before : List Event) (e : Event) (after : List Event) (m' : Machine) → NamesAll base m (before ++ e ∷ after) → Run base m before m' → NamesConflict base m' e
names_at base m [] e after m' names run = subst (λ m. NamesConflict base m e) run names.0
names_at base m (x ∷ before) e after m' names run = names_at base run.0 before e after m' (names.1 run.0 run.1) run.2

pub name_conflicts : (base : BaseTree) (m : Machine) (events : List Event) → NamesAll base m events → NameConflicts base m events
name_conflicts base m events names before e after m' is run = names_at base m before e after m' (subst (NamesAll base m) is names) run
