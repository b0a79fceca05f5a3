-- Which entry and which path the conflicts of a run name. The machine's definition leaves the choice open.
use Rattle.std.specs.Prelude.{◌≡◌, ℕ, ◌<◌, List, ◌∷◌, ◌++◌, IsTrue, ⊤}
use Rattle.std.specs.Ordering.{is_le}
use Rattle.fx_store.specs.Names.{path_cmp}
use Rattle.fx_spec.specs.Plans.{Turn}
use Rattle.fx_spec.specs.Order.{BaseTree, Changes}
use Rattle.fx_machine.specs.declared.event.Event.{Event}
use Rattle.fx_machine.specs.declared.event.Event.TheVariants as event
use Rattle.fx_machine.specs.Machine.{Machine, Look, Run, IsStaleAt, looks_of}

-- the path is the least that an entry has changed at or after its look, and the entry is the last that changed it
pub record IsNamedAt (base : BaseTree) (o : List Turn) (looks : List Look) (entry : ℕ) (path : List (List ℕ)) : Type 0 where
  pub stale : IsStaleAt base o looks entry path
  pub last : (later : ℕ) → entry < later → Changes base o later path → ⊥
  pub least : (e : ℕ) (p : List (List ℕ)) → IsStaleAt base o looks e p → IsTrue (is_le (path_cmp path p))

-- a conflict, coming in this state, names such an entry and path of its shell's looks
abbrev pub NamesConflict : BaseTree → Machine → Event → Type 0
NamesConflict base m (event.Conflict shell entry path) = IsNamedAt base m.order (looks_of m shell) entry path
NamesConflict base m _ = ⊤

-- so does each conflict among the events, in the state to which those before it lead
abbrev pub NameConflicts : BaseTree → Machine → List Event → Type 0
NameConflicts base m events =
    (before : List Event) (e : Event) (after : List Event) (m' : Machine) → events ≡ before ++ e ∷ after → Run base m before m' → NamesConflict base m' e
