-- The lines of a watched run: those of its events, and whether there is a value.
use Rattle.std.specs.Prelude.{ℕ, suc, Bool, true, false, List, ◌++◌, codes}
use Rattle.std.specs.FinMap.{get}
use Rattle.std.specs.List.{flat_map}
use Rattle.fx_spec.specs.Plans.{Turn}
use Rattle.fx_spec.specs.Order.{BaseTree, state}
use Rattle.fx_machine.specs.declared.event.Event.{Event}
use Rattle.fx_machine.specs.declared.event.Event.TheVariants.{Look, Settled, Conflict}
use Rattle.fx_report.specs.Report.{line}
use Rattle.fx_report.specs.Events.{look_line, settled_line, conflict_line}
use Rattle.fx_watch.specs.Validity.{has_value}

-- whether there is a value
abbrev pub valid_line : Bool → List ℕ
valid_line true = line (codes "valid yes")
valid_line false = line (codes "valid no")

-- the same of the description on the loaded filestore, and on the one after so many entries of an order
abbrev pub loaded_line : BaseTree → List ℕ
loaded_line base = valid_line (has_value base.description (get base.loaded))

abbrev pub state_line : BaseTree → List Turn → ℕ → List ℕ
state_line base o i = valid_line (has_value base.description (get (state base o i)))

-- the line of an event; behind the line of a settled one that of the state after its entry
abbrev pub watched_line : BaseTree → List Turn → Event → List ℕ
watched_line base o (Look shell path position) = look_line shell path position
watched_line base o (Settled shell entry) = settled_line shell entry ++ state_line base o (suc entry)
watched_line base o (Conflict shell entry path) = conflict_line shell entry path

-- the line of the loaded filestore, and then those of the events
abbrev pub watched_lines : BaseTree → List Turn → List Event → List ℕ
watched_lines base o events = loaded_line base ++ flat_map (watched_line base o) events
