-- The lines of events.
use Rattle.std.specs.Prelude.{ℕ, List, ◌++◌, codes}
use Rattle.std.specs.List.{flat_map}
use Rattle.fx_store.specs.Names.{path_text}
use Rattle.fx_machine.specs.declared.event.Event.{Event}
use Rattle.fx_machine.specs.declared.event.Event.TheVariants.{Look, Settled, Conflict}
use Rattle.fx_report.specs.Print.{quote}
use Rattle.fx_report.specs.Report.{line, field}

-- a look: the shell, the path, and the number of entries at that moment
unfoldable pub look_line : ℕ → List (List ℕ) → ℕ → List ℕ
look_line shell path position = line (field (codes "look ") shell ++ codes " " ++ quote (path_text path) ++ field (codes " ") position)

-- a settled attempt: the shell, and the number of its entry
unfoldable pub settled_line : ℕ → ℕ → List ℕ
settled_line shell entry = line (field (codes "settled ") shell ++ field (codes " ") entry)

-- a conflict: the shell, the entry that stood in its way, and the path that this entry changed
unfoldable pub conflict_line : ℕ → ℕ → List (List ℕ) → List ℕ
conflict_line shell entry path = line (field (codes "conflict ") shell ++ field (codes " ") entry ++ codes " " ++ quote (path_text path))

abbrev pub event_line : Event → List ℕ
event_line (Look shell path position) = look_line shell path position
event_line (Settled shell entry) = settled_line shell entry
event_line (Conflict shell entry path) = conflict_line shell entry path

abbrev pub lines : List Event → List ℕ
lines events = flat_map event_line events
