-- How the order that a journal holds grows, entry by entry and event by event.
use Rattle.std.specs.Prelude.{List, [], ◌∷◌, ◌++◌, Option, Result, OnOk, OnErr}
use Rattle.fx_spec.specs.Plans.{Turn}
use Rattle.fx_spec.specs.Order.{BaseTree}
use Rattle.fx_machine.specs.declared.event.Event.{Event}
use Rattle.fx_machine.specs.Laws.{IsReached}
use Rattle.fx_machine.specs.Machine.{shell_of}
use Rattle.fx_durable.specs.Disk.{DiskView}
use Rattle.fx_durable.specs.Journal.{JournalView}
use Rattle.fx_durable.specs.declared.disk.DiskFailed.{DiskFailed}
use Rattle.fx_sched.specs.Running.{Running}
use Rattle.fx_sched.specs.World.{Leads}
use Rattle.fx_journaling.specs.Kept.{IsHeld, IsLost, MayJoinOrder}
use Rattle.fx_journaling.specs.Taken.{Extends}

-- each order that the journal held, and that may have this entry next, it holds with the entry, if it was appended
abbrev pub HoldsEntry : Turn → JournalView → JournalView → DiskView → DiskView → Result (Unit {0}) DiskFailed → Type 0
HoldsEntry turn journal journal' disk disk' result =
    (base : BaseTree) (order : List Turn) (began : DiskView) → IsHeld base order began journal disk → MayJoinOrder base order turn → OnOk result (IsHeld base (order ++ turn ∷ []) began journal' disk')

-- such an order has lost the entry, if the append failed
abbrev pub LosesEntry : Turn → JournalView → DiskView → DiskView → Result (Unit {0}) DiskFailed → Type 0
LosesEntry turn journal disk disk' result =
    (base : BaseTree) (order : List Turn) (began : DiskView) → IsHeld base order began journal disk → MayJoinOrder base order turn → OnErr result (IsLost base order (order ++ turn ∷ []) began disk')

-- the event, which has led a run that was reached to where it is, has added this entry to its order, if any
abbrev pub AddsEntry : Event → Running → Option Turn → Type 0
AddsEntry event after entry =
    (before : Running) → IsReached before.base before.machine → Leads before (shell_of event) after event → Extends before.base before.machine.order entry after.machine.order

-- if the journal held the order from which the event has led the run on, it holds the order to which it has, if all was appended
abbrev pub HoldsEvent : Event → Running → JournalView → JournalView → DiskView → DiskView → Result (Unit {0}) DiskFailed → Type 0
HoldsEvent event after journal journal' disk disk' result =
    (began : DiskView) (before : Running) → IsReached before.base before.machine → IsHeld before.base before.machine.order began journal disk → Leads before (shell_of event) after event → OnOk result (IsHeld before.base after.machine.order began journal' disk')

-- such a journal has lost what the event added, if the append failed
abbrev pub LosesEvent : Event → Running → JournalView → DiskView → DiskView → Result (Unit {0}) DiskFailed → Type 0
LosesEvent event after journal disk disk' result =
    (began : DiskView) (before : Running) → IsReached before.base before.machine → IsHeld before.base before.machine.order began journal disk → Leads before (shell_of event) after event → OnErr result (IsLost before.base before.machine.order after.machine.order began disk')
