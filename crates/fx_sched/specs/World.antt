-- What a world keeps, and what one step of it says.
use Rattle.std.specs.Prelude.{◌≡◌, ◌≤◌, ℕ, List, [], ◌∷◌, ◌++◌, map, length, replicate, slice_get, slice_set, slice_index_or, Option, Some, None, IsSome}
use Rattle.fx_spec.specs.Plans.{Turn}
use Rattle.fx_spec.specs.Order.{BaseTree}
use Rattle.fx_machine.specs.declared.event.Event.{Event}
use Rattle.fx_machine.specs.declared.event.Event.TheVariants as event
use Rattle.fx_machine.specs.declared.retry.Retry.{Retry}
use Rattle.fx_machine.specs.Laws.{IsReached}
use Rattle.fx_machine.specs.Machine.{Machine, Step, resting, next_number, next_txn, shell_of}
use Rattle.fx_board.specs.Log.{Log}
use Rattle.fx_diaries.specs.Looks.{looks_in}
use Rattle.fx_diaries.specs.Named.{NamesConflict}
use Rattle.fx_sched.specs.declared.shell.Shell.{Shell}
use Rattle.fx_sched.specs.Recorded.{joined}
use Rattle.fx_sched.specs.Running.{Running}
use Rattle.fx_sched.specs.Shells.{looked_in, IsShell}

-- the machine's state, and with its base
abbrev pub machine_of : List Turn → List Shell → Machine
machine_of order shells = record { order = order; looks = map (λ (s : Shell). looks_in (looked_in s)) shells }

abbrev pub running_of : Log → List Shell → Running
running_of log shells =
    record { base = log.base; machine = machine_of log.order shells; retries = map (λ (s : Shell). s.retries) shells }

-- each shell of the plan is one, and a run leads to the machine's state
pub record IsWorld (log : Log) (shells : List Shell) : Type 0 where
  pub count : length shells ≡ length log.base.plan
  pub each : (number : ℕ) (s : Shell) → slice_get shells number ≡ Some s → IsShell log number s
  pub reached : IsReached log.base (machine_of log.order shells)

-- there is room for so many retries, and no more are noted
abbrev pub HasRoomFor : ℕ → List Shell → Type 0
HasRoomFor count shells = length (joined (map (λ (s : Shell). s.retries) shells)) ≤ count

-- how many retries a step notes
abbrev pub conflicts_in : Option Event → ℕ
conflicts_in None = 0
conflicts_in (Some (event.Look k path position)) = 0
conflicts_in (Some (event.Settled k entry)) = 0
conflicts_in (Some (event.Conflict k entry path)) = 1

-- a shell that has read nothing, before its first transaction
abbrev pub new_shell : Shell
new_shell = record { next = 0; looked = 0; reads = []; plan = None; retries = [] }

-- no entries and no looks
abbrev pub began : BaseTree → Running
began base = record { base = base; machine = resting base []; retries = replicate (length base.plan) [] }

-- the retries of each shell with those of one more event, whose shell has settled so many transactions
abbrev pub noted : ℕ → List (List Retry) → Event → List (List Retry)
noted txn lists (event.Look k path position) = lists
noted txn lists (event.Settled k entry) = lists
noted txn lists (event.Conflict k entry path) =
    let retry : Retry = record { shell = k; txn = txn; entry = entry; path = path } in
    slice_set lists k (slice_index_or lists k [] ++ retry ∷ [])

-- a shell with no transaction left does nothing; else its event leads from the state before to the state after, and names, if it
-- is a conflict, the least path that was changed and the last entry that changed it
pub record Leads (old : Running) (shell : ℕ) (new : Running) (e : Event) : Type 0 where
  pub left : IsSome (next_txn old.base old.machine.order shell)
  pub whose : shell_of e ≡ shell
  pub base : new.base ≡ old.base
  pub retries : new.retries ≡ noted (next_number new.machine.order shell) old.retries e
  pub step : Step old.base old.machine e new.machine
  pub named : NamesConflict old.base old.machine e

-- what a step of a shell answers, and what it leaves
abbrev pub Stepped : Running → ℕ → Running → Option Event → Type 0
Stepped old shell new None = (next_txn old.base old.machine.order shell ≡ None) × (new ≡ old)
Stepped old shell new (Some e) = Leads old shell new e
