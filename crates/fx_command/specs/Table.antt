-- The table of the statuses of a command that reads, leaves something at OUT and prints: one for all such commands.
use Rattle.std.specs.Prelude.{◌≡◌, ◌⊎◌, ℕ, List, IfSome, IsSomeAnd, ⊤}
use Rattle.fx_base.specs.Causes.{Rose}
use Rattle.fx_store.specs.Whole.{Nodes}
use Rattle.fx_outside.specs.Host.{HostView, FaultIn}
use Rattle.fx_outside.specs.Path.{parts}
use Rattle.fx_outside.specs.Sink.{SinkView}
use Rattle.fx_outside.specs.Tree.{Tree}
use Rattle.fx_folder.specs.declared.readying.Out.{Out}
use Rattle.fx_folder.specs.Folder.{IfTold, IsReady, IsTaken, IsSaved, IsPartlySaved}
use Rattle.fx_command.specs.declared.status.Status.{Status}
use Rattle.fx_command.specs.declared.status.Status.TheVariants as status
use Rattle.fx_command.specs.Left.{IsSame, Grows}
use Rattle.fx_command.specs.Out.{CannotWrite}
use Rattle.fx_command.specs.Saved.{Prints, PrintsPart}

-- what a command makes: where OUT is, the ends to which it may come, and for each of them what then stands in the new tree, what
-- a part of that is, and what is printed
pub record Making (A : Type 0) : Type 1 where
  pub out : List ℕ
  pub comes : A → Tree → Type 0
  pub stands : A → Tree → Tree → Type 0
  pub begun : A → Tree → Tree → Type 0
  pub prints : A → List ℕ

-- an end to which the command comes, where OUT can be written: so much of it stands there, and so its output is written
pub record IsMade {A : Type 0} (m : Making A) (stands : A → Tree → Tree → Type 0) (is_written : List ℕ → Type 0) (t t' : Tree) : Type 0 where
  pub end : A
  pub there : Out
  pub comes : m.comes end t
  pub free : IsReady t m.out there
  pub left : stands end t t'
  pub written : is_written (m.prints end)

-- OUT is as before, or holds a part of an end
abbrev pub MayHoldPart : {A : Type 0} → Making A → Tree → Tree → Type 0
MayHoldPart m t t' = (t' ≡ t) ⊎ IsMade m m.begun (λ _. ⊤) t t'

-- an end to which the command comes, where OUT can be written
pub record IsComing {A : Type 0} (m : Making A) (t : Tree) (end : A) (there : Out) : Type 0 where
  pub comes : m.comes end t
  pub free : IsReady t m.out there

-- the folder of a filestore is left at OUT, and an output that goes with it is printed
abbrev pub leaving_folder : List ℕ → (Tree → Nodes → List ℕ → Type 0) → Making (Nodes × List ℕ)
leaving_folder out comes = record {
  out = out;
  comes = λ end t. comes t end.0 end.1;
  stands = λ end t t'. IsSaved t t' (parts out) end.0;
  begun = λ end t t'. IsPartlySaved t t' (parts out) end.0;
  prints = λ end. end.1;
}

-- a command: with which status it ends where not all is read, when all is, and what it makes
pub record Command (A : Type 0) : Type 1 where
  pub reads : HostView → HostView → Status → Type 0
  pub all : Tree → Type 0
  pub makes : Making A

-- a command that reads nothing but what stands at OUT
abbrev pub making_only : {A : Type 0} → Making A → Command A
making_only m = record { reads = λ host host' st. ⊥; all = λ t. ⊤; makes = m }

-- all is read, and OUT is unfit, or nothing stands there and no folder above
abbrev pub CannotSave : {A : Type 0} → Command A → Tree → Type 0
CannotSave m t = m.all t × CannotWrite t m.makes.out

-- OUT was not written whole, and nothing is printed
pub record IsUnsaved {A : Type 0} (m : Command A) (host host' : HostView) (sink sink' : SinkView) : Type 0 where
  pub cause : FaultIn m.makes.out host host' ⊎ IsSomeAnd host.told (CannotSave m)
  pub unprinted : sink' ≡ sink
  pub left : IfTold host.told host'.told (λ t t'. m.all t × MayHoldPart m.makes t t')

-- the sink failed, OUT is whole, and a front of the output is printed
pub record IsUnprinted {A : Type 0} (m : Making A) (host host' : HostView) (sink sink' : SinkView) : Type 0 where
  pub cause : Rose sink.faults sink'.faults
  pub grows : Grows sink sink'
  pub left : IfTold host.told host'.told (IsMade m m.stands (λ output. PrintsPart output sink sink'))

-- the table
abbrev pub CommandRow : {A : Type 0} → Command A → HostView → HostView → SinkView → SinkView → Status → Type 0
CommandRow m host host' sink sink' status.Done = Grows sink sink' × IfTold host.told host'.told (IsMade m.makes m.makes.stands (λ output. Prints output sink sink'))
CommandRow m host host' sink sink' status.NotEmpty = IsSame host host' sink sink' × IfSome host.told (λ t. m.all t × IsTaken t m.makes.out)
CommandRow m host host' sink sink' status.WriteFault = IsUnsaved m host host' sink sink' ⊎ IsUnprinted m.makes host host' sink sink'
CommandRow m host host' sink sink' status.NoMemory = (sink' ≡ sink) × IfTold host.told host'.told (MayHoldPart m.makes)
CommandRow m host host' sink sink' st = IsSame host host' sink sink' × m.reads host host' st

-- a stage that only reads ends the command so, whatever the sink
abbrev pub CommandEndsAs : {A : Type 0} → Command A → HostView → HostView → Status → Type 0
CommandEndsAs m host host' st = (sink : SinkView) → CommandRow m host host' sink sink st
