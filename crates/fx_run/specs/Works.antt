-- Where the engine stands between two commands, as the definitions have it, and what a call says that goes on from there.
use Rattle.std.specs.Prelude.{◌≡◌, Option, Some, None, Result, Ok, Err, IfOk}
use Rattle.fx_spec.specs.declared.refusal.End.{End}
use Rattle.fx_spec.specs.SpecTree.{SpecTree}
use Rattle.fx_spec.specs.Task.{Task, Ends}
use Rattle.fx_spec.specs.Transaction.{Standing, Flow, On, Over}
use Rattle.fx_view.specs.declared.reader.Stop.{Stop}
use Rattle.fx_view.specs.declared.reader.Stop.TheVariants as stop
use Rattle.fx_view.specs.Follows.{GoesBy}
use Rattle.fx_view.specs.Meaning.{Meaning}
use Rattle.fx_view.specs.OwnList.{OwnList}
use Rattle.fx_view.specs.Own.{AreRead, no_own}
use Rattle.fx_zip.specs.Fresh.{IsFreshIn}
use Rattle.fx_run.specs.declared.leave.Leave.{Leave}
use Rattle.fx_run.specs.declared.walk.Walk.{Walk}
use Rattle.fx_run.specs.declared.work.Work.{Work}
use Rattle.fx_run.specs.Leaving.{ended}
use Rattle.fx_run.specs.Pursuing.{Came, came, pursuit}

-- the root description
abbrev pub root_of : {R L : Type 0} → Work R L → SpecTree
root_of w = w.walk.zip.root

abbrev pub standing_of : {R L : Type 0} → Work R L → Standing
standing_of w = record { vars = w.variables; address = w.walk.zip.address; outputs = w.outputs }

-- what the reader is that is lent
abbrev pub reader_of : {R L : Type 0} → Work R L → R
reader_of w = w.walk.session.reader.now

-- the own changes
abbrev pub own_of : {R L : Type 0} → Work R L → OwnList
own_of w = w.walk.session.own

-- the transaction goes on from here, or has come to its end
abbrev pub flow_by : {R L : Type 0} → Work R L → Option End → Flow
flow_by w None = On (standing_of w)
flow_by w (Some end) = Over end w.outputs

abbrev pub came_by : {R L : Type 0} → Work R L → Option End → Came Flow
came_by w end = came (flow_by w end) (own_of w)

-- the zipper's frames are those over the reads, with the own changes on top, and each changed path was read
pub record IsSound {R L : Type 0} (m : Meaning R) (walk : Walk R L) : Type 0 where
  pub fresh : IsFreshIn m walk.session walk.zip
  pub read : AreRead walk.session.own (m.reads walk.session.reader.now)

-- the call pursues the task
pub record Obeys {R L : Type 0} (m : Meaning R) (task : Task Flow) (old new : Work R L) (result : Result (Unit {0}) Leave) : Type 0 where
  pub follows : GoesBy m (came_by new) no_own (reader_of old) (reader_of new) (pursuit (own_of old) task) (ended result)
  pub sound : IfOk (ended result) (λ _. IsSound m new.walk)
  pub root : root_of new ≡ root_of old
  -- the same reader stays lent
  pub lent : new.walk.session.reader.ghost_name ≡ old.walk.session.reader.ghost_name

-- the task ends at once, as the call does, unless memory is refused
abbrev pub EndsAt : {R L : Type 0} → Task Flow → Work R L → Result (Option End) Stop → Type 0
EndsAt task new (Ok end) = task ≡ Ends (flow_by new end)
EndsAt task new (Err stop.NoMemory) = Unit {0}
EndsAt task new (Err (stop.Needs p)) = ⊥

-- the walk is the same, but for the count of its evaluations
pub record IsSameWalk {R L : Type 0} (old new : Walk R L) : Type 0 where
  pub zip : new.zip ≡ old.zip
  pub own : new.session.own ≡ old.session.own
  pub reader : new.session.reader ≡ old.session.reader

-- the call pursues a task that neither reads nor changes
pub record IsQuiet {R L : Type 0} (task : Task Flow) (old new : Work R L) (result : Result (Unit {0}) Leave) : Type 0 where
  pub ends : EndsAt task new (ended result)
  pub walk : IsSameWalk old.walk new.walk
