-- Commands that neither read nor change, as calls that pursue a command's task.
use Rattle.std.proofs.Common.{◌≡◌, ℕ, Result, Ok, Err, refl, ap, ◌∙◌, sym, subst}
use Rattle.fx_spec.specs.declared.refusal.Refusal.{Refusal}
use Rattle.fx_spec.specs.Move.{Answered}
use Rattle.fx_spec.specs.Task.{Task, Ends}
use Rattle.fx_spec.specs.Transaction.{Standing, Flow, Over, or_stop}
use Rattle.fx_view.specs.declared.reader.Stop.TheVariants as stop
use Rattle.fx_base.proofs.Errors.{err_of}
use Rattle.fx_session.specs.declared.session.Session.{Session}
use Rattle.fx_session.specs.Implements.{ticked}
use Rattle.fx_run.specs.declared.walk.Walk.{Walk}
use Rattle.fx_run.specs.declared.leave.Leave.{Leave}
use Rattle.fx_run.specs.declared.leave.Leave.TheVariants as leave
use Rattle.fx_run.specs.declared.work.Work.{Work}
use Rattle.fx_run.specs.Leaving.{OrStops, answer_part}
use Rattle.fx_run.specs.Works.{standing_of, IsSameWalk, IsQuiet}
use Rattle.fx_run.proofs.Obeyed.{Leaves}

-- memory is refused
pub quiet_none : {R L : Type 0} {task : Task Flow} {old new : Work R L} {r : Result (Unit {0}) Leave} → Leaves r (leave.Stopped stop.NoMemory) → IsSameWalk old.walk new.walk → IsQuiet task old new r
quiet_none {task = task} {old = old} {new = new} {r = r} is walk = subst (λ r. IsQuiet task old new r) (sym (err_of r (leave.Stopped stop.NoMemory) is)) (record { ends = tt; walk = walk })

-- the walk after an evaluation
pub ticked_walk : {R L : Type 0} (old : Walk R L) {s : Session R L} → s ≡ ticked old.session → IsSameWalk old (record { zip = old.zip; session = s })
ticked_walk {R = R} {L = L} old one = record { zip = refl; own = ap (λ (s : Session R L). s.own) one; reader = ap (λ (s : Session R L). s.reader) one }

part_err : {A B : Type 0} (f : A → B) (o : Answered A) (refusal : Refusal) → answer_part f o ≡ Err refusal → o ≡ Err refusal
part_err f (Ok a) refusal is = cc
part_err f (Err g) refusal is = let same : g ≡ refusal = cc in ap (λ g. Err g) same

module _ {A : Type 0} (i : ℕ) (next : A → Task Flow) (o : Answered A) where
  -- a part of its value is asked for
  pub part_stops : {B X Y : Type 0} (f : A → B) (view : X → B) (other : Y → A) (l : Leave) → OrStops {A = B} {X = X} i view (answer_part f o) (Err l) → OrStops {A = A} {X = Y} i other o (Err l)
  part_stops f view other (leave.Over end) stops = (stops.0, part_err f o stops.0 stops.1, stops.2)
  part_stops f view other (leave.Stopped stop.NoMemory) stops = tt
  part_stops f view other (leave.Stopped (stop.Needs p)) stops = stops

  module _ {R L : Type 0} {old new : Work R L} (same : IsSameWalk old.walk new.walk) where
    -- the command's own expression has no value, or memory is refused
    stopped : {X : Type 0} (view : X → A) (l : Leave) → OrStops {A = A} {X = X} i view o (Err l) → new.outputs ≡ old.outputs → IsQuiet (or_stop i (standing_of old) next o) old new (Err l)
    stopped view (leave.Over end) stops printed = record {
      ends = ap (or_stop i (standing_of old) next) stops.1 ∙ (λ k. Ends (Over (sym stops.2 k) (sym printed k)));
      walk = same;
    }
    stopped view (leave.Stopped stop.NoMemory) stops printed = record { ends = tt; walk = same }
    stopped view (leave.Stopped (stop.Needs p)) stops printed = absurd stops

    pub quiet_leaves : {X : Type 0} {r : Result (Unit {0}) Leave} (view : X → A) (l : Leave) → OrStops {A = A} {X = X} i view o (Err l) → Leaves r l → new.outputs ≡ old.outputs → IsQuiet (or_stop i (standing_of old) next o) old new r
    quiet_leaves {r = r} view l stops is printed = subst (λ r. IsQuiet (or_stop i (standing_of old) next o) old new r) (sym (err_of r l is)) (stopped view l stops printed)

    pub quiet_part_leaves : {B X : Type 0} {r : Result (Unit {0}) Leave} (f : A → B) (view : X → B) (l : Leave) → OrStops {A = B} {X = X} i view (answer_part f o) (Err l) → Leaves r l → new.outputs ≡ old.outputs → IsQuiet (or_stop i (standing_of old) next o) old new r
    quiet_part_leaves f view l stops is printed = quiet_leaves {X = A} (λ a. a) l (part_stops f view (λ (a : A). a) l stops) is printed

-- the task goes on with a part of the value
pub of_part : {A B : Type 0} (i : ℕ) (s : Standing) (f : A → B) (o : Answered A) (b : B) (next : B → Task Flow) → answer_part f o ≡ Ok b → or_stop i s (λ a. next (f a)) o ≡ next b
of_part i s f (Ok a) b next is = let same : f a ≡ b = cc in ap next same
of_part i s f (Err refusal) b next is = cc
