-- Calls that pursue tasks: what goes along every way out is proved here alone.
use Rattle.std.proofs.Common.{◌≡◌, List, Option, Some, None, Result, Ok, Err, refl, ap, ◌∙◌, sym, subst}
use Rattle.std.specs.Prelude.{IsErrAnd}
use Rattle.fx_store.specs.Rule.{Ask, Answer, ◌>>=◌}
use Rattle.fx_expr.specs.Tree.{Tree}
use Rattle.fx_spec.specs.declared.refusal.End.{End}
use Rattle.fx_spec.specs.Task.{Task, Ends, asking, ◌>=>◌}
use Rattle.fx_spec.specs.Transaction.{Flow, On, Over}
use Rattle.fx_view.specs.declared.reader.Stop.{Stop}
use Rattle.fx_view.specs.declared.reader.Stop.TheVariants as stop
use Rattle.fx_view.specs.Follows.{GoesBy}
use Rattle.fx_view.specs.Meaning.{Meaning}
use Rattle.fx_view.specs.Own.{no_own, own_at}
use Rattle.fx_base.proofs.Errors.{err_of}
use Rattle.fx_view.proofs.Rulings.{by_answer, by_refused, by_same, by_then, by_stop, by_then_answer, by_then_refused}
use Rattle.fx_run.specs.declared.leave.Leave.{Leave}
use Rattle.fx_run.specs.declared.leave.Leave.TheVariants as leave
use Rattle.fx_run.specs.declared.work.Work.{Work}
use Rattle.fx_run.specs.Leaving.{ended}
use Rattle.fx_run.specs.Pursuing.{Came, came, topped, pursuit}
use Rattle.fx_run.specs.Works.{standing_of, reader_of, own_of, flow_by, came_by, IsSound, Obeys, EndsAt, IsSameWalk, IsQuiet}
use Rattle.fx_run.proofs.Pursuits.{by_topped, pursuit-asking, pursuit-then}

-- what `?` hands on
abbrev pub Leaves : Result (Unit {0}) Leave → Leave → Type 0
Leaves r why = IsErrAnd r (λ e. e ≡ why)

-- a part that comes after another and lets an end pass
abbrev pub Passes : (Flow → Task Flow) → Type 0
Passes next = (end : End) (outputs : List Tree) → next (Over end outputs) ≡ Ends (Over end outputs)

-- where a call stands that moved nothing, spelled by where it stood
abbrev stay : {R L : Type 0} → Work R L → Work R L → Work R L
stay old new =
    record {
      walk = record { zip = old.walk.zip; session = record { alloc = new.walk.session.alloc; reader = old.walk.session.reader; own = own_of old; steps = new.walk.session.steps } };
      variables = new.variables;
      outputs = new.outputs;
    }

stays : {R L : Type 0} (old new : Work R L) → IsSameWalk old.walk new.walk → stay old new ≡ new
stays old new same =
    (λ k. record {
      walk = record { zip = sym same.zip k; session = record { alloc = new.walk.session.alloc; reader = sym same.reader k; own = sym same.own k; steps = new.walk.session.steps } };
      variables = new.variables;
      outputs = new.outputs;
    })

module _ {R L : Type 0} {m : Meaning R} where
  -- ---- a call that neither reads nor changes

  module _ (task : Task Flow) (old new : Work R L) where
    ended_at : (end : Option End) → task ≡ Ends (flow_by (stay old new) end) → GoesBy m (came_by (stay old new)) no_own (reader_of old) (reader_of old) (pursuit (own_of old) task) (Ok end)
    ended_at end is =
        by_same m (came_by (stay old new)) no_own (reader_of old) (reader_of old) (Answer (came (flow_by (stay old new) end) (own_of old))) (pursuit (own_of old) task) (Ok end) (sym (ap (pursuit (own_of old)) is))
        (by_answer m (came_by (stay old new)) no_own (reader_of old) (came (flow_by (stay old new) end) (own_of old)) end refl)

    still : (r : Result (Unit {0}) Leave) → IsSound m old.walk → EndsAt task (stay old new) (ended r) → Obeys m task old (stay old new) r
    still (Ok u) sound is = record { follows = ended_at None is; sound = record { fresh = sound.fresh; read = sound.read }; root = refl; lent = refl }
    still (Err (leave.Over end)) sound is = record { follows = ended_at (Some end) is; sound = record { fresh = sound.fresh; read = sound.read }; root = refl; lent = refl }
    still (Err (leave.Stopped stop.NoMemory)) sound is = record { follows = by_refused m (came_by (stay old new)) no_own (reader_of old) (pursuit (own_of old) task); sound = tt; root = refl; lent = refl }
    still (Err (leave.Stopped (stop.Needs p))) sound is = absurd is

  pub obeys_quiet : {task : Task Flow} {old new : Work R L} {r : Result (Unit {0}) Leave} → IsSound m old.walk → IsQuiet task old new r → Obeys m task old new r
  obeys_quiet {task = task} {old = old} {new = new} {r = r} sound quiet =
      let same : stay old new ≡ new = stays old new quiet.walk in
      subst (λ (w : Work R L). Obeys m task old w r) same (still task old new r sound (subst (λ (w : Work R L). EndsAt task w (ended r)) (sym same) quiet.ends))

  -- ---- one task, and then the next

  module _ (task : Task Flow) (next : Flow → Task Flow) {old mid : Work R L} where
    pub obeys_then : {new : Work R L} {r : Result (Unit {0}) Leave} → Obeys m task old mid (Ok tt) → Obeys m (next (On (standing_of mid))) mid new r → Obeys m (task >=> next) old new r
    obeys_then {new = new} {r = r} first rest = record {
      follows = by_same m (came_by new) no_own (reader_of old) (reader_of new) (pursuit (own_of old) task >>= λ (c : Came Flow). pursuit c.own (next c.end)) (pursuit (own_of old) (task >=> next)) (ended r) (sym (pursuit-then (own_of old) task next))
          (by_then m (came_by mid) (came_by new) no_own (reader_of old) (reader_of mid) (pursuit (own_of old) task) (λ (c : Came Flow). pursuit c.own (next c.end)) (reader_of new) None (ended r) first.follows rest.follows);
      sound = rest.sound;
      root = rest.root ∙ first.root;
      lent = rest.lent ∙ first.lent;
    }

    -- a stop and an end alike
    leaves : Passes next → (why : Leave) → Obeys m task old mid (Err why) → Obeys m (task >=> next) old mid (Err why)
    leaves passes (leave.Over end) first = record {
      follows = by_same m (came_by mid) no_own (reader_of old) (reader_of mid) (pursuit (own_of old) task >>= λ (c : Came Flow). pursuit c.own (next c.end)) (pursuit (own_of old) (task >=> next)) (Ok (Some end)) (sym (pursuit-then (own_of old) task next))
          (by_then_answer m (came_by mid) (came_by mid) no_own (reader_of old) (reader_of mid) (pursuit (own_of old) task) (λ (c : Came Flow). pursuit c.own (next c.end)) (Some end) (Some end) first.follows (ap (pursuit (own_of mid)) (passes end mid.outputs)));
      sound = first.sound;
      root = first.root;
      lent = first.lent;
    }
    leaves passes (leave.Stopped why) first = record {
      follows = by_same m (came_by mid) no_own (reader_of old) (reader_of mid) (pursuit (own_of old) task >>= λ (c : Came Flow). pursuit c.own (next c.end)) (pursuit (own_of old) (task >=> next)) (Err why) (sym (pursuit-then (own_of old) task next))
          (by_stop m (came_by mid) (came_by mid) no_own (reader_of old) (reader_of mid) (pursuit (own_of old) task) (λ (c : Came Flow). pursuit c.own (next c.end)) why first.follows);
      sound = tt;
      root = first.root;
      lent = first.lent;
    }

    pub obeys_leaves : {r : Result (Unit {0}) Leave} {why : Leave} → Passes next → Leaves r why → Obeys m task old mid (Err why) → Obeys m (task >=> next) old mid r
    obeys_leaves {r = r} {why = why} passes is first = subst (λ r. Obeys m (task >=> next) old mid r) (sym (err_of r why is)) (leaves passes why first)

  -- ---- the same task, spelled in another way

  pub obeys_same : {old new : Work R L} {r : Result (Unit {0}) Leave} (task other : Task Flow) → task ≡ other → Obeys m task old new r → Obeys m other old new r
  obeys_same {old = old} {new = new} {r = r} task other e h = subst (λ t. Obeys m t old new r) e h

-- ---- a task that asks a rule, and then ends

module _ {R L A X : Type 0} (m : Meaning R) (view : X → A) (rule : Ask A) (next : A → Task Flow) (old new : Work R L) where
  pub asked_ends : (x : X) (end : Option End) → GoesBy m view (own_at (own_of old)) (reader_of old) (reader_of new) rule (Ok x) → pursuit (own_of old) (next (view x)) ≡ Answer (came_by new end) → GoesBy m (came_by new) no_own (reader_of old) (reader_of new) (pursuit (own_of old) (asking rule next)) (Ok end)
  asked_ends x end h e =
      by_same m (came_by new) no_own (reader_of old) (reader_of new) (topped (own_of old) rule >>= λ a. pursuit (own_of old) (next a)) (pursuit (own_of old) (asking rule next)) (Ok end) (sym (pursuit-asking (own_of old) rule next))
      (by_then_answer m view (came_by new) no_own (reader_of old) (reader_of new) (topped (own_of old) rule) (λ a. pursuit (own_of old) (next a)) x end (by_topped m view (own_of old) (reader_of old) (reader_of new) rule (Ok x) h) e)

  pub asked_refused : (x : X) → GoesBy m view (own_at (own_of old)) (reader_of old) (reader_of new) rule (Ok x) → GoesBy {A = Came Flow} {X = Option End} m (came_by new) no_own (reader_of old) (reader_of new) (pursuit (own_of old) (asking rule next)) (Err stop.NoMemory)
  asked_refused x h =
      by_same m (came_by new) no_own (reader_of old) (reader_of new) (topped (own_of old) rule >>= λ a. pursuit (own_of old) (next a)) (pursuit (own_of old) (asking rule next)) (Err stop.NoMemory) (sym (pursuit-asking (own_of old) rule next))
      (by_then_refused m view (came_by new) no_own (reader_of old) (reader_of new) (topped (own_of old) rule) (λ a. pursuit (own_of old) (next a)) x (by_topped m view (own_of old) (reader_of old) (reader_of new) rule (Ok x) h))

  pub asked_stops : (why : Stop) → GoesBy {A = A} {X = X} m view (own_at (own_of old)) (reader_of old) (reader_of new) rule (Err why) → GoesBy {A = Came Flow} {X = Option End} m (came_by new) no_own (reader_of old) (reader_of new) (pursuit (own_of old) (asking rule next)) (Err why)
  asked_stops why h =
      by_same m (came_by new) no_own (reader_of old) (reader_of new) (topped (own_of old) rule >>= λ a. pursuit (own_of old) (next a)) (pursuit (own_of old) (asking rule next)) (Err why) (sym (pursuit-asking (own_of old) rule next))
      (by_stop m view (came_by new) no_own (reader_of old) (reader_of new) (topped (own_of old) rule) (λ a. pursuit (own_of old) (next a)) why (by_topped m view (own_of old) (reader_of old) (reader_of new) rule (Err why) h))
