-- Acts and questions, as calls that pursue a command's task.
use Rattle.std.proofs.Common.{◌≡◌, ℕ, List, Some, None, Result, Ok, Err, refl, ap, ◌∙◌, sym, subst}
use Rattle.std.specs.Prelude.{IfOk, pos}
use Rattle.fx_store.specs.Rule.{Ask, Answer}
use Rattle.fx_store.specs.Whole.{Store}
use Rattle.fx_expr.specs.Bindings.{bind}
use Rattle.fx_expr.specs.Tree.{Tree}
use Rattle.fx_spec.specs.declared.refusal.End.{End}
use Rattle.fx_spec.specs.Move.{Answered, at_place}
use Rattle.fx_spec.specs.Refusals.{refusal_number}
use Rattle.fx_spec.specs.Task.{Task, Ends, asking}
use Rattle.fx_spec.specs.Transaction.{Effect, Moves, Changes, Standing, Flow, On, Over, binding, or_stop, run, taking, tried}
use Rattle.fx_view.specs.declared.reader.Stop.{Stop}
use Rattle.fx_view.specs.declared.reader.Stop.TheVariants as stop
use Rattle.fx_view.specs.Meaning.{Meaning}
use Rattle.fx_base.proofs.Errors.{err_of}
use Rattle.fx_session.specs.declared.halt.Halt.{Halt}
use Rattle.fx_session.specs.declared.halt.Halt.TheVariants as halt
use Rattle.fx_session.specs.Answering.{answered}
use Rattle.fx_zip.specs.declared.question.Question.{Question}
use Rattle.fx_zip.specs.declared.question.Question.TheVariants as question
use Rattle.fx_zip.specs.Asking.{asked_at}
use Rattle.fx_zip.specs.Calls.{Asks}
use Rattle.fx_run.specs.Acts.{Acts, Took}
use Rattle.fx_run.specs.Asking.{ask_command}
use Rattle.fx_run.specs.declared.leave.Leave.{Leave}
use Rattle.fx_run.specs.declared.leave.Leave.TheVariants as leave
use Rattle.fx_run.specs.declared.work.Work.{Work}
use Rattle.fx_run.specs.Leaving.{or_left, tried_number}
use Rattle.fx_run.specs.Pursuing.{came, pursuit}
use Rattle.fx_run.specs.Works.{root_of, standing_of, own_of, came_by, IsSound, Obeys}
use Rattle.fx_run.proofs.Going.{read_with}
use Rattle.fx_run.proofs.Obeyed.{Leaves, asked_ends, asked_refused, asked_stops}

-- ---- a question at the place

-- where the work stands, its zipper has answered
abbrev pub Told : {R L A X : Type 0} → Meaning R → (X → A) → Work R L → Work R L → Ask (Answered A) → (Store → ℕ) → Result X Halt → Type 0
Told m view old new rule evals t = Asks m view old.walk.zip new.walk.zip old.walk.session new.walk.session rule evals t

module _ {R L A X : Type 0} {m : Meaning R} {view : X → A} {rule : Ask (Answered A)} {evals : Store → ℕ} (i : ℕ) (next : A → Task Flow) (old new : Work R L) (sound : IsSound m old.walk) where
  -- it is refused, or stops
  leaves : (t : Result X Halt) (l : Leave) → or_left i t ≡ Err l → new.outputs ≡ old.outputs → Told m view old new rule evals t → Obeys m (asking rule (or_stop i (standing_of old) next)) old new (Err l)
  leaves (Ok x) l made outputs tells = cc
  leaves (Err (halt.Refused f)) l made outputs tells =
      let same : leave.Over (End.Stopped i f) ≡ l = cc in
      let own : pursuit (own_of old) (Ends (Over (End.Stopped i f) old.outputs)) ≡ Answer (came_by new (Some (End.Stopped i f))) = (λ k. Answer (came (Over (End.Stopped i f) (sym outputs k)) (sym tells.follows.own k))) in
      subst (λ l. Obeys m (asking rule (or_stop i (standing_of old) next)) old new (Err l)) same (record {
        follows = asked_ends m (answered view) rule (or_stop i (standing_of old) next) old new (Err f) (Some (End.Stopped i f)) tells.follows.follows.goes own;
        sound = record { fresh = tells.fresh; read = read_with tells.follows sound.read };
        root = tells.root;
        lent = tells.follows.lent;
      })
  leaves (Err (halt.Stopped why)) l made outputs tells =
      let same : leave.Stopped why ≡ l = cc in
      subst (λ l. Obeys m (asking rule (or_stop i (standing_of old) next)) old new (Err l)) same (record {
        follows = asked_stops m (answered view) rule (or_stop i (standing_of old) next) old new why tells.follows.follows.goes;
        sound = tt;
        root = tells.root;
        lent = tells.follows.lent;
      })

  pub told_leaves : {r : Result (Unit {0}) Leave} (t : Result X Halt) (l : Leave) → or_left i t ≡ Err l → Leaves r l → new.outputs ≡ old.outputs → Told m view old new rule evals t → Obeys m (asking rule (or_stop i (standing_of old) next)) old new r
  told_leaves {r = r} t l made is outputs tells = subst (λ r. Obeys m (asking rule (or_stop i (standing_of old) next)) old new r) (sym (err_of r l is)) (leaves t l made outputs tells)

  -- it is answered
  pub told_ends : (x : X) → Told m view old new rule evals (Ok x) → next (view x) ≡ Ends (On (standing_of new)) → Obeys m (asking rule (or_stop i (standing_of old) next)) old new (Ok tt)
  told_ends x tells e =
      let own : pursuit (own_of old) (next (view x)) ≡ Answer (came_by new None) = ap (pursuit (own_of old)) e ∙ (λ k. Answer (came (On (standing_of new)) (sym tells.follows.own k))) in
      record {
        follows = asked_ends m (answered view) rule (or_stop i (standing_of old) next) old new (Ok x) None tells.follows.follows.goes own;
        sound = record { fresh = tells.fresh; read = read_with tells.follows sound.read };
        root = tells.root;
        lent = tells.follows.lent;
      }

  -- it is answered, and then memory is refused
  pub told_refused : {r : Result (Unit {0}) Leave} (x : X) → Leaves r (leave.Stopped stop.NoMemory) → Told m view old new rule evals (Ok x) → Obeys m (asking rule (or_stop i (standing_of old) next)) old new r
  told_refused {r = r} x is tells =
      subst (λ r. Obeys m (asking rule (or_stop i (standing_of old) next)) old new r) (sym (err_of r (leave.Stopped stop.NoMemory) is))
      (record { follows = asked_refused m (answered view) rule (or_stop i (standing_of old) next) old new (Ok x) tells.follows.follows.goes; sound = tt; root = tells.root; lent = tells.follows.lent })

-- what the call answers, behind the command's number
pub told_as : {X : Type 0} (i : ℕ) (P : Result X Halt → Type 0) (t : Result X Halt) (x : X) → or_left i t ≡ Ok x → P t → P (Ok x)
told_as i P (Ok y) x made h = let same : y ≡ x = cc in subst (λ x. P (Ok x)) same h
told_as i P (Err e) x made h = cc

pub told_has : {X : Type 0} (i : ℕ) (t : Result X Halt) (P : X → Type 0) (x : X) → or_left i t ≡ Ok x → IfOk t P → P x
told_has i (Ok y) P x made has = let same : y ≡ x = cc in subst P same has
told_has i (Err h) P x made has = cc

-- the answer is bound
pub told_bound : {R L : Type 0} (x : List ℕ) (old new : Work R L) (v : Tree) → new.variables ≡ bind old.variables x v → new.walk.zip.address ≡ old.walk.zip.address → new.outputs ≡ old.outputs → Ends (On (binding (standing_of old) x v)) ≡ Ends (On (standing_of new))
told_bound x old new v vars address outputs = (λ k. Ends (On (record { vars = sym vars k; address = sym address k; outputs = sym outputs k })))

-- the task of a command that asks
pub told_run : {R L : Type 0} {m : Meaning R} (i : ℕ) (x : List ℕ) (q : Question) {old new : Work R L} {r : Result (Unit {0}) Leave} → Obeys m (asking (at_place (root_of old) old.walk.zip.address (asked_at q)) (or_stop i (standing_of old) (λ v. Ends (On (binding (standing_of old) x v))))) old new r → Obeys m (run (root_of old) i (ask_command x q) (standing_of old)) old new r
told_run i x (question.Fetch shape) h = h
told_run i x (question.Whole shape) h = h
told_run i x question.Validate h = h

-- ---- an act

module _ {R L : Type 0} {m : Meaning R} (rule : Ask (Answered Effect)) (old new : Work R L) (sound : IsSound m old.walk) (outputs : new.outputs ≡ old.outputs) where
  -- with other variables, where the effect takes place from there
  took_ends : (s : Standing) (e : Effect) → s.vars ≡ new.variables → s.address ≡ old.walk.zip.address → s.outputs ≡ old.outputs → Took e old.walk new.walk → pursuit (own_of old) (taking s e) ≡ Answer (came_by new None)
  took_ends s (Moves a) vars address printed took =
      (λ k. Answer (came (On (record { vars = vars k; address = sym took.0 k; outputs = (printed ∙ sym outputs) k })) (sym took.1 k)))
  took_ends s (Changes cs) vars address printed took =
      (λ k. Answer (came (On (record { vars = vars k; address = (address ∙ sym took.0) k; outputs = (printed ∙ sym outputs) k })) (sym took.1 k)))

  pub acted : (i : ℕ) (t : Result (Unit {0}) Halt) (r : Result (Unit {0}) Leave) → r ≡ or_left i t → new.variables ≡ old.variables → Acts m old.walk new.walk rule t → Obeys m (asking rule (or_stop i (standing_of old) (taking (standing_of old)))) old new r
  acted i t r is vars acts = subst (λ r. Obeys m (asking rule (or_stop i (standing_of old) (taking (standing_of old)))) old new r) (sym is) (by t acts)
    where
      by : (t : Result (Unit {0}) Halt) → Acts m old.walk new.walk rule t → Obeys m (asking rule (or_stop i (standing_of old) (taking (standing_of old)))) old new (or_left i t)
      by (Ok u) acts = record {
        follows = asked_ends m (λ (u : Unit {0}). Ok acts.taken.0) rule (or_stop i (standing_of old) (taking (standing_of old))) old new tt None acts.taken.1 (took_ends (standing_of old) acts.taken.0 (sym vars) refl refl acts.taken.2);
        sound = record { fresh = acts.fresh; read = acts.read sound.read };
        root = acts.root;
        lent = acts.lent;
      }
      by (Err (halt.Refused f)) acts = record {
        follows = asked_ends m (λ (u : Unit {0}). Err f) rule (or_stop i (standing_of old) (taking (standing_of old))) old new tt (Some (End.Stopped i f)) acts.taken.0 (λ k. Answer (came (Over (End.Stopped i f) (sym outputs k)) (sym acts.taken.2 k)));
        sound = record { fresh = acts.fresh; read = acts.read sound.read };
        root = acts.root;
        lent = acts.lent;
      }
      by (Err (halt.Stopped why)) acts = record {
        follows = asked_stops m (λ (u : Unit {0}). Ok (Moves old.walk.zip.address)) rule (or_stop i (standing_of old) (taking (standing_of old))) old new why acts.taken;
        sound = tt;
        root = acts.root;
        lent = acts.lent;
      }

  -- ---- of a `try`

  module _ (x : List ℕ) (t : Result (Unit {0}) Halt) (acts : Acts m old.walk new.walk rule t) where
    pub tried_stops : (why : Stop) (r : Result (Unit {0}) Leave) → tried_number t ≡ Err why → Leaves r (leave.Stopped why) → Obeys m (asking rule (tried (standing_of old) x)) old new r
    tried_stops why r made is = subst (λ r. Obeys m (asking rule (tried (standing_of old) x)) old new r) (sym (err_of r (leave.Stopped why) is)) (by t made acts)
      where
        by : (t : Result (Unit {0}) Halt) → tried_number t ≡ Err why → Acts m old.walk new.walk rule t → Obeys m (asking rule (tried (standing_of old) x)) old new (Err (leave.Stopped why))
        by (Ok u) made acts = cc
        by (Err (halt.Refused f)) made acts = cc
        by (Err (halt.Stopped other)) made acts =
            let same : other ≡ why = cc in
            subst (λ w. Obeys m (asking rule (tried (standing_of old) x)) old new (Err (leave.Stopped w))) same (record {
              follows = asked_stops m (λ (u : Unit {0}). Ok (Moves old.walk.zip.address)) rule (tried (standing_of old) x) old new other acts.taken;
              sound = tt;
              root = acts.root;
              lent = acts.lent;
            })

    pub tried_ends : (n : ℕ) → tried_number t ≡ Ok n → new.variables ≡ bind old.variables x (Tree.int (pos n)) → Obeys m (asking rule (tried (standing_of old) x)) old new (Ok tt)
    tried_ends n made vars = by t made acts
      where
        by : (t : Result (Unit {0}) Halt) → tried_number t ≡ Ok n → Acts m old.walk new.walk rule t → Obeys m (asking rule (tried (standing_of old) x)) old new (Ok tt)
        by (Ok u) made acts =
            let zero_is : n ≡ 0 = cc in
            let bound : bind old.variables x (Tree.int (pos 0)) ≡ new.variables = ap (λ n. bind old.variables x (Tree.int (pos n))) (sym zero_is) ∙ sym vars in
            record {
              follows = asked_ends m (λ (u : Unit {0}). Ok acts.taken.0) rule (tried (standing_of old) x) old new tt None acts.taken.1 (took_ends (binding (standing_of old) x (Tree.int (pos 0))) acts.taken.0 bound refl refl acts.taken.2);
              sound = record { fresh = acts.fresh; read = acts.read sound.read };
              root = acts.root;
              lent = acts.lent;
            }
        by (Err (halt.Refused f)) made acts =
            let number_is : n ≡ refusal_number f = cc in
            let bound : bind old.variables x (Tree.int (pos (refusal_number f))) ≡ new.variables = ap (λ n. bind old.variables x (Tree.int (pos n))) (sym number_is) ∙ sym vars in
            record {
              follows = asked_ends m (λ (u : Unit {0}). Err f) rule (tried (standing_of old) x) old new tt None acts.taken.0 (λ k. Answer (came (On (record { vars = bound k; address = sym acts.taken.1 k; outputs = sym outputs k })) (sym acts.taken.2 k)));
              sound = record { fresh = acts.fresh; read = acts.read sound.read };
              root = acts.root;
              lent = acts.lent;
            }
        by (Err (halt.Stopped why)) made acts = cc

    pub tried_refused : (n : ℕ) (r : Result (Unit {0}) Leave) → tried_number t ≡ Ok n → Leaves r (leave.Stopped stop.NoMemory) → Obeys m (asking rule (tried (standing_of old) x)) old new r
    tried_refused n r made is = subst (λ r. Obeys m (asking rule (tried (standing_of old) x)) old new r) (sym (err_of r (leave.Stopped stop.NoMemory) is)) (by t made acts)
      where
        by : (t : Result (Unit {0}) Halt) → tried_number t ≡ Ok n → Acts m old.walk new.walk rule t → Obeys m (asking rule (tried (standing_of old) x)) old new (Err (leave.Stopped stop.NoMemory))
        by (Ok u) made acts = record {
          follows = asked_refused m (λ (u : Unit {0}). Ok acts.taken.0) rule (tried (standing_of old) x) old new tt acts.taken.1;
          sound = tt;
          root = acts.root;
          lent = acts.lent;
        }
        by (Err (halt.Refused f)) made acts = record {
          follows = asked_refused m (λ (u : Unit {0}). Err f) rule (tried (standing_of old) x) old new tt acts.taken.0;
          sound = tt;
          root = acts.root;
          lent = acts.lent;
        }
        by (Err (halt.Stopped why)) made acts = cc
