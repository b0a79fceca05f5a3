-- Moves and questions: the place is found, and then the rule is followed from there.
use Rattle.fx_zip.proofs.Prelude.{ReadList, ◌≡◌, ℕ, ◌+◌, ◌≤◌, List, [], Option, Some, Result, Ok, Err, refl, sym, ap, ◌∙◌, subst, arith, IfOk, IsErrAnd, Known, Ask, Answer, answer, ticks, changed, ◌>>=◌, Store, Refusal, Answered, needed}
use Rattle.fx_zip.proofs.Prelude.{unrefused, at_place, Address, PlaceTree, place, SpecTree, Bindings, from_place, IsDescription, HasScope, Stop, Meaning, known_of, Agrees, err_of, found_answer, Halt, answered, split, step_halt, Entry}
use Rattle.fx_zip.proofs.Prelude.{OnRefused, place_needed, place_evals, Evaluates, Finds, Moves, Turns, Asks, IsSetOf, Stands, StandsIn, IsFreshIn, part, Enters, entered, step_tree, ZipTree, IsSettled, path_of, here, Implements, Answers}
use Rattle.fx_zip.proofs.Prelude.{then_on, same_rule, Session, own_at, OwnList}
use Rattle.fx_store.proofs.Asks.{ask-bind-assoc}
use Rattle.fx_spec.specs.Evals.{evals_with}
use Rattle.fx_view.specs.declared.reader.Stop.TheVariants as stop
use Rattle.fx_session.specs.declared.halt.Halt.TheVariants as halt
use Rattle.fx_zip.proofs.Standing.{stands_fresh, stands_settled, stands_here, stands_entered, stands_scope}
use Rattle.fx_zip.proofs.Sessions.{memory_after, answers_as}
use Rattle.fx_zip.proofs.Sessions.{agrees_on, fresh_on, stands_on, stops_as}

at_place_is : {B : Type 0} (root : SpecTree) (a : Address) (rest : PlaceTree → Ask (Answered B)) → (place_needed root a >>= unrefused rest) ≡ at_place root a rest
at_place_is root a rest = ask-bind-assoc (place root a) (λ at. Answer (needed Refusal.NoPlace at)) (unrefused rest)

refused_as : {X : Type 0} (r : Result X Halt) (p q : Type 0) → (p → q) → OnRefused r p → OnRefused r q
refused_as (Ok x) p q f h = tt
refused_as (Err (halt.Refused refusal)) p q f h = f h
refused_as (Err (halt.Stopped why)) p q f h = tt

always_refused : {X : Type 0} (r : Result X Halt) (p : Type 0) → p → OnRefused r p
always_refused (Ok x) p h = tt
always_refused (Err (halt.Refused refusal)) p h = h
always_refused (Err (halt.Stopped why)) p h = tt

unless_stopped : {X : Type 0} (r : Result X Halt) (p q : Type 0) → (p → q) → IfOk (split r) (λ _. p) → IfOk (split r) (λ _. q)
unless_stopped (Ok x) p q f h = f h
unless_stopped (Err (halt.Refused refusal)) p q f h = f h
unless_stopped (Err (halt.Stopped why)) p q f h = tt

if_accepted : {X : Type 0} (r : Result X Halt) (p q : Type 0) → (p → q) → IfOk (split r) (λ _. p) → IfOk r (λ _. q)
if_accepted (Ok x) p q f h = f h
if_accepted (Err why) p q f h = tt

if_refused : {X : Type 0} (r : Result X Halt) (p q : Type 0) → (p → q) → IfOk (split r) (λ _. p) → OnRefused r q
if_refused (Ok x) p q f h = tt
if_refused (Err (halt.Refused refusal)) p q f h = f h
if_refused (Err (halt.Stopped why)) p q f h = tt

always_ok : {X : Type 0} (r : Result X Halt) (p : Type 0) → p → IfOk r (λ _. p)
always_ok (Ok x) p h = h
always_ok (Err why) p h = tt

always : {X : Type 0} (r : Result X Stop) (p : Type 0) → p → IfOk r (λ _. p)
always (Ok x) p h = h
always (Err why) p h = tt

fresh_err : (X Y : Type 0) (e : Halt) (p : Type 0) → IfOk (split {X = X} (Err e)) (λ _. p) → IfOk (split {X = Y} (Err e)) (λ _. p)
fresh_err X Y (halt.Refused refusal) p h = h
fresh_err X Y (halt.Stopped why) p h = tt

module _ {R L : Type 0} (m : Meaning R) where
  -- ---- the place is not found

  module _ {B Y : Type 0} (view : Y → B) (old mid : ZipTree) (was now : Session R L) (rest : PlaceTree → Ask (Answered B)) (evals : Store → ℕ) (e : Halt) (finds : Finds m old mid was now (Err e)) where
    unfound_follows : Implements {A = Answered B} {X = Result Y Refusal} m (answered view) was now (at_place old.root old.address rest) (split (Err e))
    unfound_follows =
        same_rule (place_needed old.root old.address >>= unrefused rest) (at_place old.root old.address rest) (at_place_is old.root old.address rest) (step_halt (place_needed old.root old.address) rest e finds.follows)

    unfound_most : Evaluates m old was now evals
    unfound_most S agrees = let most = finds.most S agrees in omega (arith, most)

    unfound_asks : Asks {X = Y} m view old mid was now (at_place old.root old.address rest) evals (Err e)
    unfound_asks = record {
      follows = unfound_follows;
      fresh = fresh_err (Unit {0}) Y e (IsFreshIn m now mid) finds.fresh;
      settled = tt;
      kept = finds.kept;
      root = finds.root;
      address = finds.address;
      most = unfound_most;
    }

    pub asks_unfound : (r : Result Y Halt) → IsErrAnd r (λ h. h ≡ e) → Asks m view old mid was now (at_place old.root old.address rest) evals r
    asks_unfound r is = subst (λ (r : Result Y Halt). Asks m view old mid was now (at_place old.root old.address rest) evals r) (sym (err_of r e is)) unfound_asks

  module _ (old mid : ZipTree) (was now : Session R L) (rest : PlaceTree → Ask (Answered Address)) (rule : Ask (Answered Address)) (same : at_place old.root old.address rest ≡ rule) (evals : Store → ℕ) where
    unfound_moves : (e : Halt) → Finds m old mid was now (Err e) → Moves m old mid was now rule evals (Err e)
    unfound_moves e finds = record {
      follows = same_rule (at_place old.root old.address rest) rule same (unfound_follows (λ _. mid.address) old mid was now rest evals e finds);
      fresh = finds.fresh;
      settled = tt;
      kept = always_refused {X = Unit {0}} (Err e) (IsSettled old → IsSettled mid) finds.kept;
      root = finds.root;
      refused = always_refused {X = Unit {0}} (Err e) (mid.address ≡ old.address) finds.address;
      most = unfound_most {Y = Unit {0}} (λ _. mid.address) old mid was now rest evals e finds;
    }

    pub moves_unfound : (e : Halt) (r : Result (Unit {0}) Halt) → IsErrAnd r (λ h. h ≡ e) → Finds m old mid was now (Err e) → Moves m old mid was now rule evals r
    moves_unfound e r is finds = subst (Moves m old mid was now rule evals) (sym (err_of r e is)) (unfound_moves e finds)

  -- ---- it is found, and then

  module _ (old mid : ZipTree) (was then : Session R L) (finds : Finds m old mid was then (Ok tt)) where
    -- at each filestore that agrees the place is that one
    here_at : (S : Store) → Agrees (m.reads then.reader.now) S → answer (changed (own_at was.own) S) (place old.root old.address) ≡ Some (here mid)
    here_at S agrees =
        let is = found_answer (known_of (m.reads then.reader.now)) (own_at then.own) S agrees (place mid.root mid.address) (Some (here mid)) (stands_here (m.reads then.reader.now) (own_at then.own) mid finds.stands) in
        let same : place old.root old.address ≡ place mid.root mid.address = ap (λ root. place root old.address) (sym finds.root) ∙ ap (place mid.root) (sym finds.address) in
        ap (answer (changed (own_at was.own) S)) same ∙ subst (λ (own : OwnList). answer (changed (own_at own) S) (place mid.root mid.address) ≡ Some (here mid)) finds.follows.own is

    module _ {B Y : Type 0} (view : Y → B) (rest : PlaceTree → Ask (Answered B)) (now : Session R L) (r : Result (Result Y Refusal) Stop) (next : Implements m (answered view) then now (rest (here mid)) r) where
      found_next : Implements m (answered view) was now (at_place old.root old.address rest) r
      found_next =
          same_rule (place_needed old.root old.address >>= unrefused rest) (at_place old.root old.address rest) (at_place_is old.root old.address rest) (then_on (place_needed old.root old.address) (unrefused rest) finds.follows next)

      found_most : (evals_here evals : Store → ℕ) → ((S : Store) → Agrees (m.reads now.reader.now) S → now.steps ≤ then.steps + evals_here (changed (own_at then.own) S)) → ((S : Store) → answer S (place old.root old.address) ≡ Some (here mid) → evals S ≡ evals_here S) → Evaluates m old was now evals
      found_most evals_here evals most same S agrees =
          let before = agrees_on next S agrees in
          let first = finds.most S before in
          let then_most = subst (λ (own : OwnList). now.steps ≤ then.steps + evals_here (changed (own_at own) S)) finds.follows.own (most S agrees) in
          let is = same (changed (own_at was.own) S) (here_at S before) in
          omega (arith, first, then_most, is)

    pub moves_on : (new : ZipTree) (now : Session R L) (rest : PlaceTree → Ask (Answered Address)) (rule : Ask (Answered Address)) → at_place old.root old.address rest ≡ rule → (evals_here evals : Store → ℕ) → ((S : Store) → answer S (place old.root old.address) ≡ Some (here mid) → evals S ≡ evals_here S)
        → (r : Result (Unit {0}) Halt) → Turns m mid new then now (rest (here mid)) evals_here r → Moves m old new was now rule evals r
    moves_on new now rest rule same evals_here evals counted r turns = record {
      follows = same_rule (at_place old.root old.address rest) rule same (found_next (λ _. new.address) rest now (split r) turns.follows);
      fresh = unless_stopped r (StandsIn m now new) (IsFreshIn m now new) (stands_fresh (m.reads now.reader.now) (own_at now.own) new) turns.stands;
      settled = if_accepted r (StandsIn m now new) (IsSettled new) (stands_settled (m.reads now.reader.now) (own_at now.own) new) turns.stands;
      kept = if_refused r (StandsIn m now new) (IsSettled old → IsSettled new) (λ h _. stands_settled (m.reads now.reader.now) (own_at now.own) new h) turns.stands;
      root = turns.root ∙ finds.root;
      refused = refused_as r (new.address ≡ mid.address) (new.address ≡ old.address) (λ e. e ∙ finds.address) turns.refused;
      most = found_most (λ _. new.address) rest now (split r) turns.follows evals_here evals turns.most counted;
    }

    -- the bound of a rule from the place
    pub counted_here : {B : Type 0} (rest : PlaceTree → Ask B) (S : Store) → answer S (place old.root old.address) ≡ Some (here mid) → place_evals old rest S ≡ ticks S (rest (here mid))
    counted_here rest S is = ap (evals_with (λ at. ticks S (rest at))) is

    pub asks_on : {B Y : Type 0} (view : Y → B) (rest : PlaceTree → Ask (Answered B)) (new : ZipTree) (now : Session R L) (r : Result Y Halt) → new ≡ mid → Answers m view then now (rest (here mid)) r
        → Asks m view old new was now (at_place old.root old.address rest) (place_evals old rest) r
    asks_on view rest new now r same next =
        let fresh = fresh_on next mid (stands_fresh (m.reads then.reader.now) (own_at then.own) mid finds.stands) in
        record {
          follows = found_next view rest now (split r) next;
          fresh = always (split r) (IsFreshIn m now new) (subst (IsFreshIn m now) (sym same) fresh);
          settled = always_ok r (IsSettled new) (subst IsSettled (sym same) finds.settled);
          kept = λ _. subst IsSettled (sym same) finds.settled;
          root = ap (λ (z : ZipTree). z.root) same ∙ finds.root;
          address = ap (λ (z : ZipTree). z.address) same ∙ finds.address;
          most = found_most view rest now (split r) next (λ S. ticks S (rest (here mid))) (place_evals old rest) next.follows.most (counted_here rest);
        }

  -- ---- entries

  module _ (mid : ZipTree) (was now : Session R L) (stands : StandsIn m was mid) (rule : Address → Ask (Answered Address)) where
    abbrev EntersHere : Result Entry Halt → Type 0
    EntersHere r = Enters m rule (path_of mid.frames) mid.env (part mid.root mid.address) was now r

    abbrev TurnsHere : ZipTree → Result (Unit {0}) Halt → Type 0
    TurnsHere new r = Turns m mid new was now (rule mid.address) (λ S. ticks S (rule mid.address)) r

    grows_here : (r : Result Entry Halt) → EntersHere r → StandsIn m now mid
    grows_here r h = stands_on (h.follows mid.address) mid stands

    -- the step is added
    pub enter_turns : (e : Entry) (new : ZipTree) → EntersHere (Ok e) → new ≡ entered mid (step_tree e.step) e.spot → TurnsHere new (Ok tt)
    enter_turns e new h same = subst (λ z. TurnsHere z (Ok tt)) (sym same) (record {
      follows = answers_as refl (h.follows mid.address);
      stands = stands_entered (m.reads now.reader.now) (own_at now.own) mid (step_tree e.step) e.spot (grows_here (Ok e) h) h.leads;
      root = refl;
      refused = tt;
      most = (h.follows mid.address).follows.most;
    })

    -- memory for it is refused
    pub enter_memory : (e : Result Entry Halt) (new : ZipTree) (r : Result (Unit {0}) Halt) → EntersHere e → new.root ≡ mid.root → IsErrAnd r (λ h. h ≡ halt.Stopped stop.NoMemory) → TurnsHere new r
    enter_memory e new r h root is = subst (TurnsHere new) (sym (err_of r (halt.Stopped stop.NoMemory) is)) (record {
      follows = memory_after (h.follows mid.address);
      stands = tt;
      root = root;
      refused = tt;
      most = (h.follows mid.address).follows.most;
    })

    -- there is no entry
    none_turns : (e : Halt) → EntersHere (Err e) → TurnsHere mid (Err e)
    none_turns (halt.Refused f) h = record {
      follows = answers_as refl (h.follows mid.address);
      stands = grows_here (Err (halt.Refused f)) h;
      root = refl;
      refused = refl;
      most = (h.follows mid.address).follows.most;
    }
    none_turns (halt.Stopped why) h = record {
      follows = stops_as why (h.follows mid.address);
      stands = tt;
      root = refl;
      refused = tt;
      most = (h.follows mid.address).follows.most;
    }

    pub no_entry : (e : Halt) (r : Result (Unit {0}) Halt) → EntersHere (Err e) → IsErrAnd r (λ h. h ≡ e) → TurnsHere mid r
    no_entry e r h is = subst (TurnsHere mid) (sym (err_of r e is)) (none_turns e h)

-- ---- one move

scope_as : (env e : Bindings) (s t : SpecTree) → env ≡ e → s ≡ t → HasScope e t → HasScope env s
scope_as env e s t same is h = subst (λ v. HasScope v s) (sym same) (subst (HasScope e) (sym is) h)

-- the set that is kept there
pub kept_here : (known : ReadList) (own : Known) (z : ZipTree) (env : Bindings) (s : SpecTree) (set : Option (List (List ℕ))) → env ≡ z.env → s ≡ part z.root z.address → set ≡ z.set → Stands known own z → IsSetOf set env s
kept_here known own z env s set bound form is stands = subst (λ o. IsSetOf o env s) (sym is) (subst (λ e. IsSetOf z.set e s) (sym bound) (subst (IsSetOf z.set z.env) (sym form) stands.set))

module _ (known : ReadList) (own : Known) (z : ZipTree) (p : List (List ℕ)) (env : Bindings) (s : SpecTree) (path : p ≡ path_of z.frames) (bound : env ≡ z.env) (form : s ≡ part z.root z.address) where
  pub here_scope : IsDescription [] z.root → Stands known own z → HasScope env s
  here_scope d stands = scope_as env z.env s (part z.root z.address) bound form (stands_scope known own z d stands)

  module _ (move : Address → List (List ℕ) → Bindings → SpecTree → Ask (Answered Address)) (r : Result Entry Halt) where
    pub enters_here : {R L : Type 0} (m : Meaning R) (was now : Session R L) → Enters m (λ a. move a p env s) p env s was now r → Enters m (λ a. move a (path_of z.frames) z.env (part z.root z.address)) (path_of z.frames) z.env (part z.root z.address) was now r
    enters_here m was now h =
        subst (λ q. Enters m (λ a. move a q z.env (part z.root z.address)) q z.env (part z.root z.address) was now r) path
        (subst (λ e. Enters m (λ a. move a p e (part z.root z.address)) p e (part z.root z.address) was now r) bound
        (subst (λ t. Enters m (λ a. move a p env t) p env t was now r) form h))

module _ {R L : Type 0} (m : Meaning R) (old mid : ZipTree) (was then now : Session R L) (finds : Finds m old mid was then (Ok tt)) (move : Address → List (List ℕ) → Bindings → SpecTree → Ask (Answered Address)) where
  abbrev move_here : Address → Ask (Answered Address)
  move_here a = move a (path_of mid.frames) mid.env (part mid.root mid.address)

  abbrev Moved : ZipTree → Result (Unit {0}) Halt → Type 0
  Moved new r = Moves m old new was now (from_place old.root old.address move) (place_evals old (λ at. move old.address at.path at.env at.spec)) r

  moved : (new : ZipTree) (r : Result (Unit {0}) Halt) → Turns m mid new then now (move_here mid.address) (λ S. ticks S (move_here mid.address)) r → Moved new r
  moved new r turns =
      moves_on m old mid was then finds new now (λ at. move old.address at.path at.env at.spec) (from_place old.root old.address move) refl (λ S. ticks S (move_here old.address)) (place_evals old (λ at. move old.address at.path at.env at.spec))
      (counted_here m old mid was then finds (λ at. move old.address at.path at.env at.spec)) r
      (subst (λ a. Turns m mid new then now (move_here a) (λ S. ticks S (move_here a)) r) finds.address turns)

  abbrev EntersFrom : Result Entry Halt → Type 0
  EntersFrom r = Enters m move_here (path_of mid.frames) mid.env (part mid.root mid.address) then now r

  pub moved_in : (e : Entry) (new : ZipTree) → EntersFrom (Ok e) → new ≡ entered mid (step_tree e.step) e.spot → Moved new (Ok tt)
  moved_in e new h same = moved new (Ok tt) (enter_turns m mid then now finds.stands move_here e new h same)

  pub moved_memory : (e : Entry) (new : ZipTree) (r : Result (Unit {0}) Halt) → EntersFrom (Ok e) → new.root ≡ mid.root → IsErrAnd r (λ h. h ≡ halt.Stopped stop.NoMemory) → Moved new r
  moved_memory e new r h root is = moved new r (enter_memory m mid then now finds.stands move_here (Ok e) new r h root is)

  pub moved_not : (e : Halt) (r : Result (Unit {0}) Halt) → EntersFrom (Err e) → IsErrAnd r (λ h. h ≡ e) → Moved mid r
  moved_not e r h is = moved mid r (no_entry m mid then now finds.stands move_here e r h is)
