-- Accepted calls evaluate no more often than each by itself.
use Rattle.fx_zip.proofs.Prelude.{◌≡◌, ℕ, ◌+◌, ◌≤◌, Bool, true, false, cond, List, [], ◌∷◌, Result, Ok, refl, sym, ap, ◌∙◌, subst, arith, Ask, answer, ticks, changed, Store, ShapeTree, tree_of, Value, Refusal, value, Answered, at_place}
use Rattle.fx_zip.proofs.Prelude.{go_into, go_to, go_next, go_down, go_out, go_up, fetch_at, First, Second, Inside, Body, Elem, Address, place, from_place, Meaning, known_of, Agrees, found_answer, answered, Moves, settling_evals}
use Rattle.fx_zip.proofs.Prelude.{place_evals, sideways_evals, AsksAtPlace, ZipTree, is_settled, IsSettled, Implements, Session, own_at, OwnList}
use Rattle.std.specs.Str.{is_utf8, chars}
use lib.Utf8.{encode}
use Rattle.fx_store.specs.Names.{is_name}
use Rattle.fx_store.specs.Resolve.{resolve}
use Rattle.fx_spec.specs.Place as steps
use Rattle.fx_zip.specs.Worked.{Call, Into, To, Next, Down, Out, Up, Fetch, leads_to, still, call_evals, evals_at, where_accepted, calls_eval, IsUnreadMove, Accepts, Accept, CallsEvaluate, WalksInFive}
use Rattle.fx_zip.proofs.Sessions.{agrees_on}

-- what one accepted call comes to
record Came {R L : Type 0} (m : Meaning R) (old new : ZipTree) (was now : Session R L) (c : Call) (S : Store) : Type 0 where
  pub before : Agrees (m.reads was.reader.now) S
  pub most : IsSettled old → now.steps ≤ was.steps + call_evals old.root (changed (own_at was.own) S) old.address c
  pub settled : IsSettled old → IsSettled new
  pub own : now.own ≡ was.own
  pub root : new.root ≡ old.root
  pub address : leads_to old.root (changed (own_at was.own) S) old.address c ≡ Ok new.address

no_settling : (z : ZipTree) (S : Store) → IsSettled z → settling_evals z S ≡ 0
no_settling z S e = at (is_settled z) e
  where
    at : (b : Bool) → b ≡ true → cond b 0 (ticks S (place z.root z.address)) ≡ 0
    at true e = refl
    at false e = absurd (cc)

next_same : (z : ZipTree) (S : Store) (w : Address) → z.address ≡ w → sideways_evals z w S ≡ call_evals z.root S w Next
next_same z S [] e = refl
next_same z S (First ∷ a) e = ap (λ w. evals_at z.root w (λ at. value at.path at.env at.spec) S) e
next_same z S (Second ∷ a) e = refl
next_same z S (Inside ∷ a) e = refl
next_same z S (steps.Down ∷ a) e = refl
next_same z S (Body ∷ a) e = refl
next_same z S (Elem t ∷ a) e = refl

module _ {R L : Type 0} (m : Meaning R) (old new : ZipTree) (was now : Session R L) (S : Store) (agrees : Agrees (m.reads now.reader.now) S) where
  -- what a rule answers that was followed
  answers : {A X : Type 0} (view : X → A) (rule : Ask A) (x : X) → Implements m view was now rule (Ok x) → answer (changed (own_at was.own) S) rule ≡ view x
  answers view rule x h = found_answer (known_of (m.reads now.reader.now)) (own_at was.own) S agrees rule (view x) h.follows.goes.0

  moved : (c : Call) (rule : Ask (Answered Address)) (evals : Store → ℕ) → Moves m old new was now rule evals (Ok tt) → evals (changed (own_at was.own) S) ≡ call_evals old.root (changed (own_at was.own) S) old.address c → leads_to old.root (changed (own_at was.own) S) old.address c ≡ answer (changed (own_at was.own) S) rule
      → Came m old new was now c S
  moved c rule evals h counted leads = record {
    before = agrees_on h.follows S agrees;
    most = λ e. let most = h.most S agrees in let none = no_settling old (changed (own_at was.own) S) e in omega (arith, most, none, counted);
    settled = λ e. h.settled;
    own = h.follows.own;
    root = h.root;
    address = leads ∙ answers {X = Result (Unit {0}) Refusal} (answered (λ (u : Unit {0}). new.address)) rule (Ok tt) h.follows;
  }

  asked : (shape : ShapeTree) (v : Value) → AsksAtPlace m tree_of old new was now (fetch_at shape) (Ok v) → Came m old new was now (Fetch shape) S
  asked shape v h = record {
    before = agrees_on h.follows S agrees;
    most = λ e. let most = h.most S agrees in let none = no_settling old (changed (own_at was.own) S) e in omega (arith, most, none);
    settled = λ e. h.settled;
    own = h.follows.own;
    root = h.root;
    address = ap (still old.address) (answers (answered tree_of) (at_place old.root old.address (fetch_at shape)) (Ok v) h.follows) ∙ ap (λ a. Ok a) (sym h.address);
  }

  left : (c : Call) (told : Answered Address) → call_evals old.root (changed (own_at was.own) S) old.address c ≡ 0 → leads_to old.root (changed (own_at was.own) S) old.address c ≡ told → IsUnreadMove old new was now told → Came m old new was now c S
  left c told none leads h = record {
    before = subst (λ (s : Session R L). Agrees (m.reads s.reader.now) S) h.same agrees;
    most = λ e. let same = ap (λ (s : Session R L). s.steps) h.same in omega (arith, same);
    settled = h.settled;
    own = ap (λ (s : Session R L). s.own) h.same;
    root = h.root;
    address = leads ∙ h.address;
  }

  came : (c : Call) → Accepts m old new was now c → Came m old new was now c S
  came Into h = moved Into (from_place old.root old.address go_into) (place_evals old (λ at. go_into old.address at.path at.env at.spec)) h refl refl
  came (To t) h = moved (To t) (from_place old.root old.address (go_to t)) (place_evals old (λ at. go_to t old.address at.path at.env at.spec)) h refl refl
  came Next h = moved Next (go_next old.root old.address) (sideways_evals old old.address) h (next_same old (changed (own_at was.own) S) old.address refl) refl
  came Down h = moved Down (from_place old.root old.address go_down) (place_evals old (λ at. go_down old.address at.path at.env at.spec)) h refl refl
  came Out h = left Out (go_out old.address) refl refl h
  came Up h = left Up (go_up old.address) refl refl h
  came (Fetch shape) h = asked shape h.0 h.1

module _ {R L : Type 0} (m : Meaning R) (S : Store) where
  agree_before : (cs : List Call) (old new : ZipTree) (was now : Session R L) → Accept m cs old new was now → Agrees (m.reads now.reader.now) S → Agrees (m.reads was.reader.now) S
  agree_before [] old new was now h agrees = subst (λ (s : Session R L). Agrees (m.reads s.reader.now) S) h.1 agrees
  agree_before (c ∷ cs) old new was now h agrees =
      (came m old h.0 was h.1 S (agree_before cs h.0 new h.1 now h.3 agrees) c h.2).before

  evaluate : (cs : List Call) (old new : ZipTree) (was now : Session R L) → IsSettled old → Accept m cs old new was now → Agrees (m.reads now.reader.now) S → (now.steps ≤ was.steps + calls_eval old.root (changed (own_at was.own) S) old.address cs) × IsSettled new
  evaluate [] old new was now e h agrees = let same = ap (λ (s : Session R L). s.steps) h.1 in (omega (arith, same), subst IsSettled (sym h.0) e)
  evaluate (c ∷ cs) old new was now e h agrees =
      let at = came m old h.0 was h.1 S (agree_before cs h.0 new h.1 now h.3 agrees) c h.2 in
      let rest = evaluate cs h.0 new h.1 now (at.settled e) h.3 agrees in
      let most = at.most e in
      let least = subst (λ (own : OwnList). now.steps ≤ h.1.steps + calls_eval h.0.root (changed (own_at own) S) h.0.address cs) at.own rest.0 in
      let same : where_accepted (λ b. calls_eval old.root (changed (own_at was.own) S) b cs) (leads_to old.root (changed (own_at was.own) S) old.address c) ≡ calls_eval h.0.root (changed (own_at was.own) S) h.0.address cs =
      ap (where_accepted (λ b. calls_eval old.root (changed (own_at was.own) S) b cs)) at.address ∙ ap (λ root. calls_eval root (changed (own_at was.own) S) h.0.address cs) (sym at.root) in
      (omega (arith, most, least, same), rest.1)

pub calls_evaluate : {R : Type 0} (L : Type 0) (m : Meaning R) → CallsEvaluate L m
calls_evaluate L m cs old new was now e h S agrees = evaluate m S cs old new was now e h agrees

-- ---- the worked walk

pub walks_in_five : WalksInFive
unfolding is_utf8 chars encode is_name resolve value place
walks_in_five = record { ends = refl; five = refl }
