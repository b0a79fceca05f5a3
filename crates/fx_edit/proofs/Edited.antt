-- Edits by the rules of their changes.
use Rattle.std.proofs.Common.{◌≡◌, ℕ, Bool, false, List, ◌∷◌, drop, Result, Ok, Err, refl, sym, subst, ap}
use Rattle.std.specs.Prelude.{IsErrAnd}
use Rattle.fx_store.specs.declared.node.Node.TheVariants.{Dir}
use Rattle.fx_store.specs.declared.changes.Change.{Change}
use Rattle.fx_store.specs.Changes.{changed_paths}
use Rattle.fx_store.specs.Rule.{Ask, Answer, Look, ◌>>=◌}
use Rattle.fx_expr.specs.Sets.{with_text}
use Rattle.fx_spec.specs.declared.refusal.Refusal.{Refusal}
use Rattle.fx_spec.specs.Edit.{set_to, names_of, unless_deep}
use Rattle.fx_spec.specs.Move.{Answered, unrefused}
use Rattle.fx_view.specs.declared.reader.Stop.{Stop}
use Rattle.fx_view.specs.declared.reader.Stop.TheVariants as stop
use Rattle.fx_view.specs.Meaning.{Meaning}
use Rattle.fx_base.proofs.Errors.{err_of}
use Rattle.fx_session.specs.declared.halt.Halt.{Halt}
use Rattle.fx_session.specs.declared.halt.Halt.TheVariants as halt
use Rattle.fx_session.specs.declared.session.Session.{Session}
use Rattle.fx_session.specs.Implements.{Implements, Answers}
use Rattle.fx_session.proofs.Calls.{answers, then_on, then_answers, stops, then_refused}
use Rattle.fx_session.proofs.Halting.{no_memory_at_once, stop_halts}
use Rattle.fx_edit.specs.Rules.{edit_answer, looking, made_in}
use Rattle.fx_edit.specs.Values.{Tells}
use Rattle.fx_edit.proofs.Exits.{by_rule}

abbrev Path : Type 0
Path = List (List ℕ)

pub unless_deep-room : (b : Bool) (rule : Ask (Answered (List Change))) → b ≡ false → unless_deep b rule ≡ rule
unless_deep-room b rule is = ap (λ b. unless_deep b rule) is

pub edit_refused : {R L : Type 0} {m : Meaning R} {s : Session R L} {other : Ask (Answered (List Change))} (refusal : Refusal) → other ≡ Answer (Err refusal) → Answers {X = List Change} m (λ e. e) s s other (Err (halt.Refused refusal))
edit_refused refusal is = by_rule is (answers (Err refusal) (Err refusal) refl)

pub edit_answered : {R L : Type 0} {m : Meaning R} {s : Session R L} {other : Ask (Answered (List Change))} (cs : List Change) → other ≡ Answer (Ok cs) → Answers {X = List Change} m (λ e. e) s s other (Ok cs)
edit_answered cs is = by_rule is (answers (Ok cs) (Ok cs) refl)

module _ {R L : Type 0} {m : Meaning R} {old mid : Session R L} {other : Ask (Answered (List Change))} {rule : Ask (List Change)} (is : other ≡ edit_answer rule) where
  pub edit_stops : {why : Stop} (r : Result (List Change) Halt) → IsErrAnd r (λ h. h ≡ halt.Stopped why) → Implements {X = List Change} m (λ e. e) old mid rule (Err why) → Answers m (λ e. e) old mid other r
  edit_stops r e h = by_rule is (stop_halts rule (λ (cs : List Change). Answer (Ok cs)) r e h)

  pub edit_done : {cs : List Change} → Implements {X = List Change} m (λ e. e) old mid rule (Ok cs) → Answers m (λ e. e) old mid other (Ok cs)
  edit_done {cs = cs} h = by_rule is (then_answers rule (λ (cs : List Change). Answer (Ok cs)) (Ok cs) h refl)

-- ---- what is made in a directory

abbrev lists : Path → Ask (List (List ℕ))
lists here = Look here (λ found. Answer (names_of found))

abbrev whole : Path → List ℕ → List Change → List (List ℕ) → List Change
whole here n changes names = set_to here (Dir (with_text n names)) ∷ changes

abbrev looks : Path → List ℕ → List Change → List (List ℕ) → Ask (List Change)
looks here n changes names = looking (changed_paths changes) >>= λ u. Answer (whole here n changes names)

module _ {R L : Type 0} {m : Meaning R} {old mid : Session R L} {here : Path} (n : List ℕ) (changes : List Change) where
  pub in_stops : {why : Stop} (r : Result (List Change) Stop) → IsErrAnd r (λ d. d ≡ why) → Implements {X = List (List ℕ)} m (λ n. n) old mid (lists here) (Err why) → Implements m (λ e. e) old mid (made_in here n changes) r
  in_stops r is first = stops (lists here) (looks here n changes) r is first

  pub in_tires : {names : List (List ℕ)} (r : Result (List Change) Stop) → IsErrAnd r (λ d. d ≡ stop.NoMemory) → Implements m (λ n. n) old mid (lists here) (Ok names) → Implements m (λ e. e) old mid (made_in here n changes) r
  in_tires r is first = then_refused (lists here) (looks here n changes) r is first

  module _ {new : Session R L} {names : List (List ℕ)} {edits : List Change} (same : edits ≡ whole here n changes names) (first : Implements m (λ n. n) old mid (lists here) (Ok names)) where
    looked : {r : Result (Unit {0}) Stop} → Implements m (λ (u : Unit {0}). u) mid new (looking (changed_paths (drop 1 edits))) r → Implements m (λ (u : Unit {0}). u) mid new (looking (changed_paths changes)) r
    looked h = by_rule (ap (λ es. looking (changed_paths (drop 1 es))) (sym same)) h

    pub in_looks_stop : {why : Stop} (r : Result (List Change) Stop) → IsErrAnd r (λ d. d ≡ why) → Implements m (λ (u : Unit {0}). u) mid new (looking (changed_paths (drop 1 edits))) (Err why) → Implements m (λ e. e) old new (made_in here n changes) r
    in_looks_stop r is h = then_on (lists here) (looks here n changes) first (stops (looking (changed_paths changes)) (λ u. Answer (whole here n changes names)) r is (looked h))

    pub in_done : Implements m (λ (u : Unit {0}). u) mid new (looking (changed_paths (drop 1 edits))) (Ok tt) → Implements m (λ e. e) old new (made_in here n changes) (Ok edits)
    in_done h = then_on (lists here) (looks here n changes) first (then_answers (looking (changed_paths changes)) (λ u. Answer (whole here n changes names)) edits (looked h) (ap (λ (cs : List Change). Answer cs) (sym same)))

-- ---- after an answer that may be a refusal

module _ {R L A X : Type 0} {m : Meaning R} {old : Session R L} (view : X → A) (told : Answered A) (next : A → Ask (Answered (List Change))) where
  halts_told : (e : Halt) → Tells view told (Err e) → Answers {X = List Change} m (λ e. e) old old (unrefused next told) (Err e)
  halts_told (halt.Refused refusal) is = edit_refused refusal (ap (unrefused next) is)
  halts_told (halt.Stopped why) is = no_memory_at_once (unrefused next told) (Err (halt.Stopped why)) (ap (λ why. halt.Stopped why) is)

  pub told_halts : (e : Halt) (r : Result (List Change) Halt) → IsErrAnd r (λ h. h ≡ e) → Tells view told (Err e) → Answers m (λ e. e) old old (unrefused next told) r
  told_halts e r is h = subst (λ (r : Result (List Change) Halt). Answers m (λ (e : List Change). e) old old (unrefused next told) r) (sym (err_of r e is)) (halts_told e h)

  pub told_goes : {new : Session R L} {x : X} (r : Result (List Change) Halt) → told ≡ Ok (view x) → Answers m (λ e. e) old new (next (view x)) r → Answers m (λ e. e) old new (unrefused next told) r
  told_goes r is h = by_rule (ap (unrefused next) is) h
