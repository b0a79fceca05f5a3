-- Calls that follow rules: an answer, one look, one call and then the next, an evaluation, and a call that stops.
use Rattle.std.proofs.Common.{◌≡◌, ℕ, ◌+◌, List, Option, Some, Result, Ok, Err, refl, ap, sym, subst, arith}
use Rattle.std.specs.Prelude.{IfOk, IfErr}
use Rattle.fx_store.specs.declared.node.Node.{Node}
use Rattle.fx_store.specs.Rule.{Known, Ask, Answer, Tick, look, ◌>>=◌, seen, answer, ticks, changed}
use Rattle.fx_store.specs.Whole.{Store}
use Rattle.fx_store.proofs.Asks.{ticks-bind}
use Rattle.fx_view.specs.declared.reader.Stop.{Stop}
use Rattle.fx_view.specs.declared.reader.Stop.TheVariants as stop
use Rattle.fx_view.specs.Meaning.{Meaning}
use Rattle.fx_view.specs.Reads.{known_of, Agrees}
use Rattle.fx_view.specs.Answers.{IsReadOf}
use Rattle.fx_view.specs.Follows.{walked, Went, GoesBy, Follows, Consults}
use Rattle.fx_view.proofs.Rules.{found_answer}
use Rattle.fx_view.proofs.Going.{Went-grows}
use Rattle.fx_view.proofs.Rulings.{by_answer, by_refused, by_then, by_stop, by_tick, by_look, by_look_own}

abbrev Path : Type 0
Path = List (List ℕ)

module _ {R : Type 0} (m : Meaning R) where
  -- however a call ends, the reader has gone on
  pub went_by : {A X : Type 0} (view : X → A) (own : Known) (old new : R) (rule : Ask A) (result : Result X Stop) → GoesBy m view own old new rule result → Went m old new (walked (known_of (m.reads new)) own rule)
  went_by view own old new rule (Ok x) h = h.1
  went_by view own old new rule (Err (stop.Needs p)) h = h.2
  went_by view own old new rule (Err stop.NoMemory) h = h

  -- and a filestore that agrees with its reads agrees with those from before
  pub agrees_by : {A X : Type 0} (view : X → A) (own : Known) (old new : R) (rule : Ask A) (result : Result X Stop) → GoesBy m view own old new rule result → (S : Store) → Agrees (m.reads new) S → Agrees (m.reads old) S
  agrees_by view own old new rule result h S agrees p n e =
      agrees p n ((Went-grows m old new (walked (known_of (m.reads new)) own rule) (went_by view own old new rule result h)).keeps p n e)

  -- ---- a call that counts no evaluation

  pub consults_by : {A X : Type 0} (view : X → A) (own : Known) (old new : R) (rule : Ask A) (result : Result X Stop) → GoesBy m view own old new rule result → Consults m view own old new rule result
  consults_by view own old new rule result h n = record { goes = h; most = λ S agrees. omega arith }

  -- ---- an answer, and a stop before anything was read

  pub follows_answer : {A X : Type 0} (view : X → A) (own : Known) (old : R × ℕ) (a : A) (x : X) → a ≡ view x → Follows m view own old old (Answer a) (Ok x)
  follows_answer view own old a x e = record { goes = by_answer m view own old.0 a x e; most = λ S agrees. omega arith }

  pub follows_refused : {A X : Type 0} (view : X → A) (own : Known) (old : R × ℕ) (rule : Ask A) → Follows {A = A} {X = X} m view own old old rule (Err stop.NoMemory)
  follows_refused view own old rule = record { goes = by_refused m view own old.0 rule; most = λ S agrees. omega arith }

  -- ---- an evaluation, and then the rule

  pub follows_tick : {A X : Type 0} (view : X → A) (own : Known) (old : R) (n : ℕ) (new : R × ℕ) (rule : Ask A) (result : Result X Stop) → Follows m view own (old, n + 1) new rule result → Follows m view own (old, n) new (Tick rule) result
  follows_tick view own old n new rule result h = record { goes = by_tick m view own old new.0 rule result h.goes; most = λ S agrees. let most = h.most S agrees in omega arith }

  -- ---- one rule, and then the next

  module _ {A B X Y : Type 0} (view : X → A) (then_view : Y → B) (own : Known) (old mid : R × ℕ) (rule : Ask A) (f : A → Ask B) where
    -- a call that follows the one rule, and then one that follows the next
    pub follows_then : (new : R × ℕ) (x : X) (result : Result Y Stop) → Follows m view own old mid rule (Ok x) → Follows m then_view own mid new (f (view x)) result → Follows m then_view own old new (rule >>= f) result
    follows_then new x result first next = record {
      goes = by_then m view then_view own old.0 mid.0 rule f new.0 x result first.goes next.goes;
      most = λ S agrees.
          let before = agrees_by then_view own mid.0 new.0 (f (view x)) result next.goes S agrees in
          let is : answer (changed own S) rule ≡ view x = found_answer (known_of (m.reads mid.0)) own S before rule (view x) first.goes.0 in
          let same = ap (λ a. ticks (changed own S) (f a)) is in
          omega (arith, first.most S before, next.most S agrees, ticks-bind (changed own S) rule f, same);
    }

    -- where the one call stops, the whole stops
    pub follows_stop : (why : Stop) → Follows {A = A} {X = X} m view own old mid rule (Err why) → Follows {A = B} {X = Y} m then_view own old mid (rule >>= f) (Err why)
    follows_stop why first = record {
      goes = by_stop m view then_view own old.0 mid.0 rule f why first.goes;
      most = λ S agrees. omega (arith, first.most S agrees, ticks-bind (changed own S) rule f);
    }

    -- a call that follows the one rule, and then an answer
    pub follows_then_answer : (x : X) (y : Y) → Follows m view own old mid rule (Ok x) → f (view x) ≡ Answer (then_view y) → Follows m then_view own old mid (rule >>= f) (Ok y)
    follows_then_answer x y first e =
        follows_then mid x (Ok y) first (subst (λ (r : Ask B). Follows m then_view own mid mid r (Ok y)) (sym e) (follows_answer then_view own mid (then_view y) y refl))

    -- a call that follows the one rule, and then memory is refused
    pub follows_then_refused : (x : X) → Follows m view own old mid rule (Ok x) → Follows {A = B} {X = Y} m then_view own old mid (rule >>= f) (Err stop.NoMemory)
    follows_then_refused x first = follows_then mid x (Err stop.NoMemory) first (follows_refused then_view own mid (f (view x)))

  -- ---- one look

  module _ (own : Known) (old new : R) (path : Path) (same : m.complete new ≡ m.complete old) (vouched : (start : R) → m.vouches start old (m.reads old) → m.vouches start new (m.reads new)) where
    -- a read, with the own changes on top
    pub consults_look : (under top : Option Node) → IsReadOf (m.reads old) (m.reads new) path under → top ≡ seen (own path) under → Consults m (λ n. n) own old new (look path) (Ok top)
    consults_look under top read e = consults_by (λ n. n) own old new (look path) (Ok top) (by_look m own old new path same vouched under top read e)

    -- a read at a path with an own change, which is copied unless memory is refused
    pub consults_look_own : (under change : Option Node) (result : Result (Option Node) Stop) → IsReadOf (m.reads old) (m.reads new) path under → Some change ≡ own path → IfOk result (λ n. n ≡ change) → IfErr result (λ why. why ≡ stop.NoMemory) → Consults m (λ n. n) own old new (look path) result
    consults_look_own under change result read is copied refused = consults_by (λ n. n) own old new (look path) result (by_look_own m own old new path same vouched under change result read is copied refused)
