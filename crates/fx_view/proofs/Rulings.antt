-- Calls that go by rules: an answer, one look, one call and then the next, and a call that stops.
use Rattle.std.proofs.Common.{◌≡◌, ℕ, List, [], ◌∷◌, ◌++◌, Option, Some, Result, Ok, Err, refl, ap, ◌∙◌, sym, subst, inl, inr}
use Rattle.std.specs.Prelude.{IfOk, IfErr}
use Rattle.std.proofs.lemmas.List.Elements.{All-contains_itself}
use Rattle.fx_store.specs.declared.node.Node.{Node}
use Rattle.fx_store.specs.Rule.{Known, Ask, Answer, Tick, look, ◌>>=◌, Found, seen, if_known, follow}
use Rattle.fx_view.specs.declared.reader.Stop.{Stop}
use Rattle.fx_view.specs.declared.reader.Stop.TheVariants as stop
use Rattle.fx_view.specs.Meaning.{Meaning}
use Rattle.fx_view.specs.Reads.{known_of, read_at}
use Rattle.fx_view.specs.Answers.{IsReadOf}
use Rattle.fx_view.specs.Follows.{walked, walked_on, Went, GoesBy}
use Rattle.fx_view.proofs.Growing.{known_by_read, read_at-last}
use Rattle.fx_view.proofs.Rules.{follow-bind, follow-bind_needs, walked-bind, walked-bind_needs, walked-bind_front, found_more, walked_more, walked_known}
use Rattle.fx_view.proofs.Ordering.{InOrder-one}
use Rattle.fx_view.proofs.Going.{Went-kept, Went-none, Went-front, Went-then, Went-grows}

abbrev Path : Type 0
Path = List (List ℕ)

module _ {R : Type 0} (m : Meaning R) where
  -- ---- an answer, and a stop before anything was read

  pub by_answer : {A X : Type 0} (view : X → A) (own : Known) (old : R) (a : A) (x : X) → a ≡ view x → GoesBy m view own old old (Answer a) (Ok x)
  by_answer view own old a x e = (ap (λ a. Found a) e, Went-none m old [])

  pub by_refused : {A X : Type 0} (view : X → A) (own : Known) (old : R) (rule : Ask A) → GoesBy {A = A} {X = X} m view own old old rule (Err stop.NoMemory)
  by_refused view own old rule = Went-none m old (walked (known_of (m.reads old)) own rule)

  -- ---- an evaluation, and then the rule

  pub by_tick : {A X : Type 0} (view : X → A) (own : Known) (old new : R) (rule : Ask A) (result : Result X Stop) → GoesBy m view own old new rule result → GoesBy m view own old new (Tick rule) result
  by_tick view own old new rule (Ok x) h = h
  by_tick view own old new rule (Err (stop.Needs p)) h = h
  by_tick view own old new rule (Err stop.NoMemory) h = h

  -- ---- one rule, and then the next

  module _ {A B X Y : Type 0} (view : X → A) (then_view : Y → B) (own : Known) (old mid : R) (rule : Ask A) (f : A → Ask B) where
    went_on : (new : R) (x : X) → GoesBy m view own old mid rule (Ok x) → Went m mid new (walked (known_of (m.reads new)) own (f (view x)))
        → (follow (known_of (m.reads new)) own rule ≡ Found (view x)) × Went m old new (walked (known_of (m.reads new)) own (rule >>= f))
    went_on new x first went =
        let grows = Went-grows m mid new (walked (known_of (m.reads new)) own (f (view x))) went in
        let found = found_more (known_of (m.reads mid)) (known_of (m.reads new)) own grows rule (view x) first.0 in
        let same = walked_more (known_of (m.reads mid)) (known_of (m.reads new)) own grows rule (view x) first.0 in (
          found,
          subst (Went m old new) (ap (λ ps. ps ++ walked (known_of (m.reads new)) own (f (view x))) (sym same) ∙ sym (walked-bind (known_of (m.reads new)) own rule f (view x) found))
              (Went-then m old mid new (walked (known_of (m.reads mid)) own rule) (walked (known_of (m.reads new)) own (f (view x))) (walked_known (known_of (m.reads mid)) own rule) first.1 went),
        )

    -- a call that follows the one rule, and then one that follows the next
    pub by_then : (new : R) (x : X) (result : Result Y Stop) → GoesBy m view own old mid rule (Ok x) → GoesBy m then_view own mid new (f (view x)) result
        → GoesBy m then_view own old new (rule >>= f) result
    by_then new x (Ok y) first next =
        let on = went_on new x first next.1 in
        (follow-bind (known_of (m.reads new)) own rule f (view x) on.0 ∙ next.0, on.1)
    by_then new x (Err (stop.Needs q)) first next =
        let on = went_on new x first next.2 in
        (follow-bind (known_of (m.reads new)) own rule f (view x) on.0 ∙ next.0, sym first.1.same ∙ next.1, on.1)
    by_then new x (Err stop.NoMemory) first next = (went_on new x first next).1

    -- where the one call stops, the whole stops
    pub by_stop : (why : Stop) → GoesBy {A = A} {X = X} m view own old mid rule (Err why) → GoesBy {A = B} {X = Y} m then_view own old mid (rule >>= f) (Err why)
    by_stop (stop.Needs q) first = (
      follow-bind_needs (known_of (m.reads mid)) own rule f q first.0,
      first.1,
      subst (Went m old mid) (sym (walked-bind_needs (known_of (m.reads mid)) own rule f q first.0)) first.2,
    )
    by_stop stop.NoMemory first =
        let front = walked-bind_front (known_of (m.reads mid)) own rule f in
        Went-front m old mid (walked (known_of (m.reads mid)) own rule) front.0 (walked (known_of (m.reads mid)) own (rule >>= f)) front.1 first

    -- a call that goes by the one rule, and then an answer
    pub by_then_answer : (x : X) (y : Y) → GoesBy m view own old mid rule (Ok x) → f (view x) ≡ Answer (then_view y) → GoesBy m then_view own old mid (rule >>= f) (Ok y)
    by_then_answer x y first e =
        by_then mid x (Ok y) first (subst (λ (r : Ask B). GoesBy m then_view own mid mid r (Ok y)) (sym e) (by_answer then_view own mid (then_view y) y refl))

    -- a call that goes by the one rule, and then memory is refused
    pub by_then_refused : (x : X) → GoesBy m view own old mid rule (Ok x) → GoesBy {A = B} {X = Y} m then_view own old mid (rule >>= f) (Err stop.NoMemory)
    by_then_refused x first = by_then mid x (Err stop.NoMemory) first (by_refused then_view own mid (f (view x)))

  -- ---- the same rule, spelled in another way

  pub by_same : {A X : Type 0} (view : X → A) (own : Known) (old new : R) (rule other : Ask A) (result : Result X Stop) → rule ≡ other → GoesBy m view own old new rule result → GoesBy m view own old new other result
  by_same {A} {X} view own old new rule other result e h = subst (λ (r : Ask A). GoesBy m view own old new r result) e h

  -- ---- one look

  module _ (own : Known) (old new : R) (path : Path) (same : m.complete new ≡ m.complete old) (vouched : (start : R) → m.vouches start old (m.reads old) → m.vouches start new (m.reads new)) where
    -- the path is known after the call, and is all that the call has read
    read_known : (under : Option Node) → IsReadOf (m.reads old) (m.reads new) path under → (known_of (m.reads new) path ≡ Some under) × Went m old new (path ∷ [])
    read_known under (inl before) =
        (known_by_read (m.reads new) path under before.0 (ap (λ rs. read_at rs path) before.2 ∙ before.1), Went-kept m old new (path ∷ []) before.2 same vouched)
    read_known under (inr added) = (
      known_by_read (m.reads new) path under added.0 (ap (λ rs. read_at rs path) added.2 ∙ read_at-last (m.reads old) path (under, added.0) added.1),
      record { more = (path, (under, added.0)) ∷ []; kept = added.2; only = All-contains_itself (path ∷ []); order = InOrder-one (m.reads old) path (under, added.0) added.1; same = same; vouched = vouched },
    )

    went_look : (under : Option Node) → IsReadOf (m.reads old) (m.reads new) path under → Went m old new (walked (known_of (m.reads new)) own (look path))
    went_look under read =
        let known = read_known under read in
        subst (Went m old new) (ap (λ k. walked_on path k (λ n. walked (known_of (m.reads new)) own (Answer (seen (own path) n)))) (sym known.0)) known.1

    -- a read, with the own changes on top
    pub by_look : (under top : Option Node) → IsReadOf (m.reads old) (m.reads new) path under → top ≡ seen (own path) under → GoesBy m (λ n. n) own old new (look path) (Ok top)
    by_look under top read e =
        let known = read_known under read in
        (ap (λ k. if_known path k (λ n. follow (known_of (m.reads new)) own (Answer (seen (own path) n)))) known.0 ∙ ap (λ n. Found n) (sym e), went_look under read)

    -- a read, and then memory is refused
    pub by_look_refused : (under : Option Node) → IsReadOf (m.reads old) (m.reads new) path under → GoesBy {A = Option Node} {X = Option Node} m (λ n. n) own old new (look path) (Err stop.NoMemory)
    by_look_refused under read = went_look under read

    -- a read at a path with an own change, which is copied unless memory is refused
    pub by_look_own : (under change : Option Node) (result : Result (Option Node) Stop) → IsReadOf (m.reads old) (m.reads new) path under → Some change ≡ own path → IfOk result (λ n. n ≡ change) → IfErr result (λ why. why ≡ stop.NoMemory)
        → GoesBy m (λ n. n) own old new (look path) result
    by_look_own under change (Ok top) read is copied refused = by_look under top read (copied ∙ ap (λ o. seen o under) is)
    by_look_own under change (Err why) read is copied refused =
        subst (λ why. GoesBy {A = Option Node} {X = Option Node} m (λ n. n) own old new (look path) (Err why)) (sym refused) (by_look_refused under read)
