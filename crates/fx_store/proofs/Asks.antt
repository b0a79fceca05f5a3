-- What a rule answers and consults depends on what it consulted alone; following it over what is known finds just that.
use Rattle.std.proofs.Common.{◌≡◌, ℕ, ◌+◌, refl, sym, ap, zero-add, arith, List, ◌∷◌, Option, Some, None, [], IsSome, All}
use Rattle.std.proofs.lemmas.List.Elements.{All-nil, All-cons}
use mathlib.Core.Path.{fun_ext}
use Rattle.fx_store.specs.declared.node.Node.{Node}
use Rattle.fx_store.specs.Whole.{Store}
use Rattle.fx_store.specs.Rule.{Known, Ask, Answer, Look, Tick, answer, ticks, ◌>>=◌, Outcome, Found, Needs, seen, if_known, follow, DependsOnAsked, AgreesWith, FollowedAt, AllKnown}

pub depends : {A : Type 0} (rule : Ask A) → DependsOnAsked rule
depends (Answer a) S T h = (refl, refl)
depends (Look p next) S T h =
    let rest = depends (next (S p)) S T h.1 in
    rw (← h.0) (rest.0, ap (λ ps. p ∷ ps) rest.1)
depends (Tick rule) S T h = depends rule S T h

pub answer-bind : {A B : Type 0} (S : Store) (a : Ask A) (f : A → Ask B) → answer S (a >>= f) ≡ answer S (f (answer S a))
answer-bind S (Answer a) f = refl
answer-bind S (Look p next) f = answer-bind S (next (S p)) f
answer-bind S (Tick rule) f = answer-bind S rule f

-- the one rule's evaluations, and then those of the next
pub ticks-bind : {A B : Type 0} (S : Store) (rule : Ask A) (f : A → Ask B) → ticks S (rule >>= f) ≡ ticks S rule + ticks S (f (answer S rule))
ticks-bind S (Answer a) f = sym (zero-add (ticks S (f a)))
ticks-bind S (Look p next) f = ticks-bind S (next (S p)) f
ticks-bind S (Tick rule) f = let rest = ticks-bind S rule f in omega (arith, rest)

followed_on : {A : Type 0} (known own : Known) (p : List (List ℕ)) (next : Option Node → Ask A) (S : Store) (n : Option Node) → known p ≡ Some n → S p ≡ n → (o : Outcome A) → FollowedAt known own (next (seen (own p) n)) S o → FollowedAt known own (Look p next) S o
followed_on known own p next S n e same (Found a) h = rw (same, e) (h.0, (refl, h.1))
followed_on known own p next S n e same (Needs q) h = rw (same, e) h

followed_tick : {A : Type 0} (known own : Known) (rule : Ask A) (S : Store) (o : Outcome A) → FollowedAt known own rule S o → FollowedAt known own (Tick rule) S o
followed_tick known own rule S (Found a) h = h
followed_tick known own rule S (Needs q) h = h

pub followed : {A : Type 0} (known own : Known) (rule : Ask A) (S : Store) → AgreesWith known S → FollowedAt known own rule S (follow known own rule)
followed known own (Answer a) S h = (refl, tt)
followed known own (Tick rule) S h = followed_tick known own rule S (follow known own rule) (followed known own rule S h)
followed {A} known own (Look p next) S h = at (known p) refl (λ n. followed known own (next (seen (own p) n)) S h)
  where
    at : (k : Option (Option Node)) → known p ≡ k → ((n : Option Node) → FollowedAt known own (next (seen (own p) n)) S (follow known own (next (seen (own p) n)))) → FollowedAt known own (Look p next) S (if_known p k (λ n. follow known own (next (seen (own p) n))))
    at None e rest = rw e refl
    at (Some n) e rest = followed_on known own p next S n e (h p n e) _ (rest n)

-- the one rule, the next and a third, grouped in either way
pub ask-bind-assoc : {A B C : Type 0} (rule : Ask A) (f : A → Ask B) (g : B → Ask C) → ((rule >>= f) >>= g) ≡ (rule >>= λ a. f a >>= g)
ask-bind-assoc (Answer a) f g = refl
ask-bind-assoc (Tick rule) f g = ap Tick (ask-bind-assoc rule f g)
ask-bind-assoc {A} {B} {C} (Look p next) f g = ap (λ (h : Option Node → Ask C). Look p h) (fun_ext (λ n. ask-bind-assoc (next n) f g))

-- paths that are all known, one by one
pub all_known : (known : Known) (ps : List (List (List ℕ))) → AllKnown known ps → All (λ p. IsSome (known p)) ps
all_known known [] h = All-nil (λ p. IsSome (known p))
all_known known (p ∷ ps) h = All-cons (λ p. IsSome (known p)) p ps h.0 (all_known known ps h.1)
