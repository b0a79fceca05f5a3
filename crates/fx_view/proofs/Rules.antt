-- Rules followed over what is known: one after another, over more reads, and against a filestore that agrees.
use Rattle.std.proofs.Common.{◌≡◌, ℕ, cond, List, [], ◌∷◌, ◌++◌, Option, Some, None, is_some, refl, ap, ◌∙◌, sym, subst}
use Rattle.fx_store.specs.declared.node.Node.{Node}
use Rattle.fx_store.specs.Whole.{Store}
use Rattle.fx_store.specs.Rule.{Known, Ask, Answer, Look, Tick, answer, asked, ◌>>=◌, Found, Needs, seen, if_known, follow, AgreesWith, FollowedAt, AllKnown, changed, first_unknown}
use Rattle.fx_store.proofs.Asks.{followed}
use Rattle.fx_view.specs.Follows.{walked, walked_on}
use Rattle.fx_view.proofs.Growing.{Grows}

abbrev Path : Type 0
Path = List (List ℕ)

-- ---- one rule, and then the next

-- where the one rule finds its answer, the whole goes on with the next
pub follow-bind : {A B : Type 0} (known own : Known) (rule : Ask A) (f : A → Ask B) (x : A) → follow known own rule ≡ Found x → follow known own (rule >>= f) ≡ follow known own (f x)
follow-bind known own (Answer y) f x e = let same : y ≡ x = cc in ap (λ y. follow known own (f y)) same
follow-bind known own (Tick rule) f x e = follow-bind known own rule f x e
follow-bind {A} {B} known own (Look p next) f x e = step (known p) e (λ n. follow-bind known own (next (seen (own p) n)) f x)
  where
    step : (k : Option (Option Node)) → if_known p k (λ n. follow known own (next (seen (own p) n))) ≡ Found x
        → ((n : Option Node) → follow known own (next (seen (own p) n)) ≡ Found x → follow known own (next (seen (own p) n) >>= f) ≡ follow known own (f x))
        → if_known p k (λ n. follow known own (next (seen (own p) n) >>= f)) ≡ follow known own (f x)
    step None e rest = cc
    step (Some n) e rest = rest n e

-- what the one rule needs, the whole needs
pub follow-bind_needs : {A B : Type 0} (known own : Known) (rule : Ask A) (f : A → Ask B) (q : Path) → follow known own rule ≡ Needs q → follow known own (rule >>= f) ≡ Needs q
follow-bind_needs known own (Answer y) f q e = cc
follow-bind_needs known own (Tick rule) f q e = follow-bind_needs known own rule f q e
follow-bind_needs {A} {B} known own (Look p next) f q e = step (known p) e (λ n. follow-bind_needs known own (next (seen (own p) n)) f q)
  where
    step : (k : Option (Option Node)) → if_known p k (λ n. follow known own (next (seen (own p) n))) ≡ Needs q
        → ((n : Option Node) → follow known own (next (seen (own p) n)) ≡ Needs q → follow known own (next (seen (own p) n) >>= f) ≡ Needs q)
        → if_known p k (λ n. follow known own (next (seen (own p) n) >>= f)) ≡ Needs q
    step None e rest = let same : p ≡ q = cc in ap (λ p. Needs p) same
    step (Some n) e rest = rest n e

-- what the whole consults: what the one rule does, and then what the next does
pub walked-bind : {A B : Type 0} (known own : Known) (rule : Ask A) (f : A → Ask B) (x : A) → follow known own rule ≡ Found x → walked known own (rule >>= f) ≡ walked known own rule ++ walked known own (f x)
walked-bind known own (Answer y) f x e = let same : y ≡ x = cc in ap (λ y. walked known own (f y)) same
walked-bind known own (Tick rule) f x e = walked-bind known own rule f x e
walked-bind {A} {B} known own (Look p next) f x e = step (known p) e (λ n. walked-bind known own (next (seen (own p) n)) f x)
  where
    step : (k : Option (Option Node)) → if_known p k (λ n. follow known own (next (seen (own p) n))) ≡ Found x
        → ((n : Option Node) → follow known own (next (seen (own p) n)) ≡ Found x → walked known own (next (seen (own p) n) >>= f) ≡ walked known own (next (seen (own p) n)) ++ walked known own (f x))
        → walked_on p k (λ n. walked known own (next (seen (own p) n) >>= f)) ≡ walked_on p k (λ n. walked known own (next (seen (own p) n))) ++ walked known own (f x)
    step None e rest = cc
    step (Some n) e rest = ap (λ ps. p ∷ ps) (rest n e)

-- where the one rule needs a path, the whole consults no more
pub walked-bind_needs : {A B : Type 0} (known own : Known) (rule : Ask A) (f : A → Ask B) (q : Path) → follow known own rule ≡ Needs q → walked known own (rule >>= f) ≡ walked known own rule
walked-bind_needs known own (Answer y) f q e = cc
walked-bind_needs known own (Tick rule) f q e = walked-bind_needs known own rule f q e
walked-bind_needs {A} {B} known own (Look p next) f q e = step (known p) e (λ n. walked-bind_needs known own (next (seen (own p) n)) f q)
  where
    step : (k : Option (Option Node)) → if_known p k (λ n. follow known own (next (seen (own p) n))) ≡ Needs q
        → ((n : Option Node) → follow known own (next (seen (own p) n)) ≡ Needs q → walked known own (next (seen (own p) n) >>= f) ≡ walked known own (next (seen (own p) n)))
        → walked_on p k (λ n. walked known own (next (seen (own p) n) >>= f)) ≡ walked_on p k (λ n. walked known own (next (seen (own p) n)))
    step None e rest = refl
    step (Some n) e rest = ap (λ ps. p ∷ ps) (rest n e)

-- the one rule consults a front of what the whole does
pub walked-bind_front : {A B : Type 0} (known own : Known) (rule : Ask A) (f : A → Ask B) → (rest : List Path) × (walked known own (rule >>= f) ≡ walked known own rule ++ rest)
walked-bind_front known own (Answer y) f = (walked known own (f y), refl)
walked-bind_front known own (Tick rule) f = walked-bind_front known own rule f
walked-bind_front {A} {B} known own (Look p next) f = step (known p) (λ n. walked-bind_front known own (next (seen (own p) n)) f)
  where
    step : (k : Option (Option Node)) → ((n : Option Node) → (rest : List Path) × (walked known own (next (seen (own p) n) >>= f) ≡ walked known own (next (seen (own p) n)) ++ rest))
        → (rest : List Path) × (walked_on p k (λ n. walked known own (next (seen (own p) n) >>= f)) ≡ walked_on p k (λ n. walked known own (next (seen (own p) n))) ++ rest)
    step None rest = ([], refl)
    step (Some n) rest = let r = rest n in (r.0, ap (λ ps. p ∷ ps) r.1)

-- ---- over more reads

module _ {A : Type 0} (known more own : Known) (grows : Grows known more) where
  -- an answer that was found stays found
  pub found_more : (rule : Ask A) (a : A) → follow known own rule ≡ Found a → follow more own rule ≡ Found a
  found_more (Answer b) a e = e
  found_more (Tick rule) a e = found_more rule a e
  found_more (Look p next) a e = step (known p) refl e (λ n. found_more (next (seen (own p) n)) a)
    where
      step : (k : Option (Option Node)) → known p ≡ k → if_known p k (λ n. follow known own (next (seen (own p) n))) ≡ Found a
          → ((n : Option Node) → follow known own (next (seen (own p) n)) ≡ Found a → follow more own (next (seen (own p) n)) ≡ Found a)
          → if_known p (more p) (λ n. follow more own (next (seen (own p) n))) ≡ Found a
      step None at e rest = cc
      step (Some n) at e rest = ap (λ k. if_known p k (λ n. follow more own (next (seen (own p) n)))) (grows.keeps p n at) ∙ rest n e

  -- and the rule consults the same paths
  pub walked_more : (rule : Ask A) (a : A) → follow known own rule ≡ Found a → walked more own rule ≡ walked known own rule
  walked_more (Answer b) a e = refl
  walked_more (Tick rule) a e = walked_more rule a e
  walked_more (Look p next) a e = step (known p) refl e (λ n. walked_more (next (seen (own p) n)) a)
    where
      step : (k : Option (Option Node)) → known p ≡ k → if_known p k (λ n. follow known own (next (seen (own p) n))) ≡ Found a
          → ((n : Option Node) → follow known own (next (seen (own p) n)) ≡ Found a → walked more own (next (seen (own p) n)) ≡ walked known own (next (seen (own p) n)))
          → walked_on p (more p) (λ n. walked more own (next (seen (own p) n))) ≡ walked_on p k (λ n. walked known own (next (seen (own p) n)))
      step None at e rest = cc
      step (Some n) at e rest = ap (λ k. walked_on p k (λ n. walked more own (next (seen (own p) n)))) (grows.keeps p n at) ∙ ap (λ ps. p ∷ ps) (rest n e)

-- ---- over fewer reads

-- where an answer was found, and less is known, the rule needs the first path that it consulted and of which nothing is known
pub follow_less : {A : Type 0} (less known own : Known) → Grows less known → (rule : Ask A) (a : A) (q : Path) → follow known own rule ≡ Found a → first_unknown less (walked known own rule) ≡ Some q → follow less own rule ≡ Needs q
follow_less less known own grows (Answer b) a q e first = cc
follow_less less known own grows (Tick rule) a q e first = follow_less less known own grows rule a q e first
follow_less {A} less known own grows (Look p next) a q e first = step (known p) refl e first (λ n. follow_less less known own grows (next (seen (own p) n)) a q)
  where
    at : (n : Option Node) → known p ≡ Some n → (k : Option (Option Node)) → less p ≡ k → cond (is_some k) (first_unknown less (walked known own (next (seen (own p) n)))) (Some p) ≡ Some q
        → (first_unknown less (walked known own (next (seen (own p) n))) ≡ Some q → follow less own (next (seen (own p) n)) ≡ Needs q)
        → if_known p k (λ n. follow less own (next (seen (own p) n))) ≡ Needs q
    at n is None under first rest = let same : p ≡ q = cc in ap (λ p. Needs p) same
    at n is (Some m) under first rest =
        let same : m ≡ n = (let both : Some m ≡ Some n = sym (grows.keeps p m under) ∙ is in cc) in
        ap (λ m. follow less own (next (seen (own p) m))) same ∙ rest first

    step : (k : Option (Option Node)) → known p ≡ k → if_known p k (λ n. follow known own (next (seen (own p) n))) ≡ Found a → first_unknown less (walked_on p k (λ n. walked known own (next (seen (own p) n)))) ≡ Some q
        → ((n : Option Node) → follow known own (next (seen (own p) n)) ≡ Found a → first_unknown less (walked known own (next (seen (own p) n))) ≡ Some q → follow less own (next (seen (own p) n)) ≡ Needs q)
        → follow less own (Look p next) ≡ Needs q
    step None is e first rest = cc
    step (Some n) is e first rest = at n is (less p) refl first (rest n e)

-- what a rule consults over what is known is known
pub walked_known : {A : Type 0} (known own : Known) (rule : Ask A) → AllKnown known (walked known own rule)
walked_known known own (Answer a) = tt
walked_known known own (Tick rule) = walked_known known own rule
walked_known {A} known own (Look p next) = step (known p) refl (λ n. walked_known known own (next (seen (own p) n)))
  where
    step : (k : Option (Option Node)) → known p ≡ k → ((n : Option Node) → AllKnown known (walked known own (next (seen (own p) n)))) → AllKnown known (walked_on p k (λ n. walked known own (next (seen (own p) n))))
    step None at rest = tt
    step (Some n) at rest = (ap is_some at, rest n)

-- ---- at a filestore that agrees with what is known

module _ {A : Type 0} (known own : Known) (S : Store) (agrees : AgreesWith known S) where
  -- an answer that was found is the rule's answer
  pub found_answer : (rule : Ask A) (a : A) → follow known own rule ≡ Found a → answer (changed own S) rule ≡ a
  found_answer rule a e = (subst (FollowedAt known own rule S) e (followed known own rule S agrees)).0

  -- and the rule consults just what it consults there
  pub found_asked : (rule : Ask A) (a : A) → follow known own rule ≡ Found a → walked known own rule ≡ asked (changed own S) rule
  found_asked (Answer b) a e = refl
  found_asked (Tick rule) a e = found_asked rule a e
  found_asked (Look p next) a e = step (known p) refl e (λ n. found_asked (next (seen (own p) n)) a)
    where
      step : (k : Option (Option Node)) → known p ≡ k → if_known p k (λ n. follow known own (next (seen (own p) n))) ≡ Found a
          → ((n : Option Node) → follow known own (next (seen (own p) n)) ≡ Found a → walked known own (next (seen (own p) n)) ≡ asked (changed own S) (next (seen (own p) n)))
          → walked_on p k (λ n. walked known own (next (seen (own p) n))) ≡ p ∷ asked (changed own S) (next (changed own S p))
      step None at e rest = cc
      step (Some n) at e rest = ap (λ ps. p ∷ ps) (rest n e ∙ ap (λ m. asked (changed own S) (next (seen (own p) m))) (sym (agrees p n at)))

  -- where a path is needed, the rule has consulted a front of what it consults there, and that path comes next
  pub needs_asked : (rule : Ask A) (q : Path) → follow known own rule ≡ Needs q → (rest : List Path) × (asked (changed own S) rule ≡ walked known own rule ++ q ∷ rest)
  needs_asked (Answer b) q e = cc
  needs_asked (Tick rule) q e = needs_asked rule q e
  needs_asked (Look p next) q e = step (known p) refl e (λ n. needs_asked (next (seen (own p) n)) q)
    where
      step : (k : Option (Option Node)) → known p ≡ k → if_known p k (λ n. follow known own (next (seen (own p) n))) ≡ Needs q
          → ((n : Option Node) → follow known own (next (seen (own p) n)) ≡ Needs q → (rest : List Path) × (asked (changed own S) (next (seen (own p) n)) ≡ walked known own (next (seen (own p) n)) ++ q ∷ rest))
          → (rest : List Path) × (p ∷ asked (changed own S) (next (changed own S p)) ≡ walked_on p k (λ n. walked known own (next (seen (own p) n))) ++ q ∷ rest)
      step None at e rest = let same : p ≡ q = cc in (asked (changed own S) (next (changed own S p)), ap (λ p'. p' ∷ asked (changed own S) (next (changed own S p))) same)
      step (Some n) at e rest =
          let r = rest n e in
          (r.0, ap (λ ps. p ∷ ps) (ap (λ m. asked (changed own S) (next (seen (own p) m))) (agrees p n at) ∙ r.1))

  -- it is the first that the rule consults there and of which nothing is known
  pub needs_first : (rule : Ask A) (q : Path) → follow known own rule ≡ Needs q → first_unknown known (asked (changed own S) rule) ≡ Some q
  needs_first rule q e = subst (FollowedAt known own rule S) e (followed known own rule S agrees)

-- a path that is needed is not known
pub needs_unknown : {A : Type 0} (known own : Known) (rule : Ask A) (q : Path) → follow known own rule ≡ Needs q → known q ≡ None
needs_unknown known own (Answer b) q e = cc
needs_unknown known own (Tick rule) q e = needs_unknown known own rule q e
needs_unknown {A} known own (Look p next) q e = step (known p) refl e (λ n. needs_unknown known own (next (seen (own p) n)) q)
  where
    step : (k : Option (Option Node)) → known p ≡ k → if_known p k (λ n. follow known own (next (seen (own p) n))) ≡ Needs q
        → ((n : Option Node) → follow known own (next (seen (own p) n)) ≡ Needs q → known q ≡ None) → known q ≡ None
    step None at e rest = let same : p ≡ q = cc in ap known (sym same) ∙ at
    step (Some n) at e rest = rest n e
