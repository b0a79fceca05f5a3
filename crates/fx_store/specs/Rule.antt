-- Rules that consult a filestore. A rule is a tree of looks: it ends in an answer, names a path and goes on with the node that
-- is there, or with none, or evaluates an expression. What a rule answers, which paths it consults and how often it evaluates
-- are all read off this one tree.
use Rattle.std.specs.Prelude.{◌≡◌, ℕ, ◌+◌, cond, List, [], ◌∷◌, Option, Some, None, IsSome, is_some}
use Rattle.fx_store.specs.declared.node.Node.{Node}
use Rattle.fx_store.specs.Whole.{Store}

pub data Ask (A : Type 0) : Type 0 where
  Answer : A → Ask A
  Look : List (List ℕ) → (Option Node → Ask A) → Ask A
  Tick : Ask A → Ask A

-- what the rule answers at a filestore
abbrev pub answer : {A : Type 0} → Store → Ask A → A
answer S (Answer a) = a
answer S (Look p next) = answer S (next (S p))
answer S (Tick rule) = answer S rule

-- the paths that the rule consults at a filestore, in order
abbrev pub asked : {A : Type 0} → Store → Ask A → List (List (List ℕ))
asked S (Answer a) = []
asked S (Look p next) = p ∷ asked S (next (S p))
asked S (Tick rule) = asked S rule

-- how often the rule evaluates an expression at a filestore
abbrev pub ticks : {A : Type 0} → Store → Ask A → ℕ
ticks S (Answer a) = 0
ticks S (Look p next) = ticks S (next (S p))
ticks S (Tick rule) = 1 + ticks S rule

-- the one rule, and then the one that goes on with its answer
infixl 40 ◌>>=◌
abbrev pub ◌>>=◌ : {A B : Type 0} → Ask A → (A → Ask B) → Ask B
Answer a >>= f = f a
Look p next >>= f = Look p (λ n. next n >>= f)
Tick rule >>= f = Tick (rule >>= f)

-- the look at one path
abbrev pub look : List (List ℕ) → Ask (Option Node)
look p = Look p (λ n. Answer n)

-- looks at each of the paths, in order, whatever is there
abbrev pub look_all : {A : Type 0} → List (List (List ℕ)) → Ask A → Ask A
look_all [] rule = rule
look_all (p ∷ ps) rule = Look p (λ n. look_all ps rule)

-- what is known of some paths: nothing, or the node there, or that there is none
abbrev pub Known : Type 0
Known = List (List ℕ) → Option (Option Node)

-- a rule followed over what is known: it is answered, or it needs a path of which nothing is known
pub data Outcome (A : Type 0) : Type 0 where
  Found : A → Outcome A
  Needs : List (List ℕ) → Outcome A

-- the node that a rule goes on with at a known path: the own change there, or else the one known
abbrev pub seen : Option (Option Node) → Option Node → Option Node
seen None n = n
seen (Some own) n = own

-- at a path of which nothing is known the rule needs it; else it goes on
abbrev pub if_known : {A : Type 0} → List (List ℕ) → Option (Option Node) → (Option Node → Outcome A) → Outcome A
if_known p None on = Needs p
if_known p (Some n) on = on n

-- the rule followed over what is known, with the own changes on top
abbrev pub follow : {A : Type 0} → Known → Known → Ask A → Outcome A
follow known own (Answer a) = Found a
follow known own (Look p next) = if_known p (known p) λ n. follow known own (next (seen (own p) n))
follow known own (Tick rule) = follow known own rule

-- two filestores have the same at each of the paths
abbrev pub SameOn : List (List (List ℕ)) → Store → Store → Type 0
SameOn [] S T = Unit {0}
SameOn (p ∷ ps) S T = (S p ≡ T p) × SameOn ps S T

-- what a rule answers, and what it consults, depends on nothing but what is at the paths that it consulted
abbrev pub DependsOnAsked : {A : Type 0} → Ask A → Type 0
DependsOnAsked rule =
    (S T : Store) → SameOn (asked S rule) S T → (answer T rule ≡ answer S rule) × (asked T rule ≡ asked S rule)

-- a filestore agrees with what is known: it has the known nodes at the known paths
abbrev pub AgreesWith : Known → Store → Type 0
AgreesWith known S = (p : List (List ℕ)) (n : Option Node) → known p ≡ Some n → S p ≡ n

-- the filestore with the own changes on top
abbrev pub changed : Known → Store → Store
changed own S p = seen (own p) (S p)

-- each of the paths is known
abbrev pub AllKnown : Known → List (List (List ℕ)) → Type 0
AllKnown known [] = Unit {0}
AllKnown known (p ∷ ps) = IsSome (known p) × AllKnown known ps

-- the first of the paths of which nothing is known
abbrev pub first_unknown : Known → List (List (List ℕ)) → Option (List (List ℕ))
first_unknown known [] = None
first_unknown known (p ∷ ps) = cond (is_some (known p)) (first_unknown known ps) (Some p)

-- what following a rule over what is known means at a filestore that agrees with it: an answer is the rule's, and all that
-- it consults is known; a path that is needed is the first that the rule consults there and of which nothing is known
abbrev pub FollowedAt : {A : Type 0} → Known → Known → Ask A → Store → Outcome A → Type 0
FollowedAt known own rule S (Found a) = (answer (changed own S) rule ≡ a) × AllKnown known (asked (changed own S) rule)
FollowedAt known own rule S (Needs p) = first_unknown known (asked (changed own S) rule) ≡ Some p
