-- What a call says that follows a rule through a reader.
use Rattle.std.specs.Prelude.{◌≡◌, ℕ, ◌+◌, ◌≤◌, false, List, [], ◌∷◌, ◌++◌, All, Contains, Option, Some, None, Result, Ok, Err, ⊤}
use Rattle.std.specs.Map.{keys_of}
use Rattle.fx_store.specs.declared.node.Node.{Node}
use Rattle.fx_store.specs.Rule.{Ask, Answer, Look, Tick, Known, Found, Needs, seen, follow, first_unknown, ticks, changed}
use Rattle.fx_store.specs.Whole.{Store}
use Rattle.fx_view.specs.declared.reader.Stop.{Stop}
use Rattle.fx_view.specs.declared.reader.Stop.TheVariants as stop
use Rattle.fx_view.specs.Meaning.{Meaning}
use Rattle.fx_view.specs.ReadList.{ReadList}
use Rattle.fx_view.specs.Reads.{known_of, Agrees}

abbrev pub walked_on : List (List ℕ) → Option (Option Node) → (Option Node → List (List (List ℕ))) → List (List (List ℕ))
walked_on p None on = []
walked_on p (Some n) on = p ∷ on n

-- the paths that a rule consults over what is known, up to its answer or to the first path of which nothing is known
abbrev pub walked : {A : Type 0} → Known → Known → Ask A → List (List (List ℕ))
walked known own (Answer a) = []
walked known own (Look p next) = walked_on p (known p) λ n. walked known own (next (seen (own p) n))
walked known own (Tick rule) = walked known own rule

-- after the old reads, each of these was in its turn of the first of the paths that was not read yet
abbrev pub InOrder : ReadList → ReadList → List (List (List ℕ)) → Type 0
InOrder old [] paths = ⊤
InOrder old (read ∷ more) paths = (first_unknown (known_of old) paths ≡ Some read.0) × InOrder (old ++ read ∷ []) more paths

-- the reader has gone on: it has its earlier reads, what it has read besides is among these paths, in their order, it is as
-- complete as before, and it still vouches
pub record Went {R : Type 0} (m : Meaning R) (old new : R) (paths : List (List (List ℕ))) : Type 0 where
  pub more : ReadList
  pub kept : m.reads new ≡ m.reads old ++ more
  pub only : All (Contains paths) (keys_of more)
  pub order : InOrder (m.reads old) more paths
  pub same : m.complete new ≡ m.complete old
  pub vouched : (start : R) → m.vouches start old (m.reads old) → m.vouches start new (m.reads new)

-- the call answers what the rule gives over the reads, with the own changes on top, and has read just what the rule consults;
-- a path that is needed is the first that the rule consults and that is not read
abbrev pub GoesBy : {R A X : Type 0} → Meaning R → (X → A) → Known → R → R → Ask A → Result X Stop → Type 0
GoesBy m view own old new rule (Ok x) =
    (follow (known_of (m.reads new)) own rule ≡ Found (view x)) × Went m old new (walked (known_of (m.reads new)) own rule)
GoesBy m view own old new rule (Err (stop.Needs p)) =
    (follow (known_of (m.reads new)) own rule ≡ Needs p) × (m.complete old ≡ false) × Went m old new (walked (known_of (m.reads new)) own rule)
GoesBy m view own old new rule (Err stop.NoMemory) =
    Went m old new (walked (known_of (m.reads new)) own rule)

-- the call goes by the rule, and evaluates at most as often as the rule does at each filestore that agrees with the reads. It
-- goes from a reader and a number of evaluations to a reader and a number.
pub record Follows {R A X : Type 0} (m : Meaning R) (view : X → A) (own : Known) (old new : R × ℕ) (rule : Ask A) (result : Result X Stop) : Type 0 where
  pub goes : GoesBy m view own old.0 new.0 rule result
  pub most : (S : Store) → Agrees (m.reads new.0) S → new.1 ≤ old.1 + ticks (changed own S) rule

-- the call follows the rule and evaluates nothing, at whatever number
abbrev pub Consults : {R A X : Type 0} → Meaning R → (X → A) → Known → R → R → Ask A → Result X Stop → Type 0
Consults m view own old new rule result = (n : ℕ) → Follows m view own (old, n) (new, n) rule result
