-- What the calls of a zipper say.
use Rattle.fx_view.specs.ReadList.{ReadList}
use Rattle.std.specs.Prelude.{◌≡◌, ℕ, ◌+◌, ◌≤◌, Bool, true, false, cond, List, ◌∷◌, ◌++◌, length, drop, Option, Some, None, is_some, Result, Ok, Err, IfOk}
use Rattle.fx_store.specs.Rule.{Known, Ask, Answer, ◌>>=◌, Found, follow, answer, ticks, changed}
use Rattle.fx_store.specs.Whole.{Store}
use Rattle.fx_spec.specs.declared.refusal.Refusal.{Refusal}
use Rattle.fx_expr.specs.Tree.{Tree}
use Rattle.fx_spec.specs.Describe.{Bindings, value}
use Rattle.fx_spec.specs.Evals.{evals_with}
use Rattle.fx_expr.specs.Sets.{least_above, greatest_below}
use Rattle.fx_spec.specs.Move.{Answered, needed, at_place, another}
use Rattle.fx_spec.specs.Place.{First, Second, Elem, Address, PlaceTree, placed, place}
use Rattle.fx_spec.specs.SpecTree.{SpecTree}
use Rattle.fx_spec.specs.Transaction.{from_place}
use Rattle.fx_view.specs.declared.reader.Stop.{Stop}
use Rattle.fx_view.specs.declared.reader.Stop.TheVariants as stop
use Rattle.fx_view.specs.Meaning.{Meaning}
use Rattle.fx_view.specs.Own.{own_at}
use Rattle.fx_view.specs.Reads.{known_of, Agrees}
use Rattle.fx_session.specs.declared.halt.Halt.{Halt}
use Rattle.fx_session.specs.declared.halt.Halt.TheVariants as halt
use Rattle.fx_session.specs.declared.session.Session.{Session}
use Rattle.fx_session.specs.Implements.{Implements, Answers}
use Rattle.fx_session.specs.Answering.{answered}
use Rattle.fx_session.specs.Halts.{split}
use Rattle.fx_steps.specs.declared.frame.Entry.{Entry}
use Rattle.fx_steps.specs.Around.{IsSetOf}
use Rattle.fx_zip.specs.Fresh.{AreFound, Stands, IsFreshIn, StandsIn, left}
use Rattle.fx_steps.specs.Parts.{part}
use Rattle.fx_zip.specs.Entered.{LeadsFrom}
use Rattle.fx_steps.specs.Steps.{step_tree}
use Rattle.fx_zip.specs.Trees.{ZipTree, is_settled, IsSettled, here}
use Rattle.fx_steps.specs.Frames.{path_of}

-- what holds where the rules refuse a call
abbrev pub OnRefused : {X : Type 0} → Result X Halt → Type 0 → Type 0
OnRefused (Ok x) p = Unit {0}
OnRefused (Err (halt.Refused refusal)) p = p
OnRefused (Err (halt.Stopped why)) p = Unit {0}

-- the place of an address, which has to be there
abbrev pub place_needed : SpecTree → Address → Ask (Answered PlaceTree)
place_needed root a = place root a >>= λ at. Answer (needed Refusal.NoPlace at)

-- how often a zipper evaluates until it stands at its place: never where each step has its frame
abbrev pub settling_evals : ZipTree → Store → ℕ
settling_evals z S = cond (is_settled z) 0 (ticks S (place z.root z.address))

-- how often a rule evaluates at the zipper's place, where there is one
abbrev pub place_evals : {B : Type 0} → ZipTree → (PlaceTree → Ask B) → Store → ℕ
place_evals z rule S = evals_with (λ at. ticks S (rule at)) (answer S (place z.root z.address))

-- to a second part as often as the value of the first; among elements never
abbrev pub sideways_evals : ZipTree → Address → Store → ℕ
sideways_evals z (First ∷ a) S = place_evals z (λ at. value at.path at.env at.spec) S
sideways_evals z _ S = 0

-- no more evaluations than these at each filestore that agrees with the reads, besides those until the zipper stands
abbrev pub Evaluates : {R L : Type 0} → Meaning R → ZipTree → Session R L → Session R L → (Store → ℕ) → Type 0
Evaluates m z was now evals =
    (S : Store) → Agrees (m.reads now.reader.now) S → now.steps ≤ was.steps + (settling_evals z (changed (own_at was.own) S) + evals (changed (own_at was.own) S))

-- the zipper finds its place, and each step has its frame then, or there is none
pub record Finds {R L : Type 0} (m : Meaning R) (old new : ZipTree) (was now : Session R L) (result : Result (Unit {0}) Halt) : Type 0 where
  pub follows : Answers m (λ _. here new) was now (place_needed old.root old.address) result
  pub stands : IfOk result (λ _. StandsIn m now new)
  pub fresh : IfOk (split result) (λ _. IsFreshIn m now new)
  pub settled : IfOk result (λ _. IsSettled new)
  pub kept : IsSettled old → IsSettled new
  pub root : new.root ≡ old.root
  pub address : new.address ≡ old.address
  pub most : Evaluates m old was now (λ S. 0)

-- the zipper moves to the address that the rule answers, where each step has its frame, or stays where it is, with the frames
-- that it had
pub record Moves {R L : Type 0} (m : Meaning R) (old new : ZipTree) (was now : Session R L) (rule : Ask (Answered Address)) (evals : Store → ℕ) (result : Result (Unit {0}) Halt) : Type 0 where
  pub follows : Answers m (λ _. new.address) was now rule result
  pub fresh : IfOk (split result) (λ _. IsFreshIn m now new)
  pub settled : IfOk result (λ _. IsSettled new)
  pub kept : OnRefused result (IsSettled old → IsSettled new)
  pub root : new.root ≡ old.root
  pub refused : OnRefused result (new.address ≡ old.address)
  pub most : Evaluates m old was now evals

-- the rule of a move from the place, wherever it is
abbrev pub MovesBy : {R L : Type 0} → Meaning R → ZipTree → ZipTree → Session R L → Session R L → (Address → List (List ℕ) → Bindings → SpecTree → Ask (Answered Address)) → Result (Unit {0}) Halt → Type 0
MovesBy m old new was now move result =
    Moves m old new was now (from_place old.root old.address move) (place_evals old (λ at. move old.address at.path at.env at.spec)) result

-- the zipper answers what the rule answers, and stays, where each step has its frame then
pub record Asks {R L A X : Type 0} (m : Meaning R) (view : X → A) (old new : ZipTree) (was now : Session R L) (rule : Ask (Answered A)) (evals : Store → ℕ) (result : Result X Halt) : Type 0 where
  pub follows : Answers m view was now rule result
  pub fresh : IfOk (split result) (λ _. IsFreshIn m now new)
  pub settled : IfOk result (λ _. IsSettled new)
  pub kept : IsSettled old → IsSettled new
  pub root : new.root ≡ old.root
  pub address : new.address ≡ old.address
  pub most : Evaluates m old was now evals

-- the rule of a question at the place
abbrev pub AsksAtPlace : {R L A X : Type 0} → Meaning R → (X → A) → ZipTree → ZipTree → Session R L → Session R L → (PlaceTree → Ask (Answered A)) → Result X Halt → Type 0
AsksAtPlace m view old new was now rule result = Asks m view old new was now (at_place old.root old.address rule) (place_evals old rule) result

-- the zipper stands, and moves to the address that the rule answers, or stays where it is
pub record Turns {R L : Type 0} (m : Meaning R) (old new : ZipTree) (was now : Session R L) (rule : Ask (Answered Address)) (evals : Store → ℕ) (result : Result (Unit {0}) Halt) : Type 0 where
  pub follows : Answers m (λ _. new.address) was now rule result
  pub stands : IfOk (split result) (λ _. StandsIn m now new)
  pub root : new.root ≡ old.root
  pub refused : OnRefused result (new.address ≡ old.address)
  pub most : (S : Store) → Agrees (m.reads now.reader.now) S → now.steps ≤ was.steps + evals (changed (own_at was.own) S)

-- what a call says that consults nothing: what the rule answers over what is known
abbrev pub SaysFound : {A X : Type 0} → Known → Known → (X → A) → Ask A → Result X Stop → Type 0
SaysFound known own view rule (Ok x) = follow known own rule ≡ Found (view x)
SaysFound known own view rule (Err stop.NoMemory) = Unit {0}
SaysFound known own view rule (Err (stop.Needs p)) = ⊥

-- the zipper turns as `Turns` says, and consults nothing
pub record Turned (reads : ReadList) (own : Known) (old new : ZipTree) (rule : Ask (Answered Address)) (result : Result (Unit {0}) Halt) : Type 0 where
  pub says : SaysFound (known_of reads) own (answered (λ _. new.address)) rule (split result)
  pub stands : IfOk (split result) (λ _. Stands reads own new)
  pub root : new.root ≡ old.root
  pub refused : OnRefused result (new.address ≡ old.address)

-- the entry of another step in place of the last one
pub record Besides (reads : ReadList) (own : Known) (z : ZipTree) (rule : Ask (Answered Address)) (result : Result Entry Halt) : Type 0 where
  pub says : SaysFound (known_of reads) own (answered (λ e. step_tree e.step ∷ drop 1 z.address)) rule (split result)
  pub leads : IfOk result (λ e. LeadsFrom reads own (left z) e)

-- to another element of the comprehension around the place
abbrev pub beside : SpecTree → (List ℕ → List (List ℕ) → Option (List ℕ)) → Address → Ask (Answered Address)
beside root choice (Elem t ∷ a) = at_place root a λ above. another a (choice t) above.path above.env above.spec
beside root choice a = Answer (Err Refusal.NoStep)

-- `next` at the place
abbrev pub next_at : SpecTree → Address → PlaceTree → Ask (Answered Address)
next_at root (First ∷ a) at = value at.path at.env at.spec >>= λ v. Answer (cond (is_some v) (Ok (Second ∷ a)) (Err Refusal.Lacks))
next_at root a at = beside root least_above a

-- `prev` at the place
abbrev pub prev_at : SpecTree → Address → PlaceTree → Ask (Answered Address)
prev_at root (Second ∷ a) at = Answer (Ok (First ∷ a))
prev_at root a at = beside root greatest_below a

-- how often `next` evaluates at the place
abbrev pub next_evals : Address → PlaceTree → Store → ℕ
next_evals (First ∷ a) at S = ticks S (value at.path at.env at.spec)
next_evals a at S = 0

-- the first steps have their frames, which were found on from a start
pub record IsSettling {R L : Type 0} (m : Meaning R) (start now : Session R L) (z : ZipTree) : Type 0 where
  pub ahead : Address
  pub kept : Address
  pub whole : z.address ≡ ahead ++ kept
  pub found : AreFound (m.reads now.reader.now) (own_at now.own) z.root kept z.frames z.env
  pub set : IsSetOf z.set z.env (part z.root z.address)
  pub so_far : Implements {A = Option PlaceTree} {X = Option PlaceTree} m (λ at. at) start now (place z.root kept) (Ok (Some (placed (path_of z.frames) z.env (part z.root kept))))

-- one frame more, or no place at the address
abbrev pub SettlesTo : {R L : Type 0} → Meaning R → Session R L → Session R L → ZipTree → ZipTree → Result Bool Stop → Type 0
SettlesTo m start now old new (Ok true) = IsSettling m start now new
SettlesTo m start now old new (Ok false) =
    Implements {A = Option PlaceTree} {X = Option PlaceTree} m (λ at. at) start now (place old.root old.address) (Ok None) × IsFreshIn m now new
SettlesTo m start now old new (Err why) =
    Implements {A = Option PlaceTree} {X = Option PlaceTree} m (λ at. at) start now (place old.root old.address) (Err why)

pub record SettlesFrames {R L : Type 0} (m : Meaning R) (old new : ZipTree) (was now : Session R L) (result : Result Bool Stop) : Type 0 where
  pub root : new.root ≡ old.root
  pub address : new.address ≡ old.address
  pub to : (start : Session R L) → IsSettling m start was old → SettlesTo m start now old new result
  pub more : IfOk result (λ more. more ≡ true → length new.frames ≡ length old.frames + 1)

-- the value at a place, which has to be there
abbrev pub value_needed : List (List ℕ) → Bindings → SpecTree → Ask (Answered Tree)
value_needed p env spec = value p env spec >>= λ v. Answer (needed Refusal.Lacks v)
