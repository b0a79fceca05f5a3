-- Calls of a zipper one after another, and how often they evaluate together.
use Rattle.std.specs.Prelude.{◌≡◌, ℕ, ◌+◌, ◌≤◌, false, List, [], ◌∷◌, Ok, Err, codes}
use Rattle.fx_store.specs.declared.node.Node.TheVariants.{File, Dir}
use Rattle.fx_store.specs.Examples.{store_of}
use Rattle.fx_store.specs.Rule.{Ask, answer, ticks, changed}
use Rattle.fx_store.specs.Whole.{Store}
use Rattle.fx_expr.specs.ExprTree.{ExprTree}
use Rattle.fx_expr.specs.ShapeTree.{ShapeTree}
use Rattle.fx_expr.specs.Views.{tree_of}
use Rattle.fx_expr.specs.declared.value.Value.{Value}
use Rattle.fx_spec.specs.Describe.{value}
use Rattle.fx_spec.specs.Evals.{evals_with}
use Rattle.fx_spec.specs.Move.{Answered, at_place, go_into, go_to, go_next, go_down, go_out, go_up, fetch_at}
use Rattle.fx_spec.specs.Place.{First, Second, Elem, Address, PlaceTree, place}
use Rattle.fx_spec.specs.Place as steps
use Rattle.fx_spec.specs.SpecTree.{SpecTree}
use Rattle.fx_spec.specs.Transaction.{from_place}
use Rattle.fx_view.specs.Meaning.{Meaning}
use Rattle.fx_view.specs.Own.{own_at}
use Rattle.fx_view.specs.Reads.{Agrees}
use Rattle.fx_session.specs.declared.session.Session.{Session}
use Rattle.fx_zip.specs.Calls.{Moves, MovesBy, AsksAtPlace, sideways_evals}
use Rattle.fx_zip.specs.Trees.{ZipTree, IsSettled}

pub data Call : Type 0 where
  Into Next Down Out Up : Call
  To : List ℕ → Call
  Fetch : ShapeTree → Call

-- the address after a call that asks
abbrev pub still : {A : Type 0} → Address → Answered A → Answered Address
still a (Ok v) = Ok a
still a (Err f) = Err f

-- the address to which a call leads at a filestore
abbrev pub leads_to : SpecTree → Store → Address → Call → Answered Address
leads_to root S a Into = answer S (from_place root a go_into)
leads_to root S a (To t) = answer S (from_place root a (go_to t))
leads_to root S a Next = answer S (go_next root a)
leads_to root S a Down = answer S (from_place root a go_down)
leads_to root S a Out = go_out a
leads_to root S a Up = go_up a
leads_to root S a (Fetch shape) = still a (answer S (at_place root a (fetch_at shape)))

-- how often a rule evaluates at the place of an address, where there is one
abbrev pub evals_at : {B : Type 0} → SpecTree → Address → (PlaceTree → Ask B) → Store → ℕ
evals_at root a rule S = evals_with (λ at. ticks S (rule at)) (answer S (place root a))

-- how often a call evaluates, the steps before it left out
abbrev pub call_evals : SpecTree → Store → Address → Call → ℕ
call_evals root S a Into = evals_at root a (λ at. go_into a at.path at.env at.spec) S
call_evals root S a (To t) = evals_at root a (λ at. go_to t a at.path at.env at.spec) S
call_evals root S (First ∷ a) Next = evals_at root (First ∷ a) (λ at. value at.path at.env at.spec) S
call_evals root S a Next = 0
call_evals root S a Down = evals_at root a (λ at. go_down a at.path at.env at.spec) S
call_evals root S a Out = 0
call_evals root S a Up = 0
call_evals root S a (Fetch shape) = evals_at root a (fetch_at shape) S

abbrev pub where_accepted : {A : Type 0} → (A → ℕ) → Answered A → ℕ
where_accepted f (Ok a) = f a
where_accepted f (Err g) = 0

-- the calls together, each from where the one before led
abbrev pub calls_eval : SpecTree → Store → Address → List Call → ℕ
calls_eval root S a [] = 0
calls_eval root S a (c ∷ cs) = call_evals root S a c + where_accepted (λ b. calls_eval root S b cs) (leads_to root S a c)

-- ---- what the clauses say of them

-- a call that is accepted and reads nothing
pub record IsUnreadMove {R L : Type 0} (old new : ZipTree) (was now : Session R L) (told : Answered Address) : Type 0 where
  pub same : now ≡ was
  pub root : new.root ≡ old.root
  pub address : told ≡ Ok new.address
  pub settled : IsSettled old → IsSettled new

-- one that is accepted
abbrev pub Accepts : {R L : Type 0} → Meaning R → ZipTree → ZipTree → Session R L → Session R L → Call → Type 0
Accepts m old new was now Into = MovesBy m old new was now go_into (Ok tt)
Accepts m old new was now (To t) = MovesBy m old new was now (go_to t) (Ok tt)
Accepts m old new was now Next = Moves m old new was now (go_next old.root old.address) (sideways_evals old old.address) (Ok tt)
Accepts m old new was now Down = MovesBy m old new was now go_down (Ok tt)
Accepts m old new was now Out = IsUnreadMove old new was now (go_out old.address)
Accepts m old new was now Up = IsUnreadMove old new was now (go_up old.address)
Accepts m old new was now (Fetch shape) = (v : Value) × AsksAtPlace m tree_of old new was now (fetch_at shape) (Ok v)

-- one after another
abbrev pub Accept : {R L : Type 0} → Meaning R → List Call → ZipTree → ZipTree → Session R L → Session R L → Type 0
Accept m [] old new was now = (new ≡ old) × (now ≡ was)
Accept {R} {L} m (c ∷ cs) old new was now = (mid : ZipTree) × (then : Session R L) × Accepts m old mid was then c × Accept m cs mid new then now

-- accepted calls from a settled zipper evaluate no more often than each by itself; nothing is evaluated to find places again
abbrev pub CallsEvaluate : {R : Type 0} → Type 0 → Meaning R → Type 0
CallsEvaluate {R} L m =
    (cs : List Call) (old new : ZipTree) (was now : Session R L) → IsSettled old → Accept m cs old new was now
    → (S : Store) → Agrees (m.reads now.reader.now) S → (now.steps ≤ was.steps + calls_eval old.root (changed (own_at was.own) S) old.address cs) × IsSettled new

-- ---- a worked walk

-- the names of a directory, and the files of those that end in `.txt`
abbrev pub texts_description : SpecTree
texts_description = SpecTree.pair (codes "d") SpecTree.dir (SpecTree.comp (SpecTree.focus (ExprTree.var (codes "n")) SpecTree.file) (codes "n") (ExprTree.only (ExprTree.var (codes "d")) (codes "*.txt")))

abbrev pub a_txt : List ℕ
a_txt = codes "a.txt"

abbrev pub b_txt : List ℕ
b_txt = codes "b.txt"

abbrev pub worked_folder : Store
worked_folder = store_of (([], Dir (a_txt ∷ b_txt ∷ codes "c" ∷ [])) ∷ (a_txt ∷ [], File (codes "A") false) ∷ (b_txt ∷ [], File (codes "B") false) ∷ (codes "c" ∷ [], File (codes "C") false) ∷ [])

abbrev pub there_and_back : List Call
there_and_back = Into ∷ Next ∷ Fetch ShapeTree.names ∷ To a_txt ∷ Down ∷ Fetch ShapeTree.str ∷ Up ∷ Out ∷ To b_txt ∷ Down ∷ []

abbrev pub goes_on : {A B : Type 0} → (A → Answered B) → Answered A → Answered B
goes_on f (Ok a) = f a
goes_on f (Err g) = Err g

-- the addresses to which calls lead, until one is refused
abbrev pub ends_at : SpecTree → Store → Address → List Call → Answered Address
ends_at root S a [] = Ok a
ends_at root S a (c ∷ cs) = goes_on (λ b. ends_at root S b cs) (leads_to root S a c)

-- its ten calls are accepted, and evaluate five times together
pub record WalksInFive : Type 0 where
  pub ends : ends_at texts_description worked_folder [] there_and_back ≡ Ok (steps.Down ∷ Elem b_txt ∷ Second ∷ [])
  pub five : calls_eval texts_description worked_folder [] there_and_back ≡ 5
