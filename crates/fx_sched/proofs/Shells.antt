-- A shell and its plan: what a look, a plan, a settle and a refusal leave of them.
use Rattle.std.proofs.Common.{◌≡◌, ℕ, zero, suc, ◌+◌, ◌-◌, ◌<◌, ◌≤◌, Bool, true, false, cond, List, [], ◌∷◌, ◌++◌, length, take, drop, slice_get, Option, Some, None, is_some, IsSome, Result, refl, sym, ap, subst, ◌∙◌, ◌⊎◌, inl, inr, arith, add-one, length-append}
use Rattle.std.specs.Prelude.{IfSome, IfOk}
use Rattle.std.proofs.lemmas.Result.{IfOk-weaker}
use Rattle.fx_base.specs.declared.NoMemory.{NoMemory}
use Rattle.std.specs.FinMap.{get}
use Rattle.std.specs.List.{Contains, IsDistinct}
use Rattle.std.specs.Option.{option_map}
use Rattle.std.proofs.lemmas.Option.{none-some, same_Some, slice_get_within}
use Rattle.fx_store.specs.declared.node.Node.{Node}
use Rattle.fx_store.specs.Names.{IsPath}
use Rattle.fx_store.specs.Rule.{Known, first_unknown}
use Rattle.fx_store.specs.Whole.{Nodes}
use Rattle.fx_spec.specs.Plans.{Turn}
use Rattle.fx_spec.specs.Order.{BaseTree, Changes, numbers_of}
use Rattle.fx_spec.specs.Transaction.{way}
use Rattle.fx_spec.proofs.Orders.{state-front, numbers_own}
use Rattle.fx_view.specs.ReadList.{ReadList}
use Rattle.fx_view.specs.Reads.{read_at, known_of, IsRead, IsReads, Agrees, placed, nodes_in}
use Rattle.fx_view.proofs.Growing.{agrees_before, read_known}
use Rattle.fx_view.proofs.Lookups.{placed_once}
use Rattle.fx_view.proofs.Lists.{read_more_cases}
use Rattle.fx_machine.specs.declared.attempt.Attempt.{Attempt}
use Rattle.fx_machine.specs.Explained.{IsExplained, RunsAs}
use Rattle.fx_machine.specs.declared.retry.Retry.{Retry}
use Rattle.fx_machine.specs.declared.event.Event.{Event}
use Rattle.fx_machine.specs.declared.event.Event.TheVariants as event
use Rattle.fx_machine.specs.Machine.{next_number}
use Rattle.fx_machine.specs.Passes.{AreTrueReads}
use Rattle.fx_machine.specs.Needs.{ReadsFit, IsNeeded, IsNext, Foretells, AllRead}
use Rattle.fx_run.proofs.Foretelling.{known_as}
use Rattle.fx_board.specs.Board.{last_state, state_at, settled, NeverChanged, IsLastChange, IsFreshReads, IsNamed}
use Rattle.fx_board.specs.Log.{Log}
use Rattle.fx_board.proofs.Settling.{stands_now}
use Rattle.fx_diaries.proofs.Looks.{all_read, once_more, true_more}
use Rattle.fx_sched.specs.declared.shell.Plan.{Plan}
use Rattle.fx_sched.specs.declared.shell.Shell.{Shell}
use Rattle.fx_board.specs.Present.{AreCurrent, IsNowIn}
use Rattle.fx_sched.specs.Shells.{looked_in, attempt_of, IsShellPlan, IsShell, HasReadyPlan, HasLooksOf}
use Rattle.fx_sched.specs.Moves.{HasLooked, HasJoined, HasRestarted, Moved, retry_of}

abbrev Path : Type 0
Path = List (List ℕ)

abbrev Read : Type 0
Read = Option Node × ℕ

abbrev Row : Type 0
Row = Path × Read

-- ---- an attempt at other positions

known_some : (o : Option Read) → IsSome o → IsSome (option_map (λ (r : Read). r.0) o)
known_some None is = is
known_some (Some r) is = refl

read_as : (reads other : ReadList) (path : Path) → known_of reads ≡ known_of other → IsRead other path → IsRead reads path
read_as reads other path same is = read_known reads path (subst (λ (known : Known). IsSome (known path)) (sym same) (known_some (read_at other path) is))

pub explained_as : (base : BaseTree) (a : Attempt) (reads : ReadList) → known_of reads ≡ known_of a.reads → IsExplained base a → IsExplained base (record a { reads = reads })
explained_as base a reads same is = record {
  txn = is.txn;
  planned = is.planned;
  changed = λ path node at. let new = is.changed path node at in (new.0, ap (λ (known : Known). known path) same ∙ new.1, new.2);
  runs = λ nodes whole agrees.
      let runs : RunsAs base.description is.txn a nodes = is.runs nodes whole (λ path node e. agrees path node (ap (λ (known : Known). known path) same ∙ e)) in
      record {
        outputs = runs.outputs;
        end = runs.end;
        left = runs.left;
        foot = λ path. (λ read. (runs.foot path).0 (read_as a.reads reads path (sym same) read), λ on. read_as reads a.reads path same ((runs.foot path).1 on));
      };
}

-- ---- reads, and one of them at another position

pub nodes_placed : (reads : ReadList) (i position : ℕ) → nodes_in (placed i position reads) ≡ nodes_in reads
nodes_placed [] i position = refl
nodes_placed (r ∷ reads) zero position = refl
nodes_placed (r ∷ reads) (suc i) position = ap (λ xs. (r.0, r.1.0) ∷ xs) (nodes_placed reads i position)

length_placed : (reads : ReadList) (i position : ℕ) → length (placed i position reads) ≡ length reads
length_placed [] i position = refl
length_placed (r ∷ reads) zero position = refl
length_placed (r ∷ reads) (suc i) position = ap suc (length_placed reads i position)

take_placed : (reads : ReadList) (i position : ℕ) (r : Row) → slice_get reads i ≡ Some r → take (suc i) (placed i position reads) ≡ take i reads ++ (r.0, (r.1.0, position)) ∷ []
take_placed [] i position r is = absurd (none-some r is)
take_placed (x ∷ reads) zero position r is = ap (λ (r : Row). (r.0, (r.1.0, position)) ∷ []) (same_Some x r is)
take_placed (x ∷ reads) (suc i) position r is = ap (λ rs. x ∷ rs) (take_placed reads i position r is)

later_placed : (reads : ReadList) (i j position : ℕ) → i < j → slice_get (placed i position reads) j ≡ slice_get reads j
later_placed [] i j position h = refl
later_placed (x ∷ reads) i zero position h = absurd (omega arith)
later_placed (x ∷ reads) zero (suc j) position h = refl
later_placed (x ∷ reads) (suc i) (suc j) position h = later_placed reads i j position (omega arith)

nodes_split : (reads : ReadList) (i : ℕ) (r : Row) → slice_get reads i ≡ Some r → nodes_in reads ≡ nodes_in (take i reads) ++ (r.0, r.1.0) ∷ nodes_in (drop (suc i) reads)
nodes_split [] i r is = absurd (none-some r is)
nodes_split (x ∷ reads) zero r is = ap (λ (r : Row). (r.0, r.1.0) ∷ nodes_in reads) (same_Some x r is)
nodes_split (x ∷ reads) (suc i) r is = ap (λ xs. (x.0, x.1.0) ∷ xs) (nodes_split reads i r is)

length_take : (reads : ReadList) (i : ℕ) → i ≤ length reads → length (take i reads) ≡ i
length_take reads zero h = refl
length_take [] (suc i) h = absurd (omega arith)
length_take (r ∷ reads) (suc i) h = ap suc (length_take reads i (omega arith))

take_front : (xs ys : ReadList) (n : ℕ) → length xs ≡ n → take n (xs ++ ys) ≡ xs
take_front [] ys zero h = refl
take_front [] ys (suc n) h = absurd (omega (arith, h))
take_front (x ∷ xs) ys zero h = absurd (omega (arith, h))
take_front (x ∷ xs) ys (suc n) h = ap (λ rs. x ∷ rs) (take_front xs ys n (omega (arith, h)))

-- ---- one look more fits

first_contains : (known : Known) (paths : List Path) (p : Path) → first_unknown known paths ≡ Some p → Contains paths p
first_contains known [] p e = absurd (none-some p e)
first_contains known (q ∷ paths) p e = at (is_some (known q)) e (first_contains known paths p)
  where
    at : (b : Bool) → cond b (first_unknown known paths) (Some q) ≡ Some p → (first_unknown known paths ≡ Some p → Contains paths p) → Contains (q ∷ paths) p
    at true e rest = let r = rest e in (suc r.0, omega (arith, r.1), r.2)
    at false e rest = (0, omega arith, same_Some q p e)

pub fits_more : (base : BaseTree) (turn : Turn) (reads : ReadList) (path : Path) (read : Read) → ReadsFit base turn reads → IsNeeded base turn reads path → ReadsFit base turn (reads ++ (path, read) ∷ [])
fits_more base turn reads path read fit needed t planned nodes whole agrees p is = at (read_at (reads ++ (path, read) ∷ []) p) refl is
  where
    before : Agrees reads (get nodes)
    before = agrees_before reads ((path, read) ∷ []) (get nodes) agrees

    by : (r : Read) → (read_at reads p ≡ Some r) ⊎ ((p ≡ path) × (read ≡ r)) → Contains (way base.description t (get nodes)) p
    by r (inl old) = fit t planned nodes whole before p (subst (λ o. IsSome o) (sym old) refl)
    by r (inr new) = subst (Contains (way base.description t (get nodes))) (sym new.0) (first_contains (known_of reads) (way base.description t (get nodes)) path (needed t planned nodes whole before))

    at : (o : Option Read) → read_at (reads ++ (path, read) ∷ []) p ≡ o → IsSome o → Contains (way base.description t (get nodes)) p
    at None e is = absurd (cc)
    at (Some r) e is = by r (read_more_cases reads path read p r e)

-- ---- the shell

abbrev pub shell_of : ℕ → ℕ → ReadList → Option Plan → List Retry → Shell
shell_of next looked reads plan retries =
    record { next = next; looked = looked; reads = reads; plan = plan; retries = retries }

plan_in : (log : Log) (number : ℕ) (s : Shell) (o : Option Plan) (p : Plan) → o ≡ Some p → IfSome o (IsShellPlan log number s) → IsShellPlan log number s p
plan_in log number s None p e is = absurd (none-some p e)
plan_in log number s (Some q) p e is = subst (IsShellPlan log number s) (same_Some q p e) is

-- what the plan reads next comes next
pub next_by_plan : (log : Log) (number : ℕ) (s : Shell) (p : Plan) (r : Row) → IsShell log number s → IsShellPlan log number s p → slice_get s.reads s.looked ≡ Some r → IsNext log.base (number, s.next) (looked_in s) r.0
next_by_plan log number s p r is plan at =
    plan.foretold (looked_in s) r.0 r.1.0 (nodes_in (drop (suc s.looked) s.reads)) (omega arith) (nodes_split s.reads s.looked r at)

-- the shell after it has looked at it
abbrev pub looked_on : Shell → ℕ → Shell
looked_on s position = record s { looked = s.looked + 1; reads = placed s.looked position s.reads }

looks_on : (s : Shell) (r : Row) (position : ℕ) (node : Option Node) → slice_get s.reads s.looked ≡ Some r → r.1.0 ≡ node → looked_in (looked_on s position) ≡ looked_in s ++ (r.0, (node, position)) ∷ []
looks_on s r position stood at now = ap (λ n. take n (placed s.looked position s.reads)) (add-one s.looked) ∙ (take_placed s.reads s.looked position r at ∙ ap (λ stood. looked_in s ++ (r.0, (stood, position)) ∷ []) now)

plan_on : (log : Log) (number : ℕ) (s : Shell) (p : Plan) (r : Row) (position : ℕ) → IsShell log number s → IsShellPlan log number s p → slice_get s.reads s.looked ≡ Some r → IsShellPlan log number (looked_on s position) p
plan_on log number s p r position is plan at = record {
  once = placed_once s.reads s.looked position plan.once;
  explained = explained_as log.base (attempt_of number s p) (placed s.looked position s.reads) (known_as (placed s.looked position s.reads) s.reads (nodes_placed s.reads s.looked position)) plan.explained;
  foretold = λ front path node rest past e.
      let longer : length (looked_in s) ≤ length front = omega (arith, past, length_take s.reads s.looked is.within, length_take (placed s.looked position s.reads) (s.looked + 1) (omega (arith, length_placed s.reads s.looked position, slice_get_within s.reads s.looked r at))) in
      plan.foretold front path node rest longer (sym (nodes_placed s.reads s.looked position) ∙ e);
  made = plan.made;
  stood = λ i x from is_at. plan.stood i x (omega (arith, from)) (sym (later_placed s.reads s.looked i position (omega (arith, from))) ∙ is_at);
}

pub looked_shell : (log : Log) (number : ℕ) (s : Shell) (r : Row) → IsShell log number s → HasReadyPlan log s → slice_get s.reads s.looked ≡ Some r → IsShell log number (looked_on s (length log.order))
looked_shell log number s r is ready at =
    let plan : IsShellPlan log number s ready.plan = plan_in log number s s.plan ready.plan ready.there is.plan in
    let next = next_by_plan log number s ready.plan r is plan at in
    let now = looks_on s r (length log.order) (get (last_state log) r.0) at (ready.now r at) in
    record {
      next = is.next;
      within = omega (arith, slice_get_within s.reads s.looked r at, length_placed s.reads s.looked (length log.order));
      once = subst IsReads (sym now) (once_more (looked_in s) r.0 (get (last_state log) r.0, length log.order) is.once next.unread);
      true_reads = subst (AreTrueReads log.base log.order) (sym now) (true_more log.base log.order (looked_in s) r.0 is.true_reads);
      fit = subst (ReadsFit log.base (number, s.next)) (sym now) (fits_more log.base (number, s.next) (looked_in s) r.0 (get (last_state log) r.0, length log.order) is.fit next.needed);
      plan = subst (λ o. IfSome o (IsShellPlan log number (looked_on s (length log.order)))) (sym ready.there) (plan_on log number s ready.plan r (length log.order) is plan at);
    }

pub has_looked : (log : Log) (number : ℕ) (s : Shell) (r : Row) (path : Path) (position : ℕ) → IsShell log number s → HasReadyPlan log s → slice_get s.reads s.looked ≡ Some r → path ≡ r.0 → position ≡ length log.order → IsPath path → HasLooked log log number s path position (looked_on s position)
has_looked log number s r path position is ready at p e valid =
    let plan : IsShellPlan log number s ready.plan = plan_in log number s s.plan ready.plan ready.there is.plan in
    record {
      log = refl;
      valid = valid;
      next = subst (IsNext log.base (number, s.next) (looked_in s)) (sym p) (next_by_plan log number s ready.plan r is plan at);
      now = e;
      txn = refl;
      looked = looks_on s r position (get (last_state log) r.0) at (ready.now r at) ∙ ap (λ p. looked_in s ++ (p, (get (last_state log) p, position)) ∷ []) (sym p);
      retries = refl;
    }

-- a shell without a plan, that has these looks
pub unplanned : (log : Log) (number : ℕ) (s : Shell) (reads : ReadList) (retries : List Retry) → IsShell log number s → s.looked ≤ length reads → take s.looked reads ≡ looked_in s → IsShell log number (shell_of s.next s.looked reads None retries)
unplanned log number s reads retries is within same = record {
  next = is.next;
  within = within;
  once = subst IsReads (sym same) is.once;
  true_reads = subst (AreTrueReads log.base log.order) (sym same) is.true_reads;
  fit = subst (ReadsFit log.base (number, s.next)) (sym same) is.fit;
  plan = tt;
}

-- ---- a plan that was made

now_at : (log : Log) (more : ReadList) (i : ℕ) (r : Row) → AreCurrent log more → slice_get more i ≡ Some r → r.1.0 ≡ get (last_state log) r.0
now_at log [] i r now at = absurd (none-some r at)
now_at log (x ∷ more) zero r now at = subst (λ (r : Row). r.1.0 ≡ get (last_state log) r.0) (same_Some x r at) now.0.0
now_at log (x ∷ more) (suc i) r now at = now_at log more i r now.1 at

past_front : (xs ys : ReadList) (i : ℕ) → length xs ≤ i → slice_get (xs ++ ys) i ≡ slice_get ys (i - length xs)
past_front [] ys i h = ap (slice_get ys) (omega arith)
past_front (x ∷ xs) ys zero h = absurd (omega arith)
past_front (x ∷ xs) ys (suc i) h = past_front xs ys i (omega arith) ∙ ap (slice_get ys) (omega arith)

module _ (log : Log) (number : ℕ) (s : Shell) (is : IsShell log number s) (looks : ReadList) (l : looks ≡ looked_in s) where
  long : length looks ≡ s.looked
  long = ap length l ∙ length_take s.reads s.looked is.within

  -- reads that go on from the looks
  pub looks_kept : (reads more : ReadList) → reads ≡ looks ++ more → take s.looked reads ≡ looked_in s
  looks_kept reads more kept = ap (take s.looked) kept ∙ (take_front looks more s.looked long ∙ l)

  pub looks_within : (reads more : ReadList) → reads ≡ looks ++ more → s.looked ≤ length reads
  looks_within reads more kept = omega (arith, long, ap length kept, length-append looks more)

  -- where no plan could be made
  pub unplanned_shell : (reads more : ReadList) → reads ≡ looks ++ more → IsShell log number (shell_of s.next s.looked reads None s.retries)
  unplanned_shell reads more kept = unplanned log number s reads s.retries is (looks_within reads more kept) (looks_kept reads more kept)

  module _ (base : BaseTree) (b : base ≡ log.base) (a : Attempt) (once : IsReads a.reads) (whose : a.shell ≡ number) (txn : a.txn ≡ s.next) (now : IsNowIn log looks a.reads) (explained : IsExplained base a) (foretold : Foretells base (number, s.next) looks a.reads) (made : ℕ) (made_is : made ≡ length log.order) where
    abbrev pub made_plan : Plan
    made_plan = record { made = made; changes = a.changes; outputs = a.outputs; end = a.end }

    abbrev pub planned : Shell
    planned = shell_of s.next s.looked a.reads (Some made_plan) s.retries

    same_looks : looked_in planned ≡ looked_in s
    same_looks = looks_kept a.reads now.more now.kept

    stood_now : (i : ℕ) (r : Row) → s.looked ≤ i → slice_get a.reads i ≡ Some r → r.1.0 ≡ get (last_state log) r.0
    stood_now i r from at = now_at log now.more (i - length looks) r now.now (sym (past_front looks now.more i (omega (arith, from, long))) ∙ (ap (λ rs. slice_get rs i) (sym now.kept) ∙ at))

    same_attempt : attempt_of number planned made_plan ≡ a
    same_attempt =
        let with : ℕ → ℕ → Attempt = λ shell txn. record { shell = shell; txn = txn; reads = a.reads; changes = a.changes; outputs = a.outputs; end = a.end } in
        ap (λ shell. with shell s.next) (sym whose) ∙ ap (with a.shell) (sym txn)

    pub planned_shell : IsShell log number planned
    planned_shell = record {
      next = is.next;
      within = looks_within a.reads now.more now.kept;
      once = subst IsReads (sym same_looks) is.once;
      true_reads = subst (AreTrueReads log.base log.order) (sym same_looks) is.true_reads;
      fit = subst (ReadsFit log.base (number, s.next)) (sym same_looks) is.fit;
      plan = record {
        once = once;
        explained = subst (IsExplained log.base) (sym same_attempt) (subst (λ base. IsExplained base a) b explained);
        foretold = subst (λ looks. Foretells log.base (number, s.next) looks a.reads) (l ∙ sym same_looks) (subst (λ base. Foretells base (number, s.next) looks a.reads) b foretold);
        made = omega (arith, made_is);
        stood = λ i r from at. stood_now i r from at ∙ ap (λ n. get (state_at log n) r.0) (sym made_is);
      };
    }

    pub planned_ready : HasReadyPlan log planned
    planned_ready = record { plan = made_plan; there = refl; now = λ r at. stood_now s.looked r (omega arith) at }

-- the looks of a shell fit where the base is told in another way
pub fits_as : (log : Log) (number : ℕ) (s : Shell) (looks : ReadList) (base : BaseTree) → looks ≡ looked_in s → base ≡ log.base → IsShell log number s → ReadsFit base (number, s.next) looks
fits_as log number s looks base l b is = subst (λ base. ReadsFit base (number, s.next) looks) (sym b) (subst (ReadsFit log.base (number, s.next)) (sym l) is.fit)

-- one read more that stands there now
-- ---- a plan that still holds

ready_since : (log : Log) (number : ℕ) (s : Shell) (p : Plan) (r : Row) → IsShell log number s → s.plan ≡ Some p → slice_get s.reads s.looked ≡ Some r → ((entry : ℕ) → p.made ≤ entry → Changes log.base log.order entry r.0 → ⊥) → HasReadyPlan log s
ready_since log number s p r is there at none =
    let plan : IsShellPlan log number s p = plan_in log number s s.plan p there is.plan in
    let now : r.1.0 ≡ get (last_state log) r.0 = plan.stood s.looked r (omega arith) at ∙ stands_now log.base log.order r.0 p.made plan.made none in
    record { plan = p; there = there; now = λ x here. subst (λ (x : Row). x.1.0 ≡ get (last_state log) x.0) (same_Some r x (sym at ∙ here)) now }

pub ready_never : (log : Log) (number : ℕ) (s : Shell) (p : Plan) (r : Row) → IsShell log number s → s.plan ≡ Some p → slice_get s.reads s.looked ≡ Some r → NeverChanged log r.0 → HasReadyPlan log s
ready_never log number s p r is there at never = ready_since log number s p r is there at (λ entry since changes. never entry changes)

pub ready_before : (log : Log) (number : ℕ) (s : Shell) (p : Plan) (r : Row) (last : ℕ) → IsShell log number s → s.plan ≡ Some p → slice_get s.reads s.looked ≡ Some r → IsLastChange log r.0 last → last < p.made → HasReadyPlan log s
ready_before log number s p r last is there at change before = ready_since log number s p r is there at (λ entry since changes. change.last entry (omega (arith, since, before)) changes)

own_next : (log : Log) (number txn : ℕ) → txn ≡ next_number log.order number → suc txn ≡ next_number (settled log number txn).order number
own_next log number txn e =
    omega (arith, e, ap length (numbers_own log.order number txn), length-append (numbers_of number log.order) (txn ∷ []))

-- ---- a shell that begins, and one whose log has grown

pub fresh_shell : (log : Log) (number next : ℕ) (reads : ReadList) (retries : List Retry) → next ≡ next_number log.order number → IsShell log number (shell_of next 0 reads None retries)
unfolding IsDistinct
fresh_shell log number next reads retries e = record {
  next = e;
  within = omega arith;
  once = tt;
  true_reads = λ path node position h. absurd (none-some (node, position) h);
  fit = λ t planned nodes whole agree path h. absurd (cc);
  plan = tt;
}

pub longer_plan : (log : Log) (number shell txn : ℕ) (s : Shell) (o : Option Plan) → IfSome o (IsShellPlan log number s) → IfSome o (IsShellPlan (settled log shell txn) number s)
longer_plan log number shell txn s None is = tt
longer_plan log number shell txn s (Some p) is = record {
  once = is.once;
  explained = is.explained;
  foretold = is.foretold;
  made = omega (arith, is.made, length-append log.order ((shell, txn) ∷ []));
  stood = λ i r from at. is.stood i r from at ∙ sym (ap (λ (m : Nodes). get m r.0) (state-front log.base log.order ((shell, txn) ∷ []) p.made is.made));
}

-- ---- the shell after a look, as the code leaves it

pub looked_as : (log : Log) (number : ℕ) (s : Shell) (r : Row) (position : ℕ) (reads : ReadList) → IsShell log number s → HasReadyPlan log s → slice_get s.reads s.looked ≡ Some r → position ≡ length log.order → reads ≡ placed s.looked position s.reads → IsShell log number (shell_of s.next (s.looked + 1) reads s.plan s.retries)
looked_as log number s r position reads is ready at e same =
    subst (λ rs. IsShell log number (shell_of s.next (s.looked + 1) rs s.plan s.retries)) (sym (same ∙ ap (λ p. placed s.looked p s.reads) e)) (looked_shell log number s r is ready at)

pub has_looked_as : (log : Log) (number : ℕ) (s : Shell) (r : Row) (path : Path) (position : ℕ) (reads : ReadList) → IsShell log number s → HasReadyPlan log s → slice_get s.reads s.looked ≡ Some r → path ≡ r.0 → position ≡ length log.order → IsPath path → reads ≡ placed s.looked position s.reads → HasLooked log log number s path position (shell_of s.next (s.looked + 1) reads s.plan s.retries)
has_looked_as log number s r path position reads is ready at p e valid same =
    subst (λ rs. HasLooked log log number s path position (shell_of s.next (s.looked + 1) rs s.plan s.retries)) (sym same) (has_looked log number s r path position is ready at p e valid)

-- ---- the shell after a settle

take_whole : (reads : ReadList) (n : ℕ) → length reads ≤ n → take n reads ≡ reads
take_whole [] zero h = refl
take_whole [] (suc n) h = refl
take_whole (r ∷ reads) zero h = absurd (omega arith)
take_whole (r ∷ reads) (suc n) h = ap (λ rs. r ∷ rs) (take_whole reads n (omega arith))

module _ (log new : Log) (number : ℕ) (s : Shell) (is : IsShell log number s) (o : Option Plan) (none : o ≡ None) (retries : List Retry) where
  -- its number is the next one's
  pub settled_shell : (reads : ReadList) → new ≡ settled log number s.next → IsShell new number (shell_of (s.next + 1) 0 reads o retries)
  settled_shell reads grown =
      let next : s.next + 1 ≡ next_number (settled log number s.next).order number = add-one s.next ∙ own_next log number s.next is.next in
      subst (λ o. IsShell new number (shell_of (s.next + 1) 0 reads o retries)) (sym none) (subst (λ log. IsShell log number (shell_of (s.next + 1) 0 reads None retries)) (sym grown) (fresh_shell (settled log number s.next) number (s.next + 1) reads retries next))

  -- it has its looks back
  pub refused_shell : (reads : ReadList) → new ≡ log → reads ≡ s.reads → IsShell new number (shell_of s.next s.looked reads o retries)
  refused_shell reads same r =
      subst (λ o. IsShell new number (shell_of s.next s.looked reads o retries)) (sym none) (subst (λ log. IsShell log number (shell_of s.next s.looked reads None retries)) (sym same) (unplanned log number s reads retries is (omega (arith, is.within, ap length r)) (ap (take s.looked) r)))

module _ (log new : Log) (number : ℕ) (s t : Shell) (is : IsShell log number s) (ready : HasReadyPlan log s) (past : length s.reads ≤ s.looked) (reads : ReadList) (r : reads ≡ s.reads) where
  whole : reads ≡ looked_in s
  whole = r ∙ sym (take_whole s.reads s.looked past)

  ready_all : AllRead log.base (number, s.next) (looked_in s)
  ready_all =
      let plan : IsShellPlan log number s ready.plan = plan_in log number s s.plan ready.plan ready.there is.plan in
      subst (AllRead log.base (number, s.next)) (sym (take_whole s.reads s.looked past)) (all_read log.base (attempt_of number s ready.plan) plan.explained)

  pub has_settled : (entry : ℕ) → IsFreshReads log.base log.order reads → entry ≡ length log.order → new ≡ settled log number s.next → t.next ≡ s.next + 1 → looked_in t ≡ [] → t.retries ≡ s.retries → HasJoined log new number s entry t
  has_settled entry fresh now grown txn none retries = record {
    ready = ready_all;
    fresh = subst (IsFreshReads log.base log.order) whole fresh;
    now = now;
    log = grown;
    txn = txn ∙ add-one s.next;
    none = none;
    retries = retries;
  }

  pub has_restarted : (entry : ℕ) (path : Path) → IsNamed log reads entry path → new ≡ log → t.next ≡ s.next → looked_in t ≡ [] → t.retries ≡ s.retries ++ retry_of number s.next entry path ∷ [] → HasRestarted log new number s entry path t
  has_restarted entry path named same txn none retries = record {
    ready = ready_all;
    named = subst (λ rs. IsNamed log rs entry path) whole named;
    log = same;
    txn = txn;
    none = none;
    retries = retries;
  }

-- ---- a move from a shell with the same looks

pub moved_from : (old new : Log) (number : ℕ) (s mid : Shell) (e : Event) (t : Shell) → HasLooksOf s mid → Moved old new number mid e t → Moved old new number s e t
moved_from old new number s mid (event.Look k path position) t same m = (
  m.0,
  record {
    log = m.1.log;
    valid = m.1.valid;
    next = subst (λ n. IsNext old.base (number, n) (looked_in s) path) same.next (subst (λ rs. IsNext old.base (number, mid.next) rs path) same.looked m.1.next);
    now = m.1.now;
    txn = m.1.txn ∙ same.next;
    retries = m.1.retries ∙ same.retries;
    looked = m.1.looked ∙ ap (λ rs. rs ++ (path, (get (last_state old) path, position)) ∷ []) same.looked;
  },
)
moved_from old new number s mid (event.Settled k entry) t same m = (
  m.0,
  record {
    ready = subst (λ n. AllRead old.base (number, n) (looked_in s)) same.next (subst (AllRead old.base (number, mid.next)) same.looked m.1.ready);
    fresh = subst (IsFreshReads old.base old.order) same.looked m.1.fresh;
    now = m.1.now;
    log = m.1.log ∙ ap (settled old number) same.next;
    txn = m.1.txn ∙ ap suc same.next;
    none = m.1.none;
    retries = m.1.retries ∙ same.retries;
  },
)
moved_from old new number s mid (event.Conflict k entry path) t same m = (
  m.0,
  record {
    ready = subst (λ n. AllRead old.base (number, n) (looked_in s)) same.next (subst (AllRead old.base (number, mid.next)) same.looked m.1.ready);
    named = subst (λ rs. IsNamed old rs entry path) same.looked m.1.named;
    log = m.1.log;
    txn = m.1.txn ∙ same.next;
    none = m.1.none;
    retries = m.1.retries ∙ (ap (λ rs. rs ++ retry_of number mid.next entry path ∷ []) same.retries ∙ ap (λ n. s.retries ++ retry_of number n entry path ∷ []) same.next);
  },
)

pub moves_from : (old new : Log) (number : ℕ) (s mid : Shell) (t : Shell) (r : Result Event NoMemory) → HasLooksOf s mid → IfOk r (λ e. Moved old new number mid e t) → IfOk r (λ e. Moved old new number s e t)
moves_from old new number s mid t r same m = IfOk-weaker r (λ e. Moved old new number mid e t) (λ e. Moved old new number s e t) (λ e h. moved_from old new number s mid e t same h) m
