-- A step of one shell is a step of its world.
use Rattle.std.proofs.Common.{◌≡◌, ◌≢◌, ℕ, zero, suc, ◌<◌, ◌≤◌, List, [], ◌∷◌, ◌++◌, map, length, get_or, set, replicate, slice_get, Option, Some, None, IsSome, is_some, refl, sym, ap, subst, ◌∙◌, arith}
use Rattle.std.specs.FinMap.{get}
use Rattle.std.proofs.lemmas.Bool.{ne_eqb}
use Rattle.std.proofs.lemmas.List.{map-append, map-set, length-set, length-replicate}
use Rattle.std.proofs.lemmas.Option.{none-some, same_Some, slice_get-get_or, slice_get_past}
use Rattle.fx_spec.specs.declared.base.Base.{Base}
use Rattle.fx_spec.specs.Bases.{base_tree}
use Rattle.fx_spec.specs.CommandTree.{CommandTree}
use Rattle.fx_spec.specs.Plans.{Turn, txn_of, script_of, count_of}
use Rattle.fx_spec.specs.Order.{BaseTree}
use Rattle.fx_spec.proofs.Orders.{numbers_other}
use Rattle.fx_machine.specs.declared.event.Event.{Event}
use Rattle.fx_machine.specs.declared.event.Event.TheVariants as event
use Rattle.fx_machine.specs.declared.retry.Retry.{Retry}
use Rattle.fx_machine.specs.Laws.{IsReached}
use Rattle.fx_machine.specs.Machine.{Machine, Look, Looks, Settles, Restarts, Step, Run, looks_of, position_at, next_number, next_txn, ComesNext, HasSeenAll, IsFresh, IsStaleAt, resting, shell_of}
use Rattle.fx_board.specs.Board.{last_state, settled, started}
use Rattle.fx_board.specs.Log.{Log}
use Rattle.fx_diaries.specs.Looks.{looks_in}
use Rattle.fx_diaries.specs.Named.{IsNamedAt, NamesConflict}
use Rattle.fx_diaries.proofs.Looks.{unlooked, has_seen_all, comes_next, stale_at, fresh_at, named_at, true_longer}
use Rattle.fx_sched.specs.declared.shell.Shell.{Shell}
use Rattle.fx_sched.specs.Shells.{looked_in, IsShell, HasLooksOf}
use Rattle.fx_sched.specs.World.{machine_of, running_of, noted, IsWorld, new_shell, began, Leads}
use Rattle.fx_sched.specs.Moves.{Moved, retry_of}
use Rattle.fx_sched.specs.Running.{Running}
use Rattle.fx_machine.specs.Measure.{measure, IsLower}
use Rattle.fx_machine.proofs.Lowering.{events_lower}
use Rattle.fx_sched.proofs.Shells.{fresh_shell, longer_plan}

abbrev pub shell_looks : Shell → List Look
shell_looks s = looks_in (looked_in s)

-- ---- lists

looks_at : (o : List Turn) (shells : List Shell) (number : ℕ) (s : Shell) → slice_get shells number ≡ Some s → looks_of (machine_of o shells) number ≡ looks_in (looked_in s)
looks_at o [] number s e = absurd (none-some s e)
looks_at o (x ∷ xs) zero s e = ap shell_looks (same_Some x s e)
looks_at o (x ∷ xs) (suc number) s e = looks_at o xs number s e

-- what holds of the other shells and of the new one holds of each after one is set
set_each : (P : ℕ → Shell → Type 0) (shells : List Shell) (number : ℕ) (t : Shell) → ((k : ℕ) (s : Shell) → slice_get shells k ≡ Some s → k ≢ number → P k s) → P number t → (k : ℕ) (s : Shell) → slice_get (set shells number t) k ≡ Some s → P k s
set_each P [] number t old new k s e = absurd (none-some s e)
set_each P (x ∷ xs) zero t old new zero s e = subst (P 0) (same_Some t s e) new
set_each P (x ∷ xs) zero t old new (suc k) s e = old (suc k) s e (λ h. absurd (omega (arith, h)))
set_each P (x ∷ xs) (suc number) t old new zero s e = old zero s e (λ h. absurd (omega (arith, h)))
set_each P (x ∷ xs) (suc number) t old new (suc k) s e =
    set_each (λ k. P (suc k)) xs number t (λ k s e other. old (suc k) s e (λ h. other (omega (arith, h)))) new k s e

-- the machine after one shell's reads are set
set_machine : (o : List Turn) (shells : List Shell) (number : ℕ) (t : Shell) (looks : List Look) → looks_in (looked_in t) ≡ looks → ◌≡◌ {A = Machine} (machine_of o (set shells number t)) (record { order = o; looks = set (machine_of o shells).looks number looks })
set_machine o shells number t looks e =
    let with_looks : List (List Look) → Machine = λ ls. record { order = o; looks = ls } in
    ap with_looks (map-set shell_looks shells number t ∙ ap (set (map shell_looks shells) number) e)

pub run_more : (base : BaseTree) (m : Machine) (events : List Event) (m' : Machine) (e : Event) (m'' : Machine) → Run base m events m' → Step base m' e m'' → Run base m (events ++ e ∷ []) m''
run_more base m [] m' e m'' run step = (m'', subst (λ m. Step base m e m'') (sym run) step, refl)
run_more base m (x ∷ events) m' e m'' run step = (run.0, run.1, run_more base run.0 events m' e m'' run.2 step)

-- ---- one shell

planned_next : (log : Log) (number : ℕ) (s : Shell) (t : List CommandTree) → IsShell log number s → txn_of log.base.plan (number, s.next) ≡ Some t → next_txn log.base log.order number ≡ Some t
planned_next log number s t is planned = subst (λ n. txn_of log.base.plan (number, n) ≡ Some t) is.next planned

-- the other shells, after one has settled
other_shell : (log : Log) (number txn k : ℕ) (s : Shell) → k ≢ number → IsShell log k s → IsShell (settled log number txn) k s
other_shell log number txn k s other is = record {
  next = is.next ∙ ap length (sym (numbers_other log.order k number txn (ne_eqb number k (λ e. other (sym e)))));
  within = is.within;
  once = is.once;
  true_reads = true_longer log.base log.order ((number, txn) ∷ []) (looked_in s) is.true_reads;
  fit = is.fit;
  plan = longer_plan log k number txn s s.plan is.plan;
}

-- ---- the world

-- the state after a move of one shell, with all that is kept of it but that it is reached
record Kept (old new : Log) (shells : List Shell) (number : ℕ) (t : Shell) : Type 0 where
  base : new.base ≡ old.base
  each : (k : ℕ) (s : Shell) → slice_get (set shells number t) k ≡ Some s → IsShell new k s

kept_by : (old new : Log) (shells : List Shell) (number : ℕ) (t : Shell) → IsWorld old shells → new.base ≡ old.base → ((k : ℕ) (s : Shell) → k ≢ number → IsShell old k s → IsShell new k s) → IsShell new number t → Kept old new shells number t
kept_by old new shells number t w same others is = record {
  base = same;
  each = set_each (IsShell new) shells number t (λ k s e other. others k s other (w.each k s e)) is;
}

same_others : (old new : Log) (number : ℕ) → new ≡ old → (k : ℕ) (s : Shell) → k ≢ number → IsShell old k s → IsShell new k s
same_others old new number same k s other is = subst (λ log. IsShell log k s) (sym same) is

kept : (old new : Log) (shells : List Shell) (number : ℕ) (s : Shell) (e : Event) (t : Shell) → IsWorld old shells → IsShell new number t → Moved old new number s e t → Kept old new shells number t
kept old new shells number s (event.Look k path position) t w is m = kept_by old new shells number t w (ap (λ (l : Log). l.base) m.1.log) (same_others old new number m.1.log) is
kept old new shells number s (event.Settled k entry) t w is m =
    kept_by old new shells number t w (ap (λ (l : Log). l.base) m.1.log) (λ k s' other was. subst (λ log. IsShell log k s') (sym m.1.log) (other_shell old number s.next k s' other was)) is
kept old new shells number s (event.Conflict k entry path) t w is m = kept_by old new shells number t w (ap (λ (l : Log). l.base) m.1.log) (same_others old new number m.1.log) is

-- the step of the machine
steps : (old new : Log) (shells : List Shell) (number : ℕ) (s : Shell) (txn : List CommandTree) (e : Event) (t : Shell) → IsWorld old shells → slice_get shells number ≡ Some s → txn_of old.base.plan (number, s.next) ≡ Some txn → Moved old new number s e t → Step old.base (machine_of old.order shells) e (machine_of new.order (set shells number t))
steps old new shells number s txn (event.Look k path position) t w at planned m =
    let is : IsShell old number s = w.each number s at in
    let h = m.1 in
    let looked : looks_of (machine_of old.order shells) number ≡ looks_in (looked_in s) = looks_at old.order shells number s at in
    let more : looks_in (looked_in t) ≡ looks_of (machine_of old.order shells) number ++ (path, position) ∷ [] =
    ap looks_in h.looked ∙ map-append (λ r. (r.0, r.1.1)) (looked_in s) ((path, (get (last_state old) path, position)) ∷ []) ∙ ap (λ ls. ls ++ (path, position) ∷ []) (sym looked) in
    let m' : Machine = machine_of new.order (set shells number t) in
    let made : Looks old.base (machine_of old.order shells) number path position (machine_of new.order (set shells number t)) = record {
      txn = txn;
      next = planned_next old number s txn is planned;
      valid = h.valid;
      unseen = subst (λ ls. position_at ls path ≡ None) (sym looked) (unlooked (looked_in s) path h.next.unread);
      first = subst (λ ls. ComesNext old.base old.order ls txn path) (sym looked) (comes_next old.base old.order (number, s.next) (looked_in s) txn path is.true_reads h.next.needed planned);
      now = h.now;
      after = ap (λ (l : Log). machine_of l.order (set shells number t)) h.log ∙ set_machine old.order shells number t (looks_of (machine_of old.order shells) number ++ (path, position) ∷ []) more;
    } in
    subst (λ k. Looks old.base (machine_of old.order shells) k path position (machine_of new.order (set shells number t))) (sym m.0) made
steps old new shells number s txn (event.Settled k entry) t w at planned m =
    let is : IsShell old number s = w.each number s at in
    let h = m.1 in
    let looked : looks_of (machine_of old.order shells) number ≡ looks_in (looked_in s) = looks_at old.order shells number s at in
    let made : Settles old.base (machine_of old.order shells) number entry (machine_of new.order (set shells number t)) = record {
      txn = txn;
      next = planned_next old number s txn is planned;
      ready = subst (λ ls. HasSeenAll old.base old.order ls txn) (sym looked) (has_seen_all old.base old.order (number, s.next) (looked_in s) txn is.true_reads h.ready planned);
      fresh = subst (IsFresh old.base old.order) (sym looked) (fresh_at old.base old.order (looked_in s) h.fresh);
      now = h.now;
      after = ap (λ (l : Log). machine_of l.order (set shells number t)) h.log ∙ ap (λ n. machine_of (old.order ++ (number, n) ∷ []) (set shells number t)) is.next
          ∙ set_machine (old.order ++ (number, next_number old.order number) ∷ []) shells number t [] (ap looks_in h.none);
    } in
    subst (λ k. Settles old.base (machine_of old.order shells) k entry (machine_of new.order (set shells number t))) (sym m.0) made
steps old new shells number s txn (event.Conflict k entry path) t w at planned m =
    let is : IsShell old number s = w.each number s at in
    let h = m.1 in
    let looked : looks_of (machine_of old.order shells) number ≡ looks_in (looked_in s) = looks_at old.order shells number s at in
    let made : Restarts old.base (machine_of old.order shells) number entry path (machine_of new.order (set shells number t)) = record {
      txn = txn;
      next = planned_next old number s txn is planned;
      ready = subst (λ ls. HasSeenAll old.base old.order ls txn) (sym looked) (has_seen_all old.base old.order (number, s.next) (looked_in s) txn is.true_reads h.ready planned);
      stale = subst (λ ls. IsStaleAt old.base old.order ls entry path) (sym looked) (stale_at old.base old.order (looked_in s) entry path h.named.stale);
      after = ap (λ (l : Log). machine_of l.order (set shells number t)) h.log ∙ set_machine old.order shells number t [] (ap looks_in h.none);
    } in
    subst (λ k. Restarts old.base (machine_of old.order shells) k entry path (machine_of new.order (set shells number t))) (sym m.0) made

-- what it names
names : (old new : Log) (shells : List Shell) (number : ℕ) (s : Shell) (e : Event) (t : Shell) → slice_get shells number ≡ Some s → Moved old new number s e t → NamesConflict old.base (machine_of old.order shells) e
names old new shells number s (event.Look k path position) t at m = tt
names old new shells number s (event.Settled k entry) t at m = tt
names old new shells number s (event.Conflict k entry path) t at m =
    let looked : looks_of (machine_of old.order shells) number ≡ looks_in (looked_in s) = looks_at old.order shells number s at in
    subst (λ k. IsNamedAt old.base old.order (looks_of (machine_of old.order shells) k) entry path) (sym m.0)
    (subst (λ ls. IsNamedAt old.base old.order ls entry path) (sym looked) (named_at old (looked_in s) entry path m.1.named))

whose : (old new : Log) (number : ℕ) (s : Shell) (e : Event) (t : Shell) → Moved old new number s e t → shell_of e ≡ number
whose old new number s (event.Look k path position) t m = m.0
whose old new number s (event.Settled k entry) t m = m.0
whose old new number s (event.Conflict k entry path) t m = m.0

some_txn : (o : Option (List CommandTree)) → IsSome o → (t : List CommandTree) × (o ≡ Some t)
some_txn None e = absurd (cc)
some_txn (Some t) e = (t, refl)

-- ---- the retries

abbrev pub retries_in : List Shell → List (List Retry)
retries_in shells = map (λ (s : Shell). s.retries) shells

retries_same : (shells : List Shell) (number : ℕ) (s t : Shell) → slice_get shells number ≡ Some s → t.retries ≡ s.retries → retries_in (set shells number t) ≡ retries_in shells
retries_same [] number s t at e = absurd (none-some s at)
retries_same (x ∷ xs) zero s t at e = ap (λ rs. rs ∷ retries_in xs) (e ∙ ap (λ (s : Shell). s.retries) (sym (same_Some x s at)))
retries_same (x ∷ xs) (suc number) s t at e = ap (λ ls. x.retries ∷ ls) (retries_same xs number s t at e)

retries_more : (shells : List Shell) (number : ℕ) (s t : Shell) (r : Retry) → slice_get shells number ≡ Some s → t.retries ≡ s.retries ++ r ∷ [] → retries_in (set shells number t) ≡ set (retries_in shells) number (get_or (retries_in shells) number [] ++ r ∷ [])
retries_more [] number s t r at e = absurd (none-some s at)
retries_more (x ∷ xs) zero s t r at e = ap (λ rs. rs ∷ retries_in xs) (e ∙ ap (λ (s : Shell). s.retries ++ r ∷ []) (sym (same_Some x s at)))
retries_more (x ∷ xs) (suc number) s t r at e = ap (λ ls. x.retries ∷ ls) (retries_more xs number s t r at e)

retries_on : (old new : Log) (shells : List Shell) (number : ℕ) (s : Shell) (e : Event) (t : Shell) → IsShell old number s → slice_get shells number ≡ Some s → Moved old new number s e t → retries_in (set shells number t) ≡ noted (next_number new.order number) (retries_in shells) e
retries_on old new shells number s (event.Look k path position) t is at m = retries_same shells number s t at m.1.retries
retries_on old new shells number s (event.Settled k entry) t is at m = retries_same shells number s t at m.1.retries
retries_on old new shells number s (event.Conflict k entry path) t is at m =
    let txn : s.next ≡ next_number new.order number = is.next ∙ ap (λ (l : Log). next_number l.order number) (sym m.1.log) in
    retries_more shells number s t (retry_of number s.next entry path) at m.1.retries
    ∙ (ap (λ n. noted n (retries_in shells) (event.Conflict number entry path)) txn ∙ ap (λ k. noted (next_number new.order number) (retries_in shells) (event.Conflict k entry path)) (sym m.0))

-- ---- what the step ensures

pub leads : (old new : Log) (shells : List Shell) (number : ℕ) (s : Shell) (e : Event) (t : Shell) → IsWorld old shells → slice_get shells number ≡ Some s → IsSome (txn_of old.base.plan (number, s.next)) → IsShell new number t → Moved old new number s e t → Leads (running_of old shells) number (running_of new (set shells number t)) e
leads old new shells number s e t w at left is m =
    let txn = some_txn (txn_of old.base.plan (number, s.next)) left in
    record {
      left = ap is_some (planned_next old number s txn.0 (w.each number s at) txn.1);
      whose = whose old new number s e t m;
      base = (kept old new shells number s e t w is m).base;
      retries = retries_on old new shells number s e t (w.each number s at) at m;
      step = steps old new shells number s txn.0 e t w at txn.1 m;
      named = names old new shells number s e t at m;
    }

pub moved_world : (old new : Log) (shells : List Shell) (number : ℕ) (s : Shell) (e : Event) (t : Shell) → IsWorld old shells → slice_get shells number ≡ Some s → IsSome (txn_of old.base.plan (number, s.next)) → IsShell new number t → Moved old new number s e t → IsWorld new (set shells number t)
moved_world old new shells number s e t w at left is m =
    let k : Kept old new shells number t = kept old new shells number s e t w is m in
    let step = (leads old new shells number s e t w at left is m).step in
    record {
      count = length-set shells number t ∙ w.count ∙ ap (λ (b : BaseTree). length b.plan) (sym k.base);
      each = k.each;
      reached = subst (λ b. IsReached b (machine_of new.order (set shells number t))) (sym k.base) (record {
        events = w.reached.events ++ e ∷ [];
        run = run_more old.base (resting old.base []) w.reached.events (machine_of old.order shells) e (machine_of new.order (set shells number t)) w.reached.run step;
      });
    }

-- a refused step: the shell has its looks

same_looks : (shells : List Shell) (number : ℕ) (s t : Shell) → slice_get shells number ≡ Some s → looked_in t ≡ looked_in s → map shell_looks (set shells number t) ≡ map shell_looks shells
same_looks [] number s t at e = absurd (none-some s at)
same_looks (x ∷ xs) zero s t at e = ap (λ l. looks_in l ∷ map shell_looks xs) (e ∙ ap looked_in (sym (same_Some x s at)))
same_looks (x ∷ xs) (suc number) s t at e = ap (λ ls. shell_looks x ∷ ls) (same_looks xs number s t at e)

pub refused_running : (old new : Log) (shells : List Shell) (number : ℕ) (s t : Shell) → slice_get shells number ≡ Some s → new ≡ old → HasLooksOf s t → running_of new (set shells number t) ≡ running_of old shells
refused_running old new shells number s t at e same =
    let with : List (List Look) → List (List Retry) → Running = λ ls rs. record { base = old.base; machine = record { order = old.order; looks = ls }; retries = rs } in
    ap (λ (l : Log). running_of l (set shells number t)) e
    ∙ (ap (λ ls. with ls (retries_in (set shells number t))) (same_looks shells number s t at same.looked) ∙ ap (with (map shell_looks shells)) (retries_same shells number s t at same.retries))

pub refused_world : (old new : Log) (shells : List Shell) (number : ℕ) (s t : Shell) → IsWorld old shells → slice_get shells number ≡ Some s → new ≡ old → IsShell new number t → HasLooksOf s t → IsWorld new (set shells number t)
refused_world old new shells number s t w at e is same = record {
  count = length-set shells number t ∙ w.count ∙ ap (λ (l : Log). length l.base.plan) (sym e);
  each = set_each (IsShell new) shells number t (λ k s' there other. same_others old new number e k s' other (w.each k s' there)) is;
  reached = subst (λ (r : Running). IsReached r.base r.machine) (sym (refused_running old new shells number s t at e same)) w.reached;
}

-- ---- the start

started_looks : (n : ℕ) → map shell_looks (replicate n new_shell) ≡ replicate n []
started_looks zero = refl
started_looks (suc n) = ap (λ ls. [] ∷ ls) (started_looks n)

started_retries : (n : ℕ) → retries_in (replicate n new_shell) ≡ replicate n []
started_retries zero = refl
started_retries (suc n) = ap (λ ls. [] ∷ ls) (started_retries n)

new_each : (n k : ℕ) (s : Shell) → slice_get (replicate n new_shell) k ≡ Some s → s ≡ new_shell
new_each zero k s e = absurd (none-some s e)
new_each (suc n) zero s e = sym (same_Some new_shell s e)
new_each (suc n) (suc k) s e = new_each n k s e

pub started_machine : (base : BaseTree) → machine_of [] (replicate (length base.plan) new_shell) ≡ resting base []
started_machine base = let with_looks : List (List Look) → Machine = λ ls. record { order = []; looks = ls } in ap with_looks (started_looks (length base.plan))

pub started_world : (base : BaseTree) → IsWorld (started base) (replicate (length base.plan) new_shell)
started_world base = record {
  count = length-replicate (length base.plan) new_shell;
  each = λ k s e. subst (IsShell (started base) k) (sym (new_each (length base.plan) k s e)) (fresh_shell (started base) k 0 [] [] refl);
  reached = record { events = []; run = sym (started_machine base) };
}

-- ---- shells of a world

pub shell_at : (log : Log) (shells : List Shell) (number : ℕ) (s : Shell) → IsWorld log shells → number < length log.base.plan → slice_get shells number ≡ Some (get_or shells number s)
shell_at log shells number s w within = slice_get-get_or shells number s (omega (arith, w.count))

pub count_is : (log : Log) (read : Base) (number count : ℕ) → base_tree read ≡ log.base → count ≡ count_of read.plan number → count ≡ count_of log.base.plan number
count_is log read number count e c = c ∙ ap (λ (b : BaseTree). count_of b.plan number) e

pub has_txn : (plan : List (List (List CommandTree))) (number next : ℕ) → next < count_of plan number → IsSome (txn_of plan (number, next))
has_txn plan number next h = ap is_some (slice_get-get_or (script_of plan number) next [] h)

pub no_txn : (log : Log) (shells : List Shell) (number count : ℕ) (s : Shell) → IsWorld log shells → slice_get shells number ≡ Some s → count ≡ count_of log.base.plan number → count ≤ s.next → next_txn log.base log.order number ≡ None
no_txn log shells number count s w at e h =
    let next : s.next ≡ next_number log.order number = (w.each number s at).next in
    slice_get_past (script_of log.base.plan number) (next_number log.order number) (omega (arith, e, next))

pub lowers : (old new : Log) (shells shells' : List Shell) (number : ℕ) (e : Event) → IsWorld old shells → Leads (running_of old shells) number (running_of new shells') e → IsLower (measure new.base (machine_of new.order shells')) (measure old.base (machine_of old.order shells))
lowers old new shells shells' number e w l =
    subst (λ b. IsLower (measure b (machine_of new.order shells')) (measure old.base (machine_of old.order shells))) (sym l.base) (events_lower old.base (machine_of old.order shells) (machine_of new.order shells') e w.reached l.step)

-- ---- the start of a run

pub started_over : (base read : Base) (log : Log) (shells : List Shell) (count : ℕ) → log ≡ started (base_tree base) → shells ≡ replicate count new_shell → count ≡ length read.plan → read ≡ base → IsWorld log shells × (running_of log shells ≡ began (base_tree base))
started_over base read log shells count l s n r =
    let count_of : count ≡ length base.plan = n ∙ ap (λ (b : Base). length b.plan) r in
    let shells_are : shells ≡ replicate (length base.plan) new_shell = s ∙ ap (λ n. replicate n new_shell) count_of in
    let with : Machine → List (List Retry) → Running = λ m rs. record { base = base_tree base; machine = m; retries = rs } in (
      subst (λ log. IsWorld log shells) (sym l) (subst (IsWorld (started (base_tree base))) (sym shells_are) (started_world (base_tree base))),
      ap (λ log. running_of log shells) l ∙ ap (running_of (started (base_tree base))) shells_are
          ∙ ap (λ m. with m (retries_in (replicate (length base.plan) new_shell))) (started_machine (base_tree base)) ∙ ap (with (resting (base_tree base) [])) (started_retries (length base.plan)),
    )
