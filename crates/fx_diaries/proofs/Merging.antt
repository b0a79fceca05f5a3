-- The events of all shells, by the time of each entry, one shell after another.
use Rattle.std.proofs.Common.{Bool, true, false, cond, nat_eq, nat_lt, ◌≡◌, ◌≢◌, ⊎_elim, ℕ, zero, suc, ◌+◌, ◌<◌, ◌≤◌, List, [], ◌∷◌, ◌++◌, length, take, set, replicate, slice_get, Some, refl, sym, ap, subst, ◌∙◌, arith, length-take}
use Rattle.std.proofs.lemmas.Bool.{cases_lt, cases_eq}
use Rattle.std.proofs.lemmas.List.{length-set, length-replicate, ext_get_or, get_or-set_same, get_or-set_other, take_all}
use Rattle.std.specs.List.{flat_map}
use Rattle.std.proofs.lemmas.Bool.Decides.{nat_tests}
use Rattle.std.proofs.lemmas.Bool.{ne_eqb}
use Rattle.std.proofs.lemmas.List.{append-nil}
use Rattle.std.proofs.lemmas.List.Concat.{flat_map-append}
use Rattle.std.proofs.lemmas.Option.{none-some, same_Some}
use Rattle.fx_base.proofs.Lists.{some_at}
use Rattle.fx_spec.specs.Plans.{Turn}
use Rattle.fx_spec.specs.Order.{BaseTree, first_numbers}
use Rattle.fx_machine.specs.declared.event.Event.{Event}
use Rattle.fx_machine.specs.declared.event.Event.TheVariants as event
use Rattle.fx_machine.specs.declared.retry.Retry.{Retry}
use Rattle.fx_machine.specs.Tried.{conflicts_of}
use Rattle.fx_machine.specs.Machine.{Machine, Look, Run, Step, looks_of, next_number, resting}
use Rattle.fx_machine.proofs.Reached.{none_looked}
use Rattle.fx_machine.proofs.Turning.{runs_on, settled_by, settled_cons, next_counts}
use Rattle.fx_diaries.specs.Named.{NamesConflict, NameConflicts}
use Rattle.fx_diaries.proofs.Naming.{NamesAll, name_on, name_conflicts}
use Rattle.fx_diaries.proofs.Runs.{step_same, run_same}
use Rattle.fx_diaries.specs.Diaries.{LooksNext, StartsAgain, DoesInShell, DoesAll, MaySettle, Diary, retries_at}

-- ---- one shell, while the order stays

-- the looks of one shell are others now, and nothing else is
pub record HasDone (base : BaseTree) (m : Machine) (shell : ℕ) (looks : List Look) (events : List Event) : Type 0 where
  pub after : Machine
  pub run : Run base m events after
  pub named : NamesAll base m events
  pub order : after.order ≡ m.order
  pub count : length after.looks ≡ length m.looks
  pub own : looks_of after shell ≡ looks
  pub others : (k : ℕ) → k ≢ shell → looks_of after k ≡ looks_of m k

abbrev with_looks : Machine → ℕ → List Look → Machine
with_looks m shell looks = record { order = m.order; looks = set m.looks shell looks }

step_of : (base : BaseTree) (m : Machine) (shell : ℕ) (looks looks' : List Look) (e : Event) → looks_of m shell ≡ looks → DoesInShell base m.order shell looks e looks' → Step base m e (with_looks m shell looks')
step_of base m shell looks looks' (event.Look k path position) is (same, d) =
    subst (λ k. Step base m (event.Look k path position) (with_looks m shell looks')) (sym same)
    (subst (λ l. Step base m (event.Look shell path position) (with_looks m shell l)) (sym d.after)
    (subst (λ l. LooksNext base m.order shell l path position looks' → Step base m (event.Look shell path position) (with_looks m shell (l ++ (path, position) ∷ []))) is
    (λ (d : LooksNext base m.order shell (looks_of m shell) path position looks'). record { txn = d.txn; next = d.next; valid = d.valid; unseen = d.unseen; first = d.first; now = d.now; after = refl }) d))
step_of base m shell looks looks' (event.Settled k entry) is d = absurd d
step_of base m shell looks looks' (event.Conflict k entry path) is (same, d) =
    subst (λ k. Step base m (event.Conflict k entry path) (with_looks m shell looks')) (sym same)
    (subst (λ l. Step base m (event.Conflict shell entry path) (with_looks m shell l)) (sym d.after)
    (subst (λ l. StartsAgain base m.order shell l entry path looks' → Step base m (event.Conflict shell entry path) (with_looks m shell [])) is
    (λ (d : StartsAgain base m.order shell (looks_of m shell) entry path looks'). record { txn = d.txn; next = d.next; ready = d.ready; stale = d.named.stale; after = refl }) d))

names_of : (base : BaseTree) (m : Machine) (shell : ℕ) (looks looks' : List Look) (e : Event) → looks_of m shell ≡ looks → DoesInShell base m.order shell looks e looks' → NamesConflict base m e
names_of base m shell looks looks' (event.Look k path position) is d = tt
names_of base m shell looks looks' (event.Settled k entry) is d = tt
names_of base m shell looks looks' (event.Conflict k entry path) is (same, d) =
    subst (λ k. NamesConflict base m (event.Conflict k entry path)) (sym same)
    (subst (λ l. StartsAgain base m.order shell l entry path looks' → NamesConflict base m (event.Conflict shell entry path)) is (λ (d : StartsAgain base m.order shell (looks_of m shell) entry path looks'). d.named) d)

done : (base : BaseTree) (m : Machine) (shell : ℕ) (looks looks' : List Look) (events : List Event) → shell < length m.looks → looks_of m shell ≡ looks → DoesAll base m.order shell looks events looks' → HasDone base m shell looks' events
done base m shell looks looks' [] within is same = record { after = m; run = refl; named = tt; order = refl; count = refl; own = is ∙ same; others = λ k n. refl }
done base m shell looks looks' (e ∷ events) within is (between, does, rest) =
    let m1 : Machine = with_looks m shell between in
    let fits : shell < length m1.looks = (let size : length m1.looks ≡ length m.looks = length-set m.looks shell between in omega (arith, size, within)) in
    let here : looks_of m1 shell ≡ between = get_or-set_same m.looks shell between [] within in
    let later : HasDone base m1 shell looks' events = done base m1 shell between looks' events fits here rest in
    record {
      after = later.after;
      run = (m1, step_of base m shell looks between e is does, later.run);
      named = (names_of base m shell looks between e is does, λ m2 step. subst (λ m. NamesAll base m events) (step_same base m m1 m2 e (step_of base m shell looks between e is does) step) later.named);
      order = later.order;
      count = later.count ∙ length-set m.looks shell between;
      own = later.own;
      others = λ k n. later.others k n ∙ get_or-set_other m.looks shell k between [] n;
    }

-- ---- conflicts

-- the conflicts of a shell among some events and then others
conflicts_app : (k txn : ℕ) (a b : List Event) → conflicts_of k txn (a ++ b) ≡ conflicts_of k txn a ++ conflicts_of k (txn + settled_by k a) b
conflicts_app k txn [] b = ap (λ n. conflicts_of k n b) (let e : txn ≡ txn + settled_by k [] = omega arith in e)
conflicts_app k txn (event.Look shell path position ∷ a) b =
    conflicts_app k txn a b ∙ ap (λ n. conflicts_of k txn a ++ conflicts_of k n b) (let c = settled_cons k (event.Look shell path position) a in let e : txn + settled_by k a ≡ txn + settled_by k (event.Look shell path position ∷ a) = omega (arith, c) in e)
conflicts_app k txn (event.Settled shell entry ∷ a) b = by (λ n. conflicts_app k n a b) (nat_eq shell k) refl
  where
    by : ((n : ℕ) → conflicts_of k n (a ++ b) ≡ conflicts_of k n a ++ conflicts_of k (n + settled_by k a) b) → (c : Bool) → nat_eq shell k ≡ c → conflicts_of k (cond (nat_eq shell k) (suc txn) txn) (a ++ b) ≡ conflicts_of k (cond (nat_eq shell k) (suc txn) txn) a ++ conflicts_of k (txn + settled_by k (event.Settled shell entry ∷ a)) b
    by rest true e =
        let count : settled_by k (event.Settled shell entry ∷ a) ≡ 1 + settled_by k a = settled_cons k (event.Settled shell entry) a ∙ ap (λ c. cond c 1 0 + settled_by k a) e in
        let more : suc txn + settled_by k a ≡ txn + settled_by k (event.Settled shell entry ∷ a) = omega (arith, count) in
        subst (λ c. conflicts_of k (cond c (suc txn) txn) (a ++ b) ≡ conflicts_of k (cond c (suc txn) txn) a ++ conflicts_of k (txn + settled_by k (event.Settled shell entry ∷ a)) b) (sym e)
        (rest (suc txn) ∙ ap (λ n. conflicts_of k (suc txn) a ++ conflicts_of k n b) more)
    by rest false e =
        let count : settled_by k (event.Settled shell entry ∷ a) ≡ 0 + settled_by k a = settled_cons k (event.Settled shell entry) a ∙ ap (λ c. cond c 1 0 + settled_by k a) e in
        let more : txn + settled_by k a ≡ txn + settled_by k (event.Settled shell entry ∷ a) = omega (arith, count) in
        subst (λ c. conflicts_of k (cond c (suc txn) txn) (a ++ b) ≡ conflicts_of k (cond c (suc txn) txn) a ++ conflicts_of k (txn + settled_by k (event.Settled shell entry ∷ a)) b) (sym e)
        (rest txn ∙ ap (λ n. conflicts_of k txn a ++ conflicts_of k n b) more)
conflicts_app k txn (event.Conflict shell entry path ∷ a) b =
    let same : conflicts_of k txn (a ++ b) ≡ conflicts_of k txn a ++ conflicts_of k (txn + settled_by k (event.Conflict shell entry path ∷ a)) b =
    conflicts_app k txn a b ∙ ap (λ n. conflicts_of k txn a ++ conflicts_of k n b) (let c = settled_cons k (event.Conflict shell entry path) a in let e : txn + settled_by k a ≡ txn + settled_by k (event.Conflict shell entry path ∷ a) = omega (arith, c) in e) in
    by (nat_eq shell k) same
  where
    by : (c : Bool) → conflicts_of k txn (a ++ b) ≡ conflicts_of k txn a ++ conflicts_of k (txn + settled_by k (event.Conflict shell entry path ∷ a)) b
        → cond c (record { shell = shell; txn = txn; entry = entry; path = path } ∷ conflicts_of k txn (a ++ b)) (conflicts_of k txn (a ++ b)) ≡ cond c (record { shell = shell; txn = txn; entry = entry; path = path } ∷ conflicts_of k txn a) (conflicts_of k txn a) ++ conflicts_of k (txn + settled_by k (event.Conflict shell entry path ∷ a)) b
    by true same = ap (λ rs. record { shell = shell; txn = txn; entry = entry; path = path } ∷ rs) same
    by false same = same

-- no conflict of another shell
none_of_others : (base : BaseTree) (o : List Turn) (shell k txn : ℕ) (looks looks' : List Look) (events : List Event) → shell ≢ k → DoesAll base o shell looks events looks' → conflicts_of k txn events ≡ []
none_of_others base o shell k txn looks looks' [] n d = refl
none_of_others base o shell k txn looks looks' (event.Look s path position ∷ events) n d = none_of_others base o shell k txn d.0 looks' events n d.2
none_of_others base o shell k txn looks looks' (event.Settled s entry ∷ events) n d = absurd d.1
none_of_others base o shell k txn looks looks' (event.Conflict s entry path ∷ events) n d =
    let off : nat_eq s k ≡ false = ne_eqb s k (λ e. n (sym d.1.0 ∙ e)) in
    ap (λ c. cond c (record { shell = s; txn = txn; entry = entry; path = path } ∷ conflicts_of k txn events) (conflicts_of k txn events)) off ∙ none_of_others base o shell k txn d.0 looks' events n d.2

-- another shell is one of the first as before, where these are one more
same_test : (k count : ℕ) → k ≢ count → nat_lt k count ≡ nat_lt k (suc count)
same_test k count n = ⊎_elim
    (λ (h : k < count). (let a : nat_lt k count ≡ true = grind (arith, nat_tests) in let b : nat_lt k (suc count) ≡ true = grind (arith, nat_tests) in a ∙ sym b))
    (λ (h : count ≤ k). (let l : count < k = ⊎_elim (λ (l : count < k). l) (λ (g : k ≤ count). absurd (n (omega (arith, g, h)))) (cases_lt count k) in let a : nat_lt k count ≡ false = grind (arith, nat_tests) in let b : nat_lt k (suc count) ≡ false = grind (arith, nat_tests) in a ∙ sym b)) (cases_lt k count)

-- ---- all shells

-- a run of the machine to the order, in which each conflict names the least path that was changed and the last entry that changed it,
-- and whose conflicts are these retries of each shell
pub record HasRun (base : BaseTree) (o : List Turn) (retries : ℕ → List Retry) : Type 0 where
  pub events : List Event
  pub run : Run base (resting base []) events (resting base o)
  pub named : NameConflicts base (resting base []) events
  pub conflicts : (shell : ℕ) → shell < length base.plan → conflicts_of shell 0 events ≡ retries shell

module _ (base : BaseTree) (o : List Turn) (retries : ℕ → List Retry) (diary : (shell : ℕ) → Diary base o shell (length o) [] (retries shell)) (planned : (time : ℕ) (turn : Turn) → slice_get o time ≡ Some turn → turn.0 < length base.plan) where
  -- what is retried before a time, and at it where the shell is one of the first
  abbrev so_far : ℕ → ℕ → ℕ → List Retry
  so_far k time count = flat_map (retries_at o k (diary k).events) (first_numbers time) ++ cond (nat_lt k count) (retries_at o k (diary k).events time) []

  -- a run to a time: of the first shells, so many, what they do then is done
  record Reach (time count : ℕ) : Type 0 where
    events : List Event
    m : Machine
    run : Run base (resting base []) events m
    named : NamesAll base (resting base []) events
    order : m.order ≡ take time o
    shells : length m.looks ≡ length base.plan
    past : (k : ℕ) → k < count → k < length base.plan → looks_of m k ≡ (diary k).behind time
    left : (k : ℕ) → count ≤ k → k < length base.plan → looks_of m k ≡ (diary k).before time
    told : (k : ℕ) → k < length base.plan → conflicts_of k 0 events ≡ so_far k time count

  before_this : (k count : ℕ) → k < suc count → k ≢ count → k < count
  before_this k count l n = ⊎_elim (λ (h : k < count). h) (λ (h : count ≤ k). absurd (n (omega (arith, h, l)))) (cases_lt k count)

  number_now : (time count : ℕ) (r : Reach time count) (k : ℕ) → 0 + settled_by k r.events ≡ next_number (take time o) k
  number_now time count r k =
      let counts : next_number r.m.order k ≡ 0 + settled_by k r.events = next_counts base (resting base []) r.events r.m k r.run in
      sym counts ∙ ap (λ o. next_number o k) r.order

  -- one shell more has done what it does at the time
  one_shell : (time count : ℕ) → time ≤ length o → count < length base.plan → Reach time count → Reach time (suc count)
  one_shell time count early within r =
      let t : Diary base o count (length o) [] (retries count) = diary count in
      let all : DoesAll base (take time o) count (t.before time) (t.events time) (t.behind time) = t.does time early in
      let does : DoesAll base r.m.order count (t.before time) (t.events time) (t.behind time) = subst (λ o. DoesAll base o count (t.before time) (t.events time) (t.behind time)) (sym r.order) all in
      let fits : count < length r.m.looks = (let size = r.shells in omega (arith, size, within)) in
      let d : HasDone base r.m count (t.behind time) (t.events time) = done base r.m count (t.before time) (t.behind time) (t.events time) fits (r.left count (omega arith) within) does in
      record {
        events = r.events ++ t.events time;
        m = d.after;
        run = runs_on base (resting base []) r.events r.m (t.events time) d.after r.run d.run;
        named = name_on base (resting base []) r.events (t.events time) r.named (λ m2 ran. subst (λ m. NamesAll base m (t.events time)) (run_same base (resting base []) r.m m2 r.events r.run ran) d.named);
        order = d.order ∙ r.order;
        shells = d.count ∙ r.shells;
        past = λ k l h. ⊎_elim
            (λ (e : k ≡ count). subst (λ k. looks_of d.after k ≡ (diary k).behind time) (sym e) d.own)
            (λ (n : k ≢ count). d.others k n ∙ r.past k (before_this k count l n) h) (cases_eq k count);
        left = λ k l h. (let n : k ≢ count = λ e. omega (arith, e, l) in d.others k n ∙ r.left k (omega (arith, l)) h);
        told = λ k h. conflicts_app k 0 r.events (t.events time) ∙ ap (λ n. conflicts_of k 0 r.events ++ conflicts_of k n (t.events time)) (number_now time count r k) ∙ ⊎_elim
            (λ (e : k ≡ count). subst (λ k. conflicts_of k 0 r.events ++ conflicts_of k (next_number (take time o) k) (t.events time) ≡ so_far k time (suc count)) (sym e) (mine (r.told count within)))
            (λ (n : k ≢ count). other k n (none_of_others base (take time o) count k (next_number (take time o) k) (t.before time) (t.behind time) (t.events time) (λ e. n (sym e)) all) (r.told k h)) (cases_eq k count);
      }
    where
      mine : conflicts_of count 0 r.events ≡ so_far count time count → conflicts_of count 0 r.events ++ conflicts_of count (next_number (take time o) count) ((diary count).events time) ≡ so_far count time (suc count)
      mine told =
          let front : List Retry = flat_map (retries_at o count (diary count).events) (first_numbers time) in
          let here : List Retry = retries_at o count (diary count).events time in
          let no : nat_lt count count ≡ false = grind (arith, nat_tests) in
          let yes : nat_lt count (suc count) ≡ true = grind (arith, nat_tests) in
          let told_front : conflicts_of count 0 r.events ≡ front = told ∙ ap (λ c. front ++ cond c here []) no ∙ append-nil front in
          ap (λ rs. rs ++ here) told_front ∙ ap (λ c. front ++ cond c here []) (sym yes)

      other : (k : ℕ) → k ≢ count → conflicts_of k (next_number (take time o) k) ((diary count).events time) ≡ [] → conflicts_of k 0 r.events ≡ so_far k time count → conflicts_of k 0 r.events ++ conflicts_of k (next_number (take time o) k) ((diary count).events time) ≡ so_far k time (suc count)
      other k n none told =
          let front : List Retry = flat_map (retries_at o k (diary k).events) (first_numbers time) in
          let here : List Retry = retries_at o k (diary k).events time in
          let same : nat_lt k count ≡ nat_lt k (suc count) = same_test k count n in
          ap (λ rs. conflicts_of k 0 r.events ++ rs) none ∙ append-nil (conflicts_of k 0 r.events) ∙ told ∙ ap (λ c. front ++ cond c here []) same

  all_shells : (time count : ℕ) → time ≤ length o → count ≤ length base.plan → Reach time 0 → Reach time count
  all_shells time zero early within r = r
  all_shells time (suc count) early within r = one_shell time count early (omega (arith, within)) (all_shells time count early (omega (arith, within)) r)

  -- what was told before a time and at it, of a shell of the plan
  told_at : (k time : ℕ) → k < length base.plan → so_far k time (length base.plan) ≡ flat_map (retries_at o k (diary k).events) (first_numbers (suc time))
  told_at k time h =
      let front : List Retry = flat_map (retries_at o k (diary k).events) (first_numbers time) in
      let here : List Retry = retries_at o k (diary k).events time in
      let yes : nat_lt k (length base.plan) ≡ true = grind (arith, nat_tests) in
      ap (λ c. front ++ cond c here []) yes ∙ ap (λ rs. front ++ rs) (sym (append-nil here)) ∙ sym (flat_map-append (retries_at o k (diary k).events) (first_numbers time) (time ∷ []))

  -- the settle of an entry
  an_entry : (time : ℕ) (turn : Turn) → slice_get o time ≡ Some turn → Reach time (length base.plan) → Reach (suc time) 0
  an_entry time turn is r =
      let m : Machine = r.m in
      let shell : ℕ = turn.0 in
      let t : Diary base o shell (length o) [] (retries shell) = diary shell in
      let early : time < length o = some_early o time turn is in
      let h = t.settles time turn early is refl in
      let within : shell < length base.plan = planned time turn is in
      let looks : looks_of m shell ≡ t.behind time = r.past shell within within in
      let may : MaySettle base m.order shell (looks_of m shell) = subst (λ l. MaySettle base m.order shell l) (sym looks) (subst (λ o. MaySettle base o shell (t.behind time)) (sym r.order) h.0) in
      let m1 : Machine = record { order = m.order ++ (shell, next_number m.order shell) ∷ []; looks = set m.looks shell [] } in
      let size : length m.order ≡ time = ap length r.order ∙ length_take o time early in
      let fits : shell < length m.looks = (let s = r.shells in omega (arith, s, within)) in
      let same : (shell, next_number m.order shell) ≡ turn = ap (λ o. (shell, next_number o shell)) r.order ∙ ap (λ n. (shell, n)) (sym h.1) in
      let settle : Run base m (event.Settled shell time ∷ []) m1 = (m1, record { txn = may.txn; next = may.next; ready = may.ready; fresh = may.fresh; now = sym size; after = refl }, refl) in
      record {
        events = r.events ++ event.Settled shell time ∷ [];
        m = m1;
        run = runs_on base (resting base []) r.events m (event.Settled shell time ∷ []) m1 r.run settle;
        named = name_on base (resting base []) r.events (event.Settled shell time ∷ []) r.named (λ m2 ran. (tt, λ m3 step. tt));
        order = ap (λ o. o ++ (shell, next_number m.order shell) ∷ []) r.order ∙ ap (λ x. take time o ++ x ∷ []) same ∙ sym (take_one_more o time turn is);
        shells = length-set m.looks shell [] ∙ r.shells;
        past = λ k l h. absurd (omega (arith, l));
        left = λ k l w. ⊎_elim
            (λ (e : k ≡ shell). subst (λ k. looks_of m1 k ≡ (diary k).before (suc time)) (sym e) (get_or-set_same m.looks shell [] [] fits ∙ sym h.2))
            (λ (n : k ≢ shell). get_or-set_other m.looks shell k [] [] n ∙ r.past k w w ∙ sym ((diary k).waits time turn early is (λ e. n (sym e)))) (cases_eq k shell);
        told = λ k w. conflicts_app k 0 r.events (event.Settled shell time ∷ []) ∙ append-nil (conflicts_of k 0 r.events) ∙ r.told k w ∙ told_at k time w ∙ sym (nothing_yet k (suc time));
      }
    where
      some_early : (o : List Turn) (time : ℕ) (turn : Turn) → slice_get o time ≡ Some turn → time < length o
      some_early [] time turn is = absurd (none-some turn is)
      some_early (x ∷ o) zero turn is = omega arith
      some_early (x ∷ o) (suc time) turn is = (let rest = some_early o time turn is in omega (arith, rest))

      length_take : (o : List Turn) (time : ℕ) → time < length o → length (take time o) ≡ time
      length_take o time h = omega (arith, h, length-take time o)

      take_one_more : (o : List Turn) (time : ℕ) (turn : Turn) → slice_get o time ≡ Some turn → take (suc time) o ≡ take time o ++ turn ∷ []
      take_one_more [] time turn is = absurd (none-some turn is)
      take_one_more (x ∷ o) zero turn is = ap (λ y. y ∷ []) (same_Some x turn is)
      take_one_more (x ∷ o) (suc time) turn is = ap (λ l. x ∷ l) (take_one_more o time turn is)

      nothing_yet : (k time : ℕ) → so_far k time 0 ≡ flat_map (retries_at o k (diary k).events) (first_numbers time)
      nothing_yet k time =
          let front : List Retry = flat_map (retries_at o k (diary k).events) (first_numbers time) in
          let no : nat_lt k 0 ≡ false = grind (arith, nat_tests) in
          ap (λ c. front ++ cond c (retries_at o k (diary k).events time) []) no ∙ append-nil front

  -- a run to a time, before anything is done then
  comes_to : (time : ℕ) → time ≤ length o → Reach time 0
  comes_to zero early = record {
    events = [];
    m = resting base [];
    run = refl;
    named = tt;
    order = refl;
    shells = length-replicate (length base.plan) [];
    past = λ k l h. absurd (omega (arith, l));
    left = λ k l h. none_looked (length base.plan) k ∙ sym (diary k).starts;
    told = λ k h. (let no : nat_lt k 0 ≡ false = grind (arith, nat_tests) in ap (λ c. cond c (retries_at o k (diary k).events 0) []) (sym no));
  }
  comes_to (suc time) early =
      let turn = some_at o time early in
      an_entry time turn.0 turn.1 (all_shells time (length base.plan) (omega (arith, early)) (omega arith) (comes_to time (omega (arith, early))))

  -- all is done, and nothing is looked at any more
  rests : (r : Reach (length o) (length base.plan)) → r.m ≡ resting base o
  rests r =
      let m : Machine = r.m in
      let empty : m.looks ≡ replicate (length base.plan) [] = ext_get_or [] m.looks (replicate (length base.plan) []) (r.shells ∙ sym (length-replicate (length base.plan) []))
      (λ k h. (let w : k < length base.plan = (let s = r.shells in omega (arith, h, s)) in r.past k w w ∙ (diary k).now ∙ sym (none_looked (length base.plan) k))) in
      let with_order : List Turn → Machine = λ order. record { order = order; looks = m.looks } in
      let with_all : List (List Look) → Machine = λ looks. record { order = o; looks = looks } in
      ap with_order (r.order ∙ take_all (length o) o (omega arith)) ∙ ap with_all empty

  pub merged : HasRun base o retries
  merged =
      let r : Reach (length o) (length base.plan) = all_shells (length o) (length base.plan) (omega arith) (omega arith) (comes_to (length o) (omega arith)) in
      record { events = r.events; run = subst (λ m. Run base (resting base []) r.events m) (rests r) r.run; named = name_conflicts base (resting base []) r.events r.named; conflicts = λ k h. r.told k h ∙ told_at k (length o) h ∙ (diary k).noted }
