-- A diary grows at its end.
use Rattle.std.proofs.Common.{true, Bool, false, cond, nat_eq, ◌≡◌, ◌≢◌, ⊎_elim, ℕ, zero, suc, ◌<◌, ◌≤◌, List, [], ◌∷◌, ◌++◌, length, take, slice_get, Some, refl, sym, ap, subst, ◌∙◌, arith, append_assoc}
use Rattle.std.specs.List.{flat_map}
use Rattle.std.proofs.lemmas.Bool.{cases_lt, cases_eq, ne_eqb}
use Rattle.std.proofs.lemmas.Bool.Decides.{nat_tests}
use Rattle.std.proofs.lemmas.List.{append-nil, take-append-le}
use Rattle.std.proofs.lemmas.List.Concat.{flat_map-append}
use Rattle.std.proofs.lemmas.Option.{same_Some}
use Rattle.fx_spec.specs.Plans.{Turn}
use Rattle.fx_spec.specs.Order.{BaseTree, first_numbers}
use Rattle.fx_machine.specs.declared.event.Event.{Event}
use Rattle.fx_machine.specs.declared.event.Event.TheVariants as event
use Rattle.fx_machine.specs.declared.retry.Retry.{Retry}
use Rattle.fx_machine.specs.Machine.{Look, next_number}
use Rattle.fx_machine.specs.Tried.{conflicts_of}
use Rattle.fx_diaries.specs.Diaries.{DoesInShell, DoesAll, MaySettle, Diary, retries_at, retries_to}
use Rattle.fx_diaries.specs.Laws.{EmptyDiary, GrowsByEvent, GrowsByOther, GrowsByOwn, GrowsBySeen, DiariesGrow}

-- ---- a function with another value at one number

abbrev pub put : {A : Type 0} → (ℕ → A) → ℕ → A → ℕ → A
put f n x t = cond (nat_eq t n) x (f t)

pub put_same : {A : Type 0} (f : ℕ → A) (n : ℕ) (x : A) → put f n x n ≡ x
put_same f n x = ap (λ c. cond c x (f n)) (let e : nat_eq n n ≡ true = grind (arith, nat_tests) in e)

pub put_other : {A : Type 0} (f : ℕ → A) (n : ℕ) (x : A) (t : ℕ) → t ≢ n → put f n x t ≡ f t
put_other f n x t ne = ap (λ c. cond c x (f t)) (ne_eqb t n ne)

-- ---- lists of lists, number by number

pub flat_last : (f : ℕ → List Retry) (n : ℕ) → flat_map f (first_numbers (suc n)) ≡ flat_map f (first_numbers n) ++ f n
flat_last f n = flat_map-append f (first_numbers n) (n ∷ []) ∙ ap (λ rs. flat_map f (first_numbers n) ++ rs) (append-nil (f n))

-- ---- retries, time by time

retries_last : (o : List Turn) (shell : ℕ) (events : ℕ → List Event) (time : ℕ) → retries_to o shell events time ≡ flat_map (retries_at o shell events) (first_numbers time) ++ retries_at o shell events time
retries_last o shell events time = flat_last (retries_at o shell events) time

pub flat_same : (f g : ℕ → List Retry) (n : ℕ) → ((t : ℕ) → t < n → f t ≡ g t) → flat_map f (first_numbers n) ≡ flat_map g (first_numbers n)
flat_same f g zero same = refl
flat_same f g (suc n) same =
    flat_last f n ∙ ap (λ rs. rs ++ f n) (flat_same f g n (λ t h. same t (omega (arith, h)))) ∙ ap (λ rs. flat_map g (first_numbers n) ++ rs) (same n (omega arith)) ∙ sym (flat_last g n)

-- the conflicts among some events and one more
conflicts_more : (base : BaseTree) (o : List Turn) (shell n : ℕ) (looks looks' : List Look) (events : List Event) (e : Event) → DoesAll base o shell looks events looks' → conflicts_of shell n (events ++ e ∷ []) ≡ conflicts_of shell n events ++ conflicts_of shell n (e ∷ [])
conflicts_more base o shell n looks looks' [] e d = refl
conflicts_more base o shell n looks looks' (event.Look k path position ∷ events) e d = conflicts_more base o shell n d.0 looks' events e d.2
conflicts_more base o shell n looks looks' (event.Settled k entry ∷ events) e d = absurd d.1
conflicts_more base o shell n looks looks' (event.Conflict k entry path ∷ events) e d = by (nat_eq k shell) (conflicts_more base o shell n d.0 looks' events e d.2)
  where
    by : (b : Bool) → conflicts_of shell n (events ++ e ∷ []) ≡ conflicts_of shell n events ++ conflicts_of shell n (e ∷ [])
        → cond b (record { shell = k; txn = n; entry = entry; path = path } ∷ conflicts_of shell n (events ++ e ∷ [])) (conflicts_of shell n (events ++ e ∷ []))
        ≡ cond b (record { shell = k; txn = n; entry = entry; path = path } ∷ conflicts_of shell n events) (conflicts_of shell n events) ++ conflicts_of shell n (e ∷ [])
    by true same = ap (λ rs. record { shell = k; txn = n; entry = entry; path = path } ∷ rs) same
    by false same = same

-- ---- the steps

does_more : (base : BaseTree) (o : List Turn) (shell : ℕ) (a b c : List Look) (events : List Event) (e : Event) → DoesAll base o shell a events b → DoesInShell base o shell b e c → DoesAll base o shell a (events ++ e ∷ []) c
does_more base o shell a b c [] e same does = (c, subst (λ l. DoesInShell base o shell l e c) (sym same) does, refl)
does_more base o shell a b c (x ∷ events) e (between, first, rest) does = (between, first, does_more base o shell between b c events e rest does)

pub empty : EmptyDiary
empty base o shell = record {
  events = λ t. [];
  before = λ t. [];
  behind = λ t. [];
  starts = refl;
  does = λ t h. refl;
  settles = λ t turn h at same. absurd (omega (arith, h));
  waits = λ t turn h at other. absurd (omega (arith, h));
  now = refl;
  noted = refl;
}

pub by_event : GrowsByEvent
by_event base o shell time looks looks' retries e d does = record {
  events = events';
  before = d.before;
  behind = behind';
  starts = d.starts;
  does = λ t h. ⊎_elim
      (λ (same : t ≡ time). subst (λ t. DoesAll base (take t o) shell (d.before t) (events' t) (behind' t)) (sym same) here)
      (λ (n : t ≢ time). subst (λ es. DoesAll base (take t o) shell (d.before t) es (behind' t)) (sym (put_other d.events time (d.events time ++ e ∷ []) t n))
      (subst (λ l. DoesAll base (take t o) shell (d.before t) (d.events t) l) (sym (put_other d.behind time looks' t n)) (d.does t h))) (cases_eq t time);
  settles = λ t turn h at same. (let n : t ≢ time = λ is. omega (arith, is, h) in let was = d.settles t turn h at same in
      (subst (λ l. MaySettle base (take t o) shell l) (sym (put_other d.behind time looks' t n)) was.0, was.1, was.2));
  waits = λ t turn h at other. (let n : t ≢ time = λ is. omega (arith, is, h) in d.waits t turn h at other ∙ sym (put_other d.behind time looks' t n));
  now = put_same d.behind time looks';
  noted = all_noted;
}
  where
    events' : ℕ → List Event
    events' = put d.events time (d.events time ++ e ∷ [])

    behind' : ℕ → List Look
    behind' = put d.behind time looks'

    until : DoesAll base (take time o) shell (d.before time) (d.events time) looks
    until = subst (λ l. DoesAll base (take time o) shell (d.before time) (d.events time) l) d.now (d.does time (omega arith))

    here : DoesAll base (take time o) shell (d.before time) (events' time) (behind' time)
    here =
        subst (λ es. DoesAll base (take time o) shell (d.before time) es (behind' time)) (sym (put_same d.events time (d.events time ++ e ∷ [])))
        (subst (λ l. DoesAll base (take time o) shell (d.before time) (d.events time ++ e ∷ []) l) (sym (put_same d.behind time looks'))
        (does_more base (take time o) shell (d.before time) looks looks' (d.events time) e until does))

    all_noted : retries_to o shell events' time ≡ retries ++ conflicts_of shell (next_number (take time o) shell) (e ∷ [])
    all_noted =
        let number : ℕ = next_number (take time o) shell in
        let front : List Retry = flat_map (retries_at o shell d.events) (first_numbers time) in
        let early : flat_map (retries_at o shell events') (first_numbers time) ≡ front =
        flat_same (retries_at o shell events') (retries_at o shell d.events) time (λ t h. ap (λ es. conflicts_of shell (next_number (take t o) shell) es) (put_other d.events time (d.events time ++ e ∷ []) t (λ is. omega (arith, is, h)))) in
        let last : retries_at o shell events' time ≡ conflicts_of shell number (d.events time) ++ conflicts_of shell number (e ∷ []) =
        ap (λ es. conflicts_of shell number es) (put_same d.events time (d.events time ++ e ∷ [])) ∙ conflicts_more base (take time o) shell number (d.before time) looks (d.events time) e until in
        retries_last o shell events' time ∙ ap (λ rs. rs ++ retries_at o shell events' time) early ∙ ap (λ rs. front ++ rs) last
        ∙ sym (append_assoc front (conflicts_of shell number (d.events time)) (conflicts_of shell number (e ∷ [])))
        ∙ ap (λ rs. rs ++ conflicts_of shell number (e ∷ [])) (sym (retries_last o shell d.events time) ∙ d.noted)

-- at the next time there are these looks, and nothing is done yet
next : (base : BaseTree) (o : List Turn) (shell time : ℕ) (looks kept : List Look) (retries : List Retry) (turn : Turn) → Diary base o shell time looks retries → slice_get o time ≡ Some turn
    → (turn.0 ≡ shell → MaySettle base (take time o) shell looks × (turn.1 ≡ next_number (take time o) shell) × (kept ≡ [])) → (turn.0 ≢ shell → kept ≡ looks) → Diary base o shell (suc time) kept retries
next base o shell time looks kept retries turn d is own other = record {
  events = events';
  before = before';
  behind = behind';
  starts = put_other d.before (suc time) kept 0 (λ e. omega (arith, e)) ∙ d.starts;
  does = λ t h. ⊎_elim
      (λ (same : t ≡ suc time). subst (λ t. DoesAll base (take t o) shell (before' t) (events' t) (behind' t)) (sym same) here)
      (λ (n : t ≢ suc time). old t n (d.does t (earlier t h n))) (cases_eq t (suc time));
  settles = λ t turn' h at same. ⊎_elim
      (λ (now : t ≡ time). (let told : Some turn ≡ Some turn' = sym is ∙ ap (λ t. slice_get o t) (sym now) ∙ at in settled t turn' now told same))
      (λ (n : t ≢ time). (let early : t < time = before_now t h n in let was = d.settles t turn' early at same in
      (subst (λ l. MaySettle base (take t o) shell l) (sym (put_other d.behind (suc time) kept t (not_next t h))) was.0, was.1, put_other d.before (suc time) kept (suc t) (not_after t early) ∙ was.2))) (cases_eq t time);
  waits = λ t turn' h at apart. ⊎_elim
      (λ (now : t ≡ time). (let told : Some turn ≡ Some turn' = sym is ∙ ap (λ t. slice_get o t) (sym now) ∙ at in waited t turn' now told apart))
      (λ (n : t ≢ time). (let early : t < time = before_now t h n in put_other d.before (suc time) kept (suc t) (not_after t early) ∙ d.waits t turn' early at apart ∙ sym (put_other d.behind (suc time) kept t (not_next t h)))) (cases_eq t time);
  now = put_same d.behind (suc time) kept;
  noted = all_noted;
}
  where
    events' : ℕ → List Event
    events' = put d.events (suc time) []

    before' : ℕ → List Look
    before' = put d.before (suc time) kept

    behind' : ℕ → List Look
    behind' = put d.behind (suc time) kept

    here : DoesAll base (take (suc time) o) shell (before' (suc time)) (events' (suc time)) (behind' (suc time))
    here = subst (λ es. DoesAll base (take (suc time) o) shell (before' (suc time)) es (behind' (suc time))) (sym (put_same d.events (suc time) [])) (put_same d.before (suc time) kept ∙ sym (put_same d.behind (suc time) kept))

    earlier : (t : ℕ) → t ≤ suc time → t ≢ suc time → t ≤ time
    earlier t h n = ⊎_elim (λ (l : t < suc time). (omega (arith, l))) (λ (g : suc time ≤ t). absurd (n (omega (arith, g, h)))) (cases_lt t (suc time))

    before_now : (t : ℕ) → t < suc time → t ≢ time → t < time
    before_now t h n = ⊎_elim (λ (l : t < time). l) (λ (g : time ≤ t). absurd (n (omega (arith, g, h)))) (cases_lt t time)

    not_next : (t : ℕ) → t < suc time → t ≢ suc time
    not_next t h e = omega (arith, e, h)

    not_after : (t : ℕ) → t < time → suc t ≢ suc time
    not_after t h e = omega (arith, e, h)

    old : (t : ℕ) → t ≢ suc time → DoesAll base (take t o) shell (d.before t) (d.events t) (d.behind t) → DoesAll base (take t o) shell (before' t) (events' t) (behind' t)
    old t n does =
        subst (λ l. DoesAll base (take t o) shell l (events' t) (behind' t)) (sym (put_other d.before (suc time) kept t n))
        (subst (λ es. DoesAll base (take t o) shell (d.before t) es (behind' t)) (sym (put_other d.events (suc time) [] t n))
        (subst (λ l. DoesAll base (take t o) shell (d.before t) (d.events t) l) (sym (put_other d.behind (suc time) kept t n)) does))

    behind_now : behind' time ≡ looks
    behind_now = put_other d.behind (suc time) kept time (λ e. omega (arith, e)) ∙ d.now

    settled : (t : ℕ) (turn' : Turn) → t ≡ time → Some turn ≡ Some turn' → turn'.0 ≡ shell → MaySettle base (take t o) shell (behind' t) × (turn'.1 ≡ next_number (take t o) shell) × (before' (suc t) ≡ [])
    settled t turn' now told same =
        subst (λ t. MaySettle base (take t o) shell (behind' t) × (turn'.1 ≡ next_number (take t o) shell) × (before' (suc t) ≡ [])) (sym now)
        (let turns : turn ≡ turn' = same_Some turn turn' told in let mine = own (ap (λ (x : Turn). x.0) turns ∙ same) in
        (subst (λ l. MaySettle base (take time o) shell l) (sym behind_now) mine.0, ap (λ (x : Turn). x.1) (sym turns) ∙ mine.1, put_same d.before (suc time) kept ∙ mine.2))

    waited : (t : ℕ) (turn' : Turn) → t ≡ time → Some turn ≡ Some turn' → turn'.0 ≢ shell → before' (suc t) ≡ behind' t
    waited t turn' now told apart =
        subst (λ t. before' (suc t) ≡ behind' t) (sym now)
        (let turns : turn ≡ turn' = same_Some turn turn' told in put_same d.before (suc time) kept ∙ other (λ e. apart (ap (λ (x : Turn). x.0) (sym turns) ∙ e)) ∙ sym behind_now)

    all_noted : retries_to o shell events' (suc time) ≡ retries
    all_noted =
        let early : flat_map (retries_at o shell events') (first_numbers (suc time)) ≡ retries_to o shell d.events time =
        flat_same (retries_at o shell events') (retries_at o shell d.events) (suc time) (λ t h. ap (λ es. conflicts_of shell (next_number (take t o) shell) es) (put_other d.events (suc time) [] t (not_next t h))) in
        let last : retries_at o shell events' (suc time) ≡ [] = ap (λ es. conflicts_of shell (next_number (take (suc time) o) shell) es) (put_same d.events (suc time) []) in
        retries_last o shell events' (suc time) ∙ ap (λ rs. flat_map (retries_at o shell events') (first_numbers (suc time)) ++ rs) last ∙ append-nil (flat_map (retries_at o shell events') (first_numbers (suc time))) ∙ early ∙ d.noted

pub by_other : GrowsByOther
by_other base o shell time looks retries turn d is other = next base o shell time looks looks retries turn d is (λ e. absurd (other e)) (λ n. refl)

pub by_own : GrowsByOwn
by_own base o shell time looks retries turn d is own may number = next base o shell time looks [] retries turn d is (λ e. (may, number, refl)) (λ n. absurd (n own))

pub by_seen : GrowsBySeen
by_seen base o more shell time looks retries early d = record {
  events = d.events;
  before = d.before;
  behind = d.behind;
  starts = d.starts;
  does = λ t h. subst (λ o. DoesAll base o shell (d.before t) (d.events t) (d.behind t)) (sym (take-append-le t o more (omega (arith, h, early)))) (d.does t h);
  settles = λ t turn h at own. (let was = d.settles t turn h (front o t (omega (arith, h, early)) ∙ at) own in let same = sym (take-append-le t o more (omega (arith, h, early))) in
      (subst (λ o. MaySettle base o shell (d.behind t)) same was.0, was.1 ∙ ap (λ o. next_number o shell) same, was.2));
  waits = λ t turn h at other. d.waits t turn h (front o t (omega (arith, h, early)) ∙ at) other;
  now = d.now;
  noted = flat_same (retries_at (o ++ more) shell d.events) (retries_at o shell d.events) (suc time) (λ t h. ap (λ o. conflicts_of shell (next_number o shell) (d.events t)) (take-append-le t o more (omega (arith, h, early)))) ∙ d.noted;
}
  where
    front : (o : List Turn) (t : ℕ) → t < length o → slice_get o t ≡ slice_get (o ++ more) t
    front [] t h = absurd (omega (arith, h))
    front (x ∷ o) zero h = refl
    front (x ∷ o) (suc t) h = front o t (omega (arith, h))

pub diaries_grow : DiariesGrow
diaries_grow = record { empty = empty; by_event = by_event; by_other = by_other; by_own = by_own; by_seen = by_seen }
