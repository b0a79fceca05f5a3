-- What the events of a run say of the machine after them: how many transactions each shell has settled, and its conflicts.
use Rattle.std.proofs.Common.{◌≡◌, ℕ, suc, ◌+◌, ◌<◌, Bool, true, false, cond, nat_eq, List, [], ◌∷◌, ◌++◌, length, get_or, set, refl, sym, ap, subst, ◌∙◌, arith}
use Rattle.std.proofs.lemmas.Bool.{eqb-true, eqb-false}
use Rattle.std.proofs.lemmas.List.{append-nil, get_or-set_same, get_or-set_other}
use Rattle.std.proofs.lemmas.List.Sums.{sum_by-append}
use Rattle.fx_machine.specs.declared.event.Event.{Event}
use Rattle.fx_machine.specs.declared.event.Event.TheVariants as event
use Rattle.fx_machine.specs.declared.retry.Retry.{Retry}
use Rattle.fx_machine.specs.Machine.{shell_of}
use Rattle.fx_machine.specs.Tried.{conflicts_of}
use Rattle.fx_machine.specs.Turns.{is_settled_by}
use Rattle.fx_machine.proofs.Turning.{settled_by, settled_cons}
use Rattle.fx_sched.specs.World.{noted}

-- ---- conflicts

conflicts_more : (k n : ℕ) (events : List Event) (e : Event) → conflicts_of k n (events ++ e ∷ []) ≡ conflicts_of k n events ++ conflicts_of k (n + settled_by k events) (e ∷ [])
conflicts_more k n [] e = let same : n ≡ n + settled_by k [] = omega arith in ap (λ n. conflicts_of k n (e ∷ [])) same
conflicts_more k n (event.Look shell path position ∷ events) e =
    let same : n + settled_by k events ≡ n + settled_by k (event.Look shell path position ∷ events) = omega (arith, settled_cons k (event.Look shell path position) events) in
    conflicts_more k n events e ∙ ap (λ n'. conflicts_of k n events ++ conflicts_of k n' (e ∷ [])) same
conflicts_more k n (event.Settled shell entry ∷ events) e = by (nat_eq shell k) (settled_cons k (event.Settled shell entry) events) (λ n. conflicts_more k n events e)
  where
    by : (b : Bool) → settled_by k (event.Settled shell entry ∷ events) ≡ cond b 1 0 + settled_by k events
        → ((n : ℕ) → conflicts_of k n (events ++ e ∷ []) ≡ conflicts_of k n events ++ conflicts_of k (n + settled_by k events) (e ∷ []))
        → conflicts_of k (cond b (suc n) n) (events ++ e ∷ []) ≡ conflicts_of k (cond b (suc n) n) events ++ conflicts_of k (n + settled_by k (event.Settled shell entry ∷ events)) (e ∷ [])
    by true c rest =
        let same : suc n + settled_by k events ≡ n + settled_by k (event.Settled shell entry ∷ events) = omega (arith, c) in
        rest (suc n) ∙ ap (λ n'. conflicts_of k (suc n) events ++ conflicts_of k n' (e ∷ [])) same
    by false c rest =
        let same : n + settled_by k events ≡ n + settled_by k (event.Settled shell entry ∷ events) = omega (arith, c) in
        rest n ∙ ap (λ n'. conflicts_of k n events ++ conflicts_of k n' (e ∷ [])) same
conflicts_more k n (event.Conflict shell entry path ∷ events) e = by (nat_eq shell k) (conflicts_more k n events e)
  where
    same : n + settled_by k events ≡ n + settled_by k (event.Conflict shell entry path ∷ events)
    same = omega (arith, settled_cons k (event.Conflict shell entry path) events)

    by : (b : Bool) → conflicts_of k n (events ++ e ∷ []) ≡ conflicts_of k n events ++ conflicts_of k (n + settled_by k events) (e ∷ [])
        → cond b ((let retry : Retry = record { shell = shell; txn = n; entry = entry; path = path } in retry) ∷ conflicts_of k n (events ++ e ∷ [])) (conflicts_of k n (events ++ e ∷ []))
        ≡ cond b ((let retry : Retry = record { shell = shell; txn = n; entry = entry; path = path } in retry) ∷ conflicts_of k n events) (conflicts_of k n events) ++ conflicts_of k (n + settled_by k (event.Conflict shell entry path ∷ events)) (e ∷ [])
    by true rest = ap (λ rs. (let retry : Retry = record { shell = shell; txn = n; entry = entry; path = path } in retry) ∷ rs) (rest ∙ ap (λ n'. conflicts_of k n events ++ conflicts_of k n' (e ∷ [])) same)
    by false rest = rest ∙ ap (λ n'. conflicts_of k n events ++ conflicts_of k n' (e ∷ [])) same

abbrev pub a_retry : ℕ → ℕ → List (List ℕ) → ℕ → Retry
a_retry shell entry path txn = record { shell = shell; txn = txn; entry = entry; path = path }

-- the retries of a shell with those of one more event are its conflicts
pub noted_conflicts : (lists : List (List Retry)) (events : List Event) (e : Event) (txn k : ℕ) → k < length lists → txn ≡ settled_by (shell_of e) (events ++ e ∷ []) → get_or lists k [] ≡ conflicts_of k 0 events → get_or (noted txn lists e) k [] ≡ conflicts_of k 0 (events ++ e ∷ [])
noted_conflicts lists events (event.Look shell path position) txn k within count before =
    before ∙ sym (append-nil (conflicts_of k 0 events)) ∙ sym (conflicts_more k 0 events (event.Look shell path position))
noted_conflicts lists events (event.Settled shell entry) txn k within count before =
    before ∙ sym (append-nil (conflicts_of k 0 events)) ∙ sym (conflicts_more k 0 events (event.Settled shell entry))
noted_conflicts lists events (event.Conflict shell entry path) txn k within count before =
    by (nat_eq shell k) refl ∙ sym (conflicts_more k 0 events (event.Conflict shell entry path))
  where
    by : (b : Bool) → nat_eq shell k ≡ b → get_or (noted txn lists (event.Conflict shell entry path)) k [] ≡ conflicts_of k 0 events ++ conflicts_of k (0 + settled_by k events) (event.Conflict shell entry path ∷ [])
    by true e =
        let same : shell ≡ k = eqb-true shell k e in
        let settled : txn ≡ 0 + settled_by k events =
        (let both : settled_by k (events ++ event.Conflict shell entry path ∷ []) ≡ settled_by k events + settled_by k (event.Conflict shell entry path ∷ []) = sum_by-append (λ e. cond (is_settled_by k e) 1 0) events (event.Conflict shell entry path ∷ []) in
        let own : txn ≡ settled_by k (events ++ event.Conflict shell entry path ∷ []) = subst (λ j. txn ≡ settled_by j (events ++ event.Conflict shell entry path ∷ [])) same count in
        omega (arith, both, own, settled_cons k (event.Conflict shell entry path) [])) in
        ap (λ j. get_or (set lists j (get_or lists j [] ++ a_retry shell entry path txn ∷ [])) k []) same ∙ get_or-set_same lists k (get_or lists k [] ++ a_retry shell entry path txn ∷ []) [] within ∙ ap (λ l. l ++ a_retry shell entry path txn ∷ []) before
        ∙ ap (λ n. conflicts_of k 0 events ++ a_retry shell entry path n ∷ []) settled ∙ ap (λ b. conflicts_of k 0 events ++ cond b (a_retry shell entry path (0 + settled_by k events) ∷ []) []) (sym e)
    by false e =
        get_or-set_other lists shell k (get_or lists shell [] ++ a_retry shell entry path txn ∷ []) [] (λ h. eqb-false shell k e (sym h)) ∙ before ∙ sym (append-nil (conflicts_of k 0 events))
        ∙ ap (λ b. conflicts_of k 0 events ++ cond b (a_retry shell entry path (0 + settled_by k events) ∷ []) []) (sym e)
