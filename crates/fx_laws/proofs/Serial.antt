-- A shell that settles has looked at the last state.
use Rattle.std.proofs.Common.{◌≡◌, ℕ, ◌+◌, ◌-◌, ◌<◌, ◌≤◌, ap, sym, ◌∙◌, List, length, arith, ⊎_elim}
use Rattle.std.proofs.Math.Seq.{take-length}
use Rattle.std.proofs.lemmas.Bool.{cases_lt}
use Rattle.std.proofs.lemmas.List.{take_all}
use Rattle.std.specs.FinMap.{get}
use Rattle.fx_spec.specs.Plans.{Turn}
use Rattle.fx_spec.specs.Order.{BaseTree, state, after_all}
use Rattle.fx_spec.proofs.Transactions.{states_are_whole}
use Rattle.fx_machine.specs.Machine.{Look, AgreesAt, IsFresh, looks_of}
use Rattle.fx_machine.proofs.Stays.{stays_through}
use Rattle.fx_laws.specs.Serial.{SettledSawTheState}

-- past its end an order has its last state
past_end : (base : BaseTree) (o : List Turn) (i : ℕ) → length o ≤ i → state base o i ≡ state base o (length o)
unfolding state
past_end base o i le = ap (after_all base base.loaded) (take_all i o le ∙ sym (take-length o))

found : (base : BaseTree) (o : List Turn) (looks : List Look) → IsFresh base o looks → AgreesAt base o looks (get (state base o (length o)))
found base o looks fresh path i e = ⊎_elim
    (λ (h : i < length o).
    let all : i + (length o - i) ≡ length o = omega (arith, h) in
    sym (stays_through base o path i (length o - i) (λ entry le lt changes. fresh entry path (i, e, le, omega (arith, lt, all), changes)) ∙ ap (λ n. get (state base o n) path) all))
    (λ (h : length o ≤ i). sym (ap (λ nodes. get nodes path) (past_end base o i h)))
    (cases_lt i (length o))

pub settled_saw_the_state : SettledSawTheState
settled_saw_the_state base whole m m' shell entry s =
    let agrees : AgreesAt base m.order (looks_of m shell) (get (state base m.order (length m.order))) = found base m.order (looks_of m shell) s.fresh in
    record { found = agrees; all = s.ready (state base m.order (length m.order)) (states_are_whole base whole m.order (length m.order)) agrees }
