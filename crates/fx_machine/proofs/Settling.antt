-- After a settle the state is that of the transaction, run whole on the state before it.
use Rattle.std.proofs.Common.{◌≡◌, suc, [], ◌∷◌, ◌++◌, length, ap, ◌∙◌, arith, length-append}
use Rattle.fx_spec.specs.Order.{after_txn, state}
use Rattle.fx_spec.proofs.Orders.{state-next}
use Rattle.fx_machine.specs.Machine.{Machine, next_number}
use Rattle.fx_machine.specs.Laws.{SettlesToNext}

pub settles_to_next : SettlesToNext
settles_to_next base m m' shell entry s =
    let order : m'.order ≡ m.order ++ (shell, next_number m.order shell) ∷ [] = ap (λ (m : Machine). m.order) s.after in
    let longer : length (m.order ++ (shell, next_number m.order shell) ∷ []) ≡ suc (length m.order) = omega (arith, length-append m.order ((shell, next_number m.order shell) ∷ [])) in
    ap (λ o. state base o (length o)) order ∙ ap (state base (m.order ++ (shell, next_number m.order shell) ∷ [])) longer
    ∙ state-next base m.order (shell, next_number m.order shell) ∙ ap (after_txn base.description (state base m.order (length m.order))) s.next
