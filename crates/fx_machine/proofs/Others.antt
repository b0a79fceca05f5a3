-- A conflict names an entry of another shell.
use Rattle.std.proofs.Common.{◌≡◌, ◌≢◌, ℕ, ◌<◌, ◌≤◌, List, slice_get, Some, subst, arith}
use Rattle.fx_spec.specs.Order.{BaseTree}
use Rattle.fx_machine.specs.Machine.{Machine, Look, IsStaleAt, looks_of}
use Rattle.fx_machine.specs.Laws.{ConflictsAreOthers}
use Rattle.fx_machine.proofs.Reached.{IsSound, position_in, reached_sound}

-- an entry that has changed a looked path since its look is another shell's
pub other_entry : (base : BaseTree) (m : Machine) (shell entry : ℕ) (path : List (List ℕ)) → IsSound base m → IsStaleAt base m.order (looks_of m shell) entry path → (k txn : ℕ) → slice_get m.order entry ≡ Some (k, txn) → k ≢ shell
other_entry base m shell entry path sound stale k txn at same =
    let own : slice_get m.order entry ≡ Some (shell, txn) = subst (λ k. slice_get m.order entry ≡ Some (k, txn)) same at in
    let later : entry < stale.0 = position_in (λ (l : Look). entry < l.1) (looks_of m shell) path stale.0 ((sound.looks shell).later entry txn own) stale.1 in
    let since : stale.0 ≤ entry = stale.2 in
    omega arith

pub conflicts_are_others : ConflictsAreOthers
conflicts_are_others base m m' shell entry path reached r = record {
  stale = r.stale;
  other = other_entry base m shell entry path (reached_sound base m reached) r.stale;
}
