-- The entries of a log are those of its order.
use Rattle.std.proofs.Common.{◌≡◌, ℕ, zero, suc, ◌+◌, List, [], ◌∷◌, Some, length, refl, ap, ◌∙◌, arith}
use Rattle.std.specs.List.{slice_get}
use Rattle.std.specs.FinMap.{get}
use Rattle.fx_spec.specs.Plans.{Turn, txn_of}
use Rattle.fx_spec.specs.Order.{BaseTree, state}
use Rattle.fx_spec.specs.Transaction.{outputs, end}
use Rattle.fx_machine.specs.declared.entry.Entry.{Entry}
use Rattle.fx_board.specs.Log.{Log}
use Rattle.fx_board.specs.Board.{IsEntry, entry_turn}
use Rattle.fx_report.specs.declared.printed.PrintedEntry.{PrintedEntry}
use Rattle.fx_report.specs.Entries.{printed, entry, entries_from, entries_of, commands_or_none}

from_there : (base : BaseTree) (o : List Turn) (k i : ℕ) (turns : List Turn) (turn : Turn) → slice_get turns i ≡ Some turn → slice_get (entries_from base o k turns) i ≡ Some (entry base o (k + i) turn)
from_there base o k i [] turn e = cc
from_there base o k zero (t ∷ turns) turn e =
    let same : t ≡ turn = cc in
    let here : k ≡ k + zero = omega arith in
    ap Some (ap (λ u. entry base o k u) same ∙ ap (λ n. entry base o n turn) here)
from_there base o k (suc i) (t ∷ turns) turn e =
    let on : suc k + i ≡ k + suc i = omega arith in
    from_there base o (suc k) i turns turn e ∙ ap (λ n. Some (entry base o n turn)) on

pub entries_length : (base : BaseTree) (o : List Turn) (k : ℕ) (turns : List Turn) → length (entries_from base o k turns) ≡ length turns
entries_length base o k [] = refl
entries_length base o k (t ∷ turns) = ap suc (entries_length base o (suc k) turns)

same_printed : (e f : PrintedEntry) → e.shell ≡ f.shell → e.txn ≡ f.txn → e.outputs ≡ f.outputs → e.end ≡ f.end → e ≡ f
same_printed e f shell txn outputs ended = λ i. record { shell = shell i; txn = txn i; outputs = outputs i; end = ended i }

-- entry `i` of a log is printed as that of its order
pub entry_there : (log : Log) (i : ℕ) (e : Entry) → IsEntry log i e → slice_get (entries_of log.base log.order) i ≡ Some (printed e)
unfolding entries_of
entry_there log i e is =
    let there = from_there log.base log.order 0 i log.order (entry_turn e) is.turn in
    let here : 0 + i ≡ i = omega arith in
    let t = is.txn in
    let planned : commands_or_none (txn_of log.base.plan (entry_turn e)) ≡ t = ap commands_or_none is.planned in
    there ∙ ap (λ n. Some (entry log.base log.order n (entry_turn e))) here
    ∙ ap Some (same_printed (entry log.base log.order i (entry_turn e)) (printed e) refl refl
    (ap (λ t. outputs log.base.description t (get (state log.base log.order i))) planned ∙ is.outputs)
    (ap (λ t. end log.base.description t (get (state log.base log.order i))) planned ∙ is.end))

pub entries_of_length : (base : BaseTree) (o : List Turn) → length (entries_of base o) ≡ length o
unfolding entries_of
entries_of_length base o = entries_length base o 0 o
