-- The answers that entries tell, and those of their transactions.
use Rattle.std.proofs.Common.{◌≡◌, ◌⊎◌, inl, inr, ℕ, zero, suc, ◌+◌, ◌<◌, ◌≤◌, Bool, true, false, List, [], ◌∷◌, ◌++◌, length, take, drop, slice_get, Some, refl, sym, ap, subst, ◌∙◌, arith}
use Rattle.std.specs.Prelude.{IsTrue}
use Rattle.std.specs.FinMap.{get}
use Rattle.std.proofs.lemmas.Bool.{cases_lt}
use Rattle.std.proofs.lemmas.Option.{same_Some, none-some, slice_get_within}
use Rattle.fx_expr.specs.Tree.{Tree}
use Rattle.fx_spec.specs.declared.refusal.End.{End}
use Rattle.fx_spec.specs.Plans.{Turn, txn_of}
use Rattle.fx_spec.specs.Order.{BaseTree, state}
use Rattle.fx_spec.specs.Transaction.{outputs, end}
use Rattle.fx_spec.proofs.Orders.{state-front}
use Rattle.fx_report.specs.declared.printed.PrintedEntry.{PrintedEntry}
use Rattle.fx_report.specs.Entries.{commands_or_none, entry, entries_from, entries_of}
use Rattle.fx_board.specs.Board.{settled}
use Rattle.fx_board.specs.Log.{Log}
use Rattle.fx_audit.specs.Orders.{logged}
use Rattle.fx_audit.specs.Verdicts.{turn_told, order_told, IsAnswered, AllAnswered, IsFirstUnanswered}
use Rattle.fx_audit.proofs.Fronts.{told_length, told_more, told_split}

-- ---- one entry

same_entry : (shell txn : ℕ) (os ps : List Tree) (d f : End) → os ≡ ps → d ≡ f → ◌≡◌ {A = PrintedEntry} (record { shell = shell; txn = txn; outputs = os; end = d }) (record { shell = shell; txn = txn; outputs = ps; end = f })
same_entry shell txn os ps d f o e = cc

-- an entry of an order is that of each order that begins so
pub entry_front : (base : BaseTree) (o more : List Turn) (i : ℕ) (turn : Turn) → i ≤ length o → entry base (o ++ more) i turn ≡ entry base o i turn
entry_front base o more i turn h =
    let t = commands_or_none (txn_of base.plan turn) in
    let same : state base (o ++ more) i ≡ state base o i = state-front base o more i h in
    same_entry turn.0 turn.1 _ _ _ _ (ap (λ n. outputs base.description t (get n)) same) (ap (λ n. end base.description t (get n)) same)

-- the entry that was just settled
pub answer_settled : (log log' : Log) (i : ℕ) (told : PrintedEntry) (b : Bool) → log' ≡ settled log told.shell told.txn → i ≡ length log.order
    → (IsTrue b → told ≡ entry log'.base log'.order i (turn_told told)) × (told ≡ entry log'.base log'.order i (turn_told told) → IsTrue b)
    → (IsTrue b → told ≡ entry log.base log.order (length log.order) (turn_told told)) × (told ≡ entry log.base log.order (length log.order) (turn_told told) → IsTrue b)
answer_settled log log' i told b new at h =
    let same : entry log'.base log'.order i (turn_told told) ≡ entry log.base log.order (length log.order) (turn_told told) =
    ap (λ (l : Log). entry l.base l.order i (turn_told told)) new ∙ (ap (λ k. entry log.base (log.order ++ turn_told told ∷ []) k (turn_told told)) at
    ∙ entry_front log.base log.order (turn_told told ∷ []) (length log.order) (turn_told told) (omega arith)) in
    (λ t. h.0 t ∙ same, λ e. h.1 (e ∙ sym same))

pub yes_answered : (base : BaseTree) (o : List Turn) (log : Log) (told : PrintedEntry) (b : Bool) → log ≡ logged base o → b ≡ true
    → (IsTrue b → told ≡ entry log.base log.order (length log.order) (turn_told told)) × (told ≡ entry log.base log.order (length log.order) (turn_told told) → IsTrue b)
    → told ≡ entry base o (length o) (turn_told told)
yes_answered base o log told b is yes_ h = h.0 yes_ ∙ ap (λ (l : Log). entry l.base l.order (length l.order) (turn_told told)) is

pub not_answered : (base : BaseTree) (o : List Turn) (log : Log) (told : PrintedEntry) (b : Bool) → log ≡ logged base o → b ≡ false
    → (IsTrue b → told ≡ entry log.base log.order (length log.order) (turn_told told)) × (told ≡ entry log.base log.order (length log.order) (turn_told told) → IsTrue b)
    → told ≡ entry base o (length o) (turn_told told) → ⊥
not_answered base o log told b is isnt h same =
    let right : b ≡ true = h.1 (same ∙ sym (ap (λ (l : Log). entry l.base l.order (length l.order) (turn_told told)) is)) in
    let both : true ≡ false = sym right ∙ isnt in
    cc

-- ---- entry by entry

entry_told : (base : BaseTree) (es : List PrintedEntry) (i : ℕ) (e : PrintedEntry) → slice_get es i ≡ Some e → entry base (order_told es) i (turn_told e) ≡ entry base (order_told (take i es)) (length (order_told (take i es))) (turn_told e)
entry_told base es i e is =
    let n : i ≡ length (order_told (take i es)) = told_length es i e is in
    ap (λ o. entry base o i (turn_told e)) (told_split es i) ∙ (entry_front base (order_told (take i es)) (order_told (drop i es)) i (turn_told e) (omega (arith, n))
    ∙ ap (λ k. entry base (order_told (take i es)) k (turn_told e)) n)

answered_here : (base : BaseTree) (es : List PrintedEntry) (i : ℕ) (e : PrintedEntry) → slice_get es i ≡ Some e → e ≡ entry base (order_told (take i es)) (length (order_told (take i es))) (turn_told e) → IsAnswered base es i
answered_here base es i e is same f at =
    let one : e ≡ f = same_Some e f (sym is ∙ at) in
    subst (λ x. x ≡ entry base (order_told es) i (turn_told x)) one (same ∙ sym (entry_told base es i e is))

-- the entries before this one tell the answers of their transactions
abbrev pub AnsweredBelow : BaseTree → List PrintedEntry → ℕ → Type 0
AnsweredBelow base es n = (k : ℕ) → k < n → IsAnswered base es k

pub answered_more : (base : BaseTree) (es : List PrintedEntry) (i : ℕ) (e : PrintedEntry) → AnsweredBelow base es i → slice_get es i ≡ Some e → e ≡ entry base (order_told (take i es)) (length (order_told (take i es))) (turn_told e) → AnsweredBelow base es (i + 1)
answered_more base es i e before is same k lt = at (cases_lt k i)
  where
    at : (k < i) ⊎ (i ≤ k) → IsAnswered base es k
    at (inl less) = before k less
    at (inr ge) = let here : i ≡ k = omega (arith, lt, ge) in subst (IsAnswered base es) here (answered_here base es i e is same)

pub unanswered_at : (base : BaseTree) (es : List PrintedEntry) (i : ℕ) (e : PrintedEntry) → AnsweredBelow base es i → slice_get es i ≡ Some e → (e ≡ entry base (order_told (take i es)) (length (order_told (take i es))) (turn_told e) → ⊥) → IsFirstUnanswered base es i
unanswered_at base es i e before is other = record { before = before; here = λ answered. other (answered e is ∙ entry_told base es i e is) }

pub answered_all : (base : BaseTree) (es : List PrintedEntry) (n : ℕ) → length es ≤ n → AnsweredBelow base es n → AllAnswered base es
answered_all base es n whole below i e is = let lt : i < length es = slice_get_within es i e is in below i (omega (arith, lt, whole)) e is

pub log_more : (base : BaseTree) (es : List PrintedEntry) (i : ℕ) (e : PrintedEntry) (log log' : Log) → log ≡ logged base (order_told (take i es)) → slice_get es i ≡ Some e → log' ≡ settled log e.shell e.txn → log' ≡ logged base (order_told (take (i + 1) es))
log_more base es i e log log' was is new = new ∙ (ap (λ l. settled l e.shell e.txn) was ∙ ap (logged base) (sym (told_more es i e is)))

-- ---- all of them

two_same : (e f : PrintedEntry) (es fs : List PrintedEntry) → e ≡ f → es ≡ fs → e ∷ es ≡ f ∷ fs
two_same e f es fs h t = cc

each_from : (base : BaseTree) (o : List Turn) (i : ℕ) (es : List PrintedEntry) → ((k : ℕ) (e : PrintedEntry) → slice_get es k ≡ Some e → e ≡ entry base o (i + k) (turn_told e)) → es ≡ entries_from base o i (order_told es)
each_from base o i [] each = refl
each_from base o i (e ∷ es) each =
    let here : i + 0 ≡ i = omega arith in
    two_same e (entry base o i (turn_told e)) es (entries_from base o (suc i) (order_told es)) (each 0 e refl ∙ ap (λ k. entry base o k (turn_told e)) here)
    (each_from base o (suc i) es (λ k f is. let next : i + suc k ≡ suc i + k = omega arith in each (suc k) f is ∙ ap (λ n. entry base o n (turn_told f)) next))

-- entries that all tell their answers are those of their order
pub answers_are : (base : BaseTree) (es : List PrintedEntry) → AllAnswered base es → es ≡ entries_of base (order_told es)
unfolding entries_of
answers_are base es all =
    each_from base (order_told es) 0 es (λ k e is. let at : k ≡ 0 + k = omega arith in all k e is ∙ ap (λ n. entry base (order_told es) n (turn_told e)) at)

order_from : (base : BaseTree) (o : List Turn) (i : ℕ) (turns : List Turn) → order_told (entries_from base o i turns) ≡ turns
order_from base o i [] = refl
order_from base o i (turn ∷ turns) = ap (λ l. turn ∷ l) (order_from base o (suc i) turns)

-- the entries of an order tell the order, and their answers
pub order_of_entries : (base : BaseTree) (o : List Turn) → order_told (entries_of base o) ≡ o
unfolding entries_of
order_of_entries base o = order_from base o 0 o

entry_from : (base : BaseTree) (o : List Turn) (i : ℕ) (turns : List Turn) (k : ℕ) (e : PrintedEntry) → slice_get (entries_from base o i turns) k ≡ Some e → e ≡ entry base o (i + k) (turn_told e)
entry_from base o i [] k e is = absurd (none-some e is)
entry_from base o i (turn ∷ turns) zero e is =
    let here : i ≡ i + 0 = omega arith in
    let same : entry base o i turn ≡ e = same_Some (entry base o i turn) e is in
    subst (λ x. x ≡ entry base o (i + 0) (turn_told x)) same (ap (λ n. entry base o n turn) here)
entry_from base o i (turn ∷ turns) (suc k) e is =
    let next : suc i + k ≡ i + suc k = omega arith in entry_from base o (suc i) turns k e is ∙ ap (λ n. entry base o n (turn_told e)) next

entry_of : (base : BaseTree) (o : List Turn) (k : ℕ) (e : PrintedEntry) → slice_get (entries_of base o) k ≡ Some e → e ≡ entry base o k (turn_told e)
unfolding entries_of
entry_of base o k e is = let at : 0 + k ≡ k = omega arith in entry_from base o 0 o k e is ∙ ap (λ n. entry base o n (turn_told e)) at

pub entries_answered : (base : BaseTree) (o : List Turn) → AllAnswered base (entries_of base o)
entries_answered base o i e is = entry_of base o i e is ∙ ap (λ o. entry base o i (turn_told e)) (sym (order_of_entries base o))
