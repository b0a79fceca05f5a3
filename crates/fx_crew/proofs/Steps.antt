-- What one attempt makes of a worker.
use Rattle.std.proofs.Common.{◌≡◌, ◌⊎◌, inl, inr, ℕ, suc, ◌+◌, ◌<◌, ◌≤◌, List, [], ◌∷◌, ◌++◌, length, take, slice_get, Some, refl, sym, ap, subst, ◌∙◌, arith, length-append}
use Rattle.std.specs.List.{sum_by}
use Rattle.std.proofs.lemmas.List.{take_all, take-append-le}
use Rattle.std.proofs.lemmas.Option.{same_Some}
use Rattle.fx_base.proofs.Lists.{at_middle}
use Rattle.fx_spec.specs.CommandTree.{CommandTree}
use Rattle.fx_spec.specs.Plans.{Turn, txn_of}
use Rattle.fx_spec.specs.Order.{BaseTree, IsLegal}
use Rattle.fx_machine.specs.declared.attempt.Attempt.{Attempt}
use Rattle.fx_machine.specs.declared.retry.Retry.{Retry}
use Rattle.fx_machine.specs.Machine.{next_number}
use Rattle.fx_machine.specs.Needs.{AllRead}
use Rattle.fx_machine.specs.Passes.{AreTrueReads}
use Rattle.fx_board.specs.Board.{IsFreshReads, IsNamed}
use Rattle.fx_diaries.proofs.Looks.{all_read}
use Rattle.fx_turn.specs.Histories.{Begins}
use Rattle.fx_turn.proofs.Growth.{begins_on, begins_more}
use Rattle.fx_shared.specs.Passes.{LogView, HasBase, HasLegal, HasSeenMore, HasSettled, log_over}
use Rattle.fx_shared.proofs.Truths.{begins_short, true_later}
use Rattle.fx_diaries.specs.Diaries.{Diary}
use Rattle.fx_board.specs.Positions.{InTurn}
use Rattle.fx_diaries.proofs.Attempting.{own_counts, quiet_between, waits_to, settles, restarts}
use Rattle.fx_diaries.proofs.Growing.{empty, by_seen}
use Rattle.fx_board.proofs.Positions.{in_turn_longer, in_turn_by}
use Rattle.fx_crew.specs.declared.attempting.Outcome.TheVariants.{Settled, Conflict}
use Rattle.fx_crew.specs.declared.worker.Worker.{Worker}
use Rattle.fx_crew.specs.Working.{HasTried, ComesTo, IsWorker, HasEntry, HasRetry, HasGone}
use Rattle.fx_crew.proofs.Orders.{legal_fits}
use Rattle.fx_shared.proofs.Looks.{see_on}

-- what a step comes to, in views alone: the pass at the start, and in the end
pub record IsOn (base : BaseTree) (shell next : ℕ) (old new : LogView) (retries : List Retry) : Type 0 where
  pub number : new.number ≡ Some shell
  pub based : new.base ≡ Some base
  pub next_is : next ≡ new.mine
  pub counted : next_number new.seen shell ≡ next
  pub diary : Diary base new.seen shell (length new.seen) [] retries
  pub more : length old.seen < length new.seen
  pub few : length new.seen ≤ sum_by length base.plan

legal_on : (base : BaseTree) (v : LogView) → v.base ≡ Some base → HasLegal v → IsLegal base v.seen
legal_on base v e h = subst (λ b. IsLegal b v.seen) (same_Some h.0 base (sym h.1 ∙ e)) h.2

-- ---- lists

take_front : (xs ys : List Turn) → take (length xs) (xs ++ ys) ≡ xs
take_front xs ys = take-append-le (length xs) xs ys (omega arith) ∙ take_all (length xs) xs (omega arith)

-- the pass has seen no entry
idle : (base : BaseTree) (o : List Turn) (shell : ℕ) → next_number o shell ≡ 0 → Diary base o shell (length o) [] []
idle base o shell none =
    let whole : next_number (take (length o) o) shell ≡ 0 = ap (λ o. next_number o shell) (take_all (length o) o (omega arith)) ∙ none in
    waits_to base o shell 0 0 (length o) (omega arith) (quiet_between o shell 0 0 (length o) refl whole) (length o) 0 [] [] (omega arith) (omega arith) (omega arith) (empty base o shell)

-- ---- an attempt

module _ (base : BaseTree) (shell txn : ℕ) (start now new : LogView) (a : Attempt) (retries : List Retry) (number : start.number ≡ Some shell) (based : start.base ≡ Some base) (next : txn ≡ start.mine) (counted : next_number start.seen shell ≡ txn) (diary : Diary base start.seen shell (length start.seen) [] retries) (has : HasTried base shell txn start now a) (legal : HasLegal new) (counted_new : next_number new.seen shell ≡ new.mine) where
  turn_is : ◌≡◌ {A = Turn} (a.shell, a.txn) (shell, txn)
  turn_is = ap (λ k. (k, a.txn)) has.whose ∙ ap (λ n. (shell, n)) has.number

  abbrev t : List CommandTree
  t = has.explained.txn

  planned : txn_of base.plan (shell, txn) ≡ Some t
  planned = ap (λ (turn : Turn). txn_of base.plan turn) (sym turn_is) ∙ has.explained.planned

  all : AllRead base (shell, txn) a.reads
  all = subst (λ (turn : Turn). AllRead base turn a.reads) turn_is (all_read base a has.explained)

  stand : AreTrueReads base now.seen a.reads
  stand = has.stand base (has.seen.base ∙ based)

  -- over an order that begins with all that the pass had seen, up to a time at which the shell has no entry more
  module _ (o : List Turn) (begins : Begins start.seen o) (later : Begins now.seen o) (last : ℕ) (late : length now.seen ≤ last) (within : last ≤ length o) (same : next_number (take last o) shell ≡ txn) where
    begun_is : next_number (take (length start.seen) o) shell ≡ txn
    begun_is = ap (λ o. next_number o shell) (ap (take (length start.seen)) begins.whole ∙ take_front start.seen begins.rest) ∙ counted

    quiet : (time : ℕ) → length start.seen ≤ time → time ≤ last → next_number (take time o) shell ≡ txn
    quiet = quiet_between o shell txn (length start.seen) last begun_is same

    stood : AreTrueReads base o a.reads
    stood = true_later base now.seen o a.reads later stand

    turns : InTurn (length start.seen) last a.reads
    turns = in_turn_longer (length start.seen) (length now.seen) last a.reads late has.in_turn

    grown : Diary base o shell (length start.seen) [] retries
    grown = subst (λ o. Diary base o shell (length start.seen) [] retries) (sym begins.whole) (by_seen base start.seen begins.rest shell (length start.seen) [] retries (omega arith) diary)

    settles_then : slice_get o last ≡ Some (a.shell, a.txn) → IsFreshReads base (take last o) a.reads → Diary base o shell (suc last) [] retries
    settles_then at fresh = settles base o shell txn (length start.seen) last within quiet t planned a.reads has.foretold stood retries turns all grown (a.shell, a.txn) at has.whose has.number fresh

    restarts_then : (entry : ℕ) (path : List (List ℕ)) → IsNamed (record { base = base; order = take last o }) a.reads entry path → Diary base o shell last [] (retries ++ record { shell = shell; txn = txn; entry = entry; path = path } ∷ [])
    restarts_then entry path named = restarts base o shell txn (length start.seen) last within quiet t planned a.reads has.foretold stood retries turns all grown entry path named

  -- it settled
  pub settled_on : (entry : ℕ) → HasSettled now new a entry → IsOn base shell (txn + 1) start new retries
  settled_on entry s =
      let turn : Turn = (a.shell, a.txn) in
      let last : ℕ = length s.before in
      let o : List Turn = s.before ++ turn ∷ [] in
      let begins : Begins start.seen s.before = begins_on start.seen now.seen s.before has.seen.seen s.begins in
      let size : length o ≡ last + 1 = length-append s.before (turn ∷ []) in
      let longer : length new.seen ≡ last + 1 = ap length s.seen ∙ size in
      let on : new.base ≡ Some base = s.base ∙ (has.seen.base ∙ based) in
      let is_next : txn + 1 ≡ new.mine = (let m = s.mine in let n = has.seen.mine in omega (arith, m, n, next)) in
      let at : slice_get o last ≡ Some turn = at_middle s.before [] turn in
      let front : take last o ≡ s.before = take_front s.before (turn ∷ []) in
      let one : next_number (take (suc last) o) shell ≡ suc (next_number (take last o) shell) = own_counts o shell last turn at has.whose in
      let whole : next_number (take (suc last) o) shell ≡ new.mine = ap (λ o. next_number o shell) (take_all (suc last) o (omega (arith, size)) ∙ sym s.seen) ∙ counted_new in
      let same : next_number (take last o) shell ≡ txn = omega (arith, one, whole, is_next) in
      let fresh : IsFreshReads base (take last o) a.reads = subst (λ o. IsFreshReads base o a.reads) (sym front) (subst (λ b. IsFreshReads b s.before a.reads) (same_Some s.fresh.0 base (sym s.fresh.1 ∙ (has.seen.base ∙ based))) s.fresh.2) in
      let done : Diary base o shell (suc last) [] retries = settles_then o (begins_more start.seen s.before (turn ∷ []) begins) (begins_more now.seen s.before (turn ∷ []) s.begins) last (begins_short now.seen s.before s.begins) (omega (arith, size)) same at fresh in
      let end : suc last ≡ length o = omega (arith, size) in
      record {
        number = s.number ∙ (has.seen.number ∙ number);
        based = on;
        next_is = is_next;
        counted = counted_new ∙ sym is_next;
        diary = subst (λ o. Diary base o shell (length o) [] retries) (sym s.seen) (subst (λ n. Diary base o shell n [] retries) end done);
        more = omega (arith, longer, begins_short start.seen s.before begins);
        few = legal_fits base new.seen (legal_on base new on legal);
      }

  -- an entry stands in its way
  pub retries_on : (entry : ℕ) (path : List (List ℕ)) → HasSeenMore now new → HasBase new (λ b. IsNamed (log_over new b) a.reads entry path) → IsOn base shell txn start new (retries ++ record { shell = shell; txn = txn; entry = entry; path = path } ∷ [])
  retries_on entry path more stale =
      let seen : HasSeenMore start new = see_on start now new has.seen more in
      let o : List Turn = new.seen in
      let on : new.base ≡ Some base = seen.base ∙ based in
      let front : take (length o) o ≡ o = take_all (length o) o (omega arith) in
      let is_next : txn ≡ new.mine = next ∙ sym seen.mine in
      let named : IsNamed (record { base = base; order = o }) a.reads entry path = subst (λ b. IsNamed (log_over new b) a.reads entry path) (same_Some stale.0 base (sym stale.1 ∙ on)) stale.2 in
      let read = named.stale in
      let since = (in_turn_by (length start.seen) (length now.seen) a.reads has.in_turn path read.0 read.1 read.2).0 in
      record {
        number = seen.number ∙ number;
        based = on;
        next_is = is_next;
        counted = counted_new ∙ sym is_next;
        diary = restarts_then o seen.seen more.seen (length o) (begins_short now.seen o more.seen) (omega arith) (ap (λ o. next_number o shell) front ∙ (counted_new ∙ sym is_next)) entry path
            (subst (λ o. IsNamed (record { base = base; order = o }) a.reads entry path) (sym front) named);
        more = omega (arith, since, read.3, read.4);
        few = legal_fits base new.seen (legal_on base new on legal);
      }

-- ---- the same of workers

module _ {D : Type 0} (view : D → LogView) (counts : (desk : D) (shell : ℕ) → (view desk).number ≡ Some shell → next_number (view desk).seen shell ≡ (view desk).mine) where
  pub begun : (base : BaseTree) (shell : ℕ) (w : Worker D) → (view w.desk).number ≡ Some shell → (view w.desk).base ≡ Some base → (view w.desk).mine ≡ 0 → w.next ≡ 0 → w.retries.items ≡ [] → IsWorker view base shell w
  begun base shell w number based none first empty =
      let counted : next_number (view w.desk).seen shell ≡ 0 = counts w.desk shell number ∙ none in
      record {
        number = number;
        based = based;
        next = first ∙ sym none;
        counted = counted ∙ sym first;
        diary = subst (λ rs. Diary base (view w.desk).seen shell (length (view w.desk).seen) [] rs) (sym empty) (idle base (view w.desk).seen shell counted);
      }

  gone_on : (base : BaseTree) (shell : ℕ) (old new : Worker D) (next : ℕ) (retries : List Retry) → IsOn base shell next (view old.desk) (view new.desk) retries → new.next ≡ next → new.retries.items ≡ retries → HasEntry old new ⊎ HasRetry old new → HasGone view base shell old new
  gone_on base shell old new next retries on is_next are noted = record {
    worker = record {
      number = on.number;
      based = on.based;
      next = is_next ∙ on.next_is;
      counted = on.counted ∙ sym is_next;
      diary = subst (λ rs. Diary base (view new.desk).seen shell (length (view new.desk).seen) [] rs) (sym are) on.diary;
    };
    more = on.more;
    few = on.few;
    noted = noted;
  }

  module _ (base : BaseTree) (shell : ℕ) (old new : Worker D) (now : LogView) (a : Attempt) (worker : IsWorker view base shell old) (has : HasTried base shell old.next (view old.desk) now a) (legal : HasLegal (view new.desk)) where
    pub gone_settled : ComesTo now (view new.desk) a Settled → new.next ≡ old.next + 1 → new.retries.items ≡ old.retries.items → HasGone view base shell old new
    gone_settled s next retries =
        let number : (view new.desk).number ≡ Some shell = s.1.number ∙ (has.seen.number ∙ worker.number) in
        let on = settled_on base shell old.next (view old.desk) now (view new.desk) a old.retries.items worker.number worker.based worker.next worker.counted worker.diary has legal (counts new.desk shell number) s.0 s.1 in
        gone_on base shell old new (old.next + 1) old.retries.items on next retries (inl (record { next = next; retries = retries }))

    pub gone_retried : (entry : ℕ) (path : List (List ℕ)) → ComesTo now (view new.desk) a (Conflict entry path) → new.next ≡ old.next → new.retries.items ≡ old.retries.items ++ record { shell = shell; txn = old.next; entry = entry; path = path } ∷ [] → HasGone view base shell old new
    gone_retried entry path s next retries =
        let number : (view new.desk).number ≡ Some shell = s.0.number ∙ (has.seen.number ∙ worker.number) in
        let on = retries_on base shell old.next (view old.desk) now (view new.desk) a old.retries.items worker.number worker.based worker.next worker.counted worker.diary has legal (counts new.desk shell number) entry path s.0 s.1 in
        gone_on base shell old new old.next (old.retries.items ++ record { shell = shell; txn = old.next; entry = entry; path = path } ∷ []) on next retries (inr (record { next = next; retry = record { shell = shell; txn = old.next; entry = entry; path = path }; retries = retries }))
