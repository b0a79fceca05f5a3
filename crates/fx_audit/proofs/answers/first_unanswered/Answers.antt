use Rattle.std.proofs.Common.{◌≡◌, ◌<◌, ◌≤◌, List, Some, true, false, length, rules, slice_get, take, sym, subst}
use Rattle.fx_board.specs.Log.{Log}
use Rattle.fx_machine.specs.Machine.{next_number}
use Rattle.fx_report.specs.declared.printed.PrintedEntry.{PrintedEntry}
use Rattle.fx_spec.specs.Bases.{base_tree}
use Rattle.fx_spec.specs.Plans.{count_of}
use Rattle.fx_audit.specs.Verdicts.{order_told}
use Rattle.fx_audit.proofs.Answering.{answered_all, answered_more, log_more, not_answered, unanswered_at, yes_answered}
use Rattle.fx_audit.proofs.Fronts.{next_told}
use Rattle.fx_audit.proofs.Lists.{item_at}
use Rattle.fx_audit.proofs.answers.first_unanswered.Goals as goal

pub is_answered-requires-clause-next : goal.is_answered-requires-clause-next
is_answered-requires-clause-next c =
    let is : slice_get c.args.entries.now c.loop-i.i ≡ Some c.told-item.result = item_at c.as_slice-told-items.result.now c.args.entries.now c.loop-i.i c.told-item.result c.as_slice-told-items.ensures c.loop-i-test.true c.told-item.is in
    subst (λ (l : Log). c.told-item.result.txn ≡ next_number l.order c.told-item.result.shell) (sym c.loop-i.invariant.log)
    (next_told (base_tree c.args.base.now.value) c.args.entries.now c.loop-i.i c.told-item.result c.requires.legal is).next

pub is_answered-requires-clause-planned : goal.is_answered-requires-clause-planned
is_answered-requires-clause-planned c =
    let is : slice_get c.args.entries.now c.loop-i.i ≡ Some c.told-item.result = item_at c.as_slice-told-items.result.now c.args.entries.now c.loop-i.i c.told-item.result c.as_slice-told-items.ensures c.loop-i-test.true c.told-item.is in
    subst (λ (l : Log). c.told-item.result.txn < count_of l.base.plan c.told-item.result.shell) (sym c.loop-i.invariant.log)
    (next_told (base_tree c.args.base.now.value) c.args.entries.now c.loop-i.i c.told-item.result c.requires.legal is).planned

pub returns-then-not-branch-clause-all : goal.returns-then-not-branch-clause-all
returns-then-not-branch-clause-all c =
    let is : slice_get c.args.entries.now c.loop-i.i ≡ Some c.told-item.result = item_at c.as_slice-told-items.result.now c.args.entries.now c.loop-i.i c.told-item.result c.as_slice-told-items.ensures c.loop-i-test.true c.told-item.is in
    let refused : c.in_ok-is_answered.field-0 ≡ false = search rules in
    unanswered_at (base_tree c.args.base.now.value) c.args.entries.now c.loop-i.i c.told-item.result c.loop-i.invariant.answered is
    (not_answered (base_tree c.args.base.now.value) (order_told (take c.loop-i.i c.args.entries.now)) c.loop-i.board c.told-item.result c.in_ok-is_answered.field-0 c.loop-i.invariant.log refused c.in_ok-is_answered.ensures.answer)

pub loop-i-preserved : goal.loop-i-preserved
loop-i-preserved c =
    let is : slice_get c.args.entries.now c.loop-i.i ≡ Some c.told-item.result = item_at c.as_slice-told-items.result.now c.args.entries.now c.loop-i.i c.told-item.result c.as_slice-told-items.ensures c.loop-i-test.true c.told-item.is in
    let good : c.in_ok-is_answered.field-0 ≡ true = search rules in
    record {
      log = log_more (base_tree c.args.base.now.value) c.args.entries.now c.loop-i.i c.told-item.result c.loop-i.board c.is_answered.new.board c.loop-i.invariant.log is c.in_ok-is_answered.ensures.log;
      answered = answered_more (base_tree c.args.base.now.value) c.args.entries.now c.loop-i.i c.told-item.result c.loop-i.invariant.answered is
          (yes_answered (base_tree c.args.base.now.value) (order_told (take c.loop-i.i c.args.entries.now)) c.loop-i.board c.told-item.result c.in_ok-is_answered.field-0 c.loop-i.invariant.log good c.in_ok-is_answered.ensures.answer);
    }

pub returns-clause-all : goal.returns-clause-all
returns-clause-all c =
    answered_all (base_tree c.args.base.now.value) c.args.entries.now c.loop-i.i (subst (λ (l : List PrintedEntry). length l ≤ c.loop-i.i) c.as_slice-told-items.ensures c.loop-i-test.false) c.loop-i.invariant.answered
