use Rattle.std.proofs.Common.{◌≡◌, Some, true, false, rules, slice_get, sym, ◌∙◌}
use Rattle.std.proofs.lemmas.Bool.{false≢true}
use Rattle.fx_audit.specs.Retries.{last_tree}
use Rattle.fx_audit.proofs.Lists.{item_at}
use Rattle.fx_audit.proofs.Trying.{tried_more, untrue_at}
use Rattle.fx_audit.proofs.retries.first_untrue.Goals as goal

pub returns-then-not-is_next_retry : goal.returns-then-not-is_next_retry
returns-then-not-is_next_retry c =
    let is : slice_get c.args.retries.now c.loop-m.m ≡ Some c.retry-item.result = item_at c.as_slice-retry-items.result.now c.args.retries.now c.loop-m.m c.retry-item.result c.as_slice-retry-items.ensures c.loop-m-test.true c.retry-item.is in
    let refused : c.is_next_retry.result ≡ false = search rules in
    untrue_at c.args.board.now.base c.args.board.now.order c.args.retries.now c.loop-m.m (last_tree c.loop-m.last) c.retry-item.result c.loop-m.invariant is (λ next. false≢true (sym refused ∙ c.is_next_retry.ensures.1 next))

pub loop-m-preserved : goal.loop-m-preserved
loop-m-preserved c =
    let is : slice_get c.args.retries.now c.loop-m.m ≡ Some c.retry-item.result = item_at c.as_slice-retry-items.result.now c.args.retries.now c.loop-m.m c.retry-item.result c.as_slice-retry-items.ensures c.loop-m-test.true c.retry-item.is in
    let good : c.is_next_retry.result ≡ true = search rules in
    tried_more c.args.board.now.base c.args.board.now.order c.args.retries.now c.loop-m.m (last_tree c.loop-m.last) c.retry-item.result c.loop-m.invariant is (c.is_next_retry.ensures.0 good)
