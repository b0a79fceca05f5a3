use Rattle.std.proofs.Common.{rules, ◌≡◌, ◌+◌, ◌<◌, ◌^◌, arith, sym, ap, ◌∙◌}
use Rattle.std.specs.FinMap.{get}
use Rattle.fx_large_commands.specs.Summary.{logged_at, logged_to}
use Rattle.fx_large_commands.proofs.Sums.{logged_none, logged_more}
use Rattle.fx_large_commands.proofs.counting.logged.Goals as goal
use Rattle.fx_gen.proofs.Placing.{log_named}

pub loop-number-init : goal.loop-number-init
loop-number-init c = (sym (logged_none c.args.store.now.nodes), omega arith)

pub project_entry-requires-clause-entry : goal.project_entry-requires-clause-entry
project_entry-requires-clause-entry c = log_named

pub loop-number-preserved : goal.loop-number-preserved
loop-number-preserved c =
    let inv = c.loop-number.invariant in
    let nodes = c.args.store.now.nodes in
    let k = c.loop-number.number in
    let small : c.logged_at.result < 2 ^ 64 = search rules in
    let one : c.from-sum.result ≡ c.logged_at.result = c.from-sum.ensures in (
      ap (λ s. s + c.from-sum.result) inv.0 ∙ ap (λ m. logged_to nodes k + m) (one ∙ c.logged_at.ensures ∙ ap (λ p. logged_at (get nodes p)) c.in_ok-path.ensures) ∙ sym (logged_more nodes k),
      omega (arith, small, one, inv.1),
    )
