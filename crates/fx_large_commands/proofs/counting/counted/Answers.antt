use Rattle.std.proofs.Common.{rules, ◌≡◌, ◌+ℤ◌, arith, sym, ap, ◌∙◌}
use Rattle.std.specs.FinMap.{get}
use Rattle.std.proofs.lemmas.Int.{ints}
use mir.Syntax.{w64, w128}
use mir.Val.{SFits, of_z, to_z}
use Rattle.fx_large_commands.specs.Summary.{counted_at, counted_to}
use Rattle.fx_large_commands.proofs.Sums.{counted_none, counted_more}
use Rattle.fx_large_commands.proofs.counting.counted.Goals as goal
use Rattle.fx_gen.proofs.Placing.{count_named}

pub loop-number-init : goal.loop-number-init
loop-number-init c = (sym (counted_none c.args.store.now.nodes), omega (arith, ints), omega (arith, ints))

pub project_entry-requires-clause-entry : goal.project_entry-requires-clause-entry
project_entry-requires-clause-entry c = count_named

pub loop-number-preserved : goal.loop-number-preserved
loop-number-preserved c =
    let inv = c.loop-number.invariant in
    let nodes = c.args.store.now.nodes in
    let k = c.loop-number.number in
    let n = c.in_ok-counted_at.field-0 in
    let fits : SFits w64 n = search rules in
    let one : c.from.result ≡ to_z w64 (of_z w64 n) = c.from.ensures in
    let whole : to_z w128 (of_z w128 (to_z w128 c.loop-number.sum-bits +ℤ to_z w128 (of_z w128 c.from.result))) ≡ to_z w128 c.loop-number.sum-bits +ℤ n = omega (arith, ints, fits, one, c.loop-number.sum-is, inv.1, inv.2) in (
      whole ∙ ap (λ s. s +ℤ n) inv.0 ∙ ap (λ m. counted_to nodes k +ℤ m) (c.in_ok-counted_at.ensures ∙ ap (λ p. counted_at (get nodes p)) c.in_ok-path.ensures) ∙ sym (counted_more nodes k),
      omega (arith, ints, fits, whole, inv.1),
      omega (arith, ints, fits, whole, inv.2),
    )
