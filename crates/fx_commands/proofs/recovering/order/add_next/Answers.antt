use Rattle.std.proofs.Common.{refl, arith, slice_index_or, ◌+◌, ◌<◌}
use Rattle.std.specs.Prelude.{slice_set, length}
use Rattle.fx_spec.specs.Bases.{base_tree}
use Rattle.fx_commands.proofs.Recoveries.Counting.{counted}
use Rattle.fx_commands.proofs.recovering.order.add_next.Goals as goal

pub returns : goal.returns
returns c o are =
    let shell = c.args.pair.now.shell in
    let counts = c.args.counts.now in
    let next = slice_index_or counts shell 0 in
    let within : shell < length counts = omega (arith, c.if-shell-counts.false) in
    let less : next < c.count.result = omega (arith, c.if-next-count.false) in
    counted (base_tree c.args.base.now) o shell counts are c.args.pair.now.txn next c.count.result (slice_set counts shell (next + 1)) within refl c.if-pair-next.false c.count.ensures less refl
