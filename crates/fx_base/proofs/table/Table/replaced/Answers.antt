use Rattle.std.proofs.Common.{◌+◌, ◌<◌, ◌++◌, length, take, drop, ap, ◌∙◌, arith}
use Rattle.fx_base.specs.Chunks.{joined}
use Rattle.fx_base.proofs.Chunking.{few_before, joined-set}
use Rattle.fx_base.proofs.table.Table.replaced.Goals as goal

pub count_from-requires-clause-few : goal.count_from-requires-clause-few
count_from-requires-clause-few g c =
    let few = few_before c.args.chunks.now c.args.k c.index-chunks-k.result c.requires.chunks c.requires.within in
    let same = c.before-before.ensures ∙ ap (λ e. e.before) c.index-chunks-k.is in
    omega (arith, few, same)

pub returns : goal.returns
returns g c =
    let list = c.in_ok-list.list.items in
    let k = c.args.k in
    let chunk = c.in_ok-list-2.field-0 in
    let copies = c.in_ok-list.ensures.items_if_clones_equal (λ x y e. e) in
    let long = ap length copies in
    let lt = c.requires.within in
    let within : k < length list = omega (arith, long, lt) in
    c.in_ok-count_from.ensures.items ∙ joined-set list k chunk within ∙ (λ i. joined (take k (copies i)) ++ (c.in_ok-list-2.ensures.items i ++ joined (drop (k + 1) (copies i))))
