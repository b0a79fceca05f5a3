use Rattle.std.proofs.Common.{◌+◌, ◌<◌, length, set, ap, ◌∙◌, subst, sym, arith}
use Rattle.std.proofs.lemmas.List.{get_or-set_same}
use Rattle.fx_base.proofs.Chunking.{Counting, counting_next}
use Rattle.fx_base.proofs.table.count_from.Goals as goal

pub loop-i-preserved : goal.loop-i-preserved
loop-i-preserved g c =
    let now = c.loop-i.chunks.items in
    let i = c.loop-i.i in
    let chunk = c.stand.new.self in
    let test = c.loop-i-test.true in
    let end = c.len-i-end.ensures in
    let long = c.loop-i.invariant.long in
    let within : i < length now = omega (arith, test, end, long) in
    let kept = c.stand.ensures.items ∙ ap (λ e. e.items) c.index_mut.ensures.value in
    let here = c.items-len.ensures ∙ ap (λ e. e.items) (c.index.ensures ∙ get_or-set_same now i chunk c.index.result.now within) in
    let room = c.if-len-total.false in
    let same = ap length here in
    subst (λ n. Counting c.args.chunks.now.items (set now i chunk) (i + 1) (c.loop-i.total + n)) (sym same)
    (counting_next c.args.chunks.now.items now i c.loop-i.total c.loop-i.invariant within chunk c.index_mut.result.now c.stand.ensures.before kept (omega (arith, room, same)))
