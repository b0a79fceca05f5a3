use Rattle.std.proofs.Common.{◌≤◌, length, is_some, ap, ◌∙◌, arith}
use Rattle.std.specs.FinMap.{get}
use Rattle.std.specs.List.{count_by}
use Rattle.std.proofs.lemmas.List.{take_all}
use Rattle.fx_large_commands.proofs.Sums.{one_more}
use Rattle.fx_large_commands.proofs.Tables.{counted_places, place_there}
use Rattle.fx_large_commands.proofs.counting.node_count.Goals as goal

pub loop-i-preserved : goal.loop-i-preserved
loop-i-preserved c =
    let t = c.args.store.now in
    let place = place_there _ t c.loop-i.i c.at.result c.is_some.result (omega (arith, c.loop-i-test.true, c.places-i-end.ensures.places)) c.at.ensures.place c.is_some.ensures in
    one_more (λ p. is_some (get t.nodes p)) t.places c.loop-i.i place.0 c.loop-i.count c.from-count.result c.is_some.result place.1 c.loop-i.invariant place.2 c.from-count.ensures

pub returns : goal.returns
returns c =
    let t = c.args.store.now in
    let all : length t.places ≤ c.loop-i.i = omega (arith, c.loop-i-test.false, c.places-i-end.ensures.places) in
    c.loop-i.invariant ∙ ap (count_by (λ p. is_some (get t.nodes p))) (take_all c.loop-i.i t.places all) ∙ counted_places t c.places-i-end.ensures.table
