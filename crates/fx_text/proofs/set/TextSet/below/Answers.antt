use Rattle.std.proofs.Common.{◌∙◌, sym, ap}
use Rattle.fx_text.specs.Sets.{greatest_below}
use Rattle.fx_text.proofs.Nearest.{below_found, below_gap}
use Rattle.fx_text.proofs.Order.{gap_at}
use Rattle.fx_text.proofs.set.TextSet.below.Goals as goal

pub returns-in-Ok : goal.returns-in-Ok
returns-in-Ok c =
    c.item_before.ensures
    ∙ sym (below_found c.args.text.now c.self.inside.texts c.in-Ok.i c.self.invariant.ascending c.in-Ok.ensures.bound c.in-Ok.ensures.position)
    ∙ ap (greatest_below c.args.text.now) c.self.view_is

pub returns-in-Err : goal.returns-in-Err
returns-in-Err c =
    let gap = gap_at c.self.inside.texts c.args.text.now c.in-Err.i c.self.invariant.ascending c.in-Err.ensures.position in
    c.item_before-in-Err.ensures
    ∙ sym (below_gap c.args.text.now c.self.inside.texts c.in-Err.i c.in-Err.ensures.bound gap)
    ∙ ap (greatest_below c.args.text.now) c.self.view_is
