use Rattle.fx_table.proofs.Prelude.{sym, ◌∙◌, map-id, YieldsList-from_vec, YieldsList-end, links_in}
use Rattle.fx_table.proofs.Mixing.{made_reversed, merging_none, merging_more, merging_end}
use Rattle.fx_table.proofs.merging.merged_links.Goals as goal

pub loop-change-init : goal.loop-change-init
loop-change-init c = record {
  made = made_reversed c.args.links.items c.reverse.new.self.items c.reverse.ensures.items c.requires.links;
  merging = merging_none c.args.found.items c.args.links.items c.reverse.new.self.items c.new-all.result.items c.requires.found c.requires.links c.requires.merge c.reverse.ensures.items c.new-all.ensures.items;
}

pub loop-change-preserved : goal.loop-change-preserved
loop-change-preserved c = record {
  made = c.in_ok-move_before.ensures.moves.made;
  merging = merging_more c.args.found.items (links_in c.args.links.items) c.loop-change.yielded c.loop-change.rest.items c.move_before.new.rest.items c.loop-change.all.items c.move_before.new.all.items c.push.new.self.items c.in-Some.change c.loop-change.invariant.merging c.in_ok-move_before.ensures c.in_ok-push.ensures.items;
}

pub returns : goal.returns
returns c =
    let end = YieldsList-end (YieldsList-from_vec {s = c.into_iter-change-iterator.result} c.args.found.items c.into_iter-change-iterator.ensures.into_iter_gives.0 (c.into_iter-change-iterator.ensures.into_iter_gives.1 ∙ c.args.found.ok.0)) c.loop-change.yielded c.loop-change.change-iterator c.loop-change.yielded_by _ c.next.new.self c.in-None.is c.next.ensures.steps in
    merging_end c.args.found.items (links_in c.args.links.items) c.loop-change.yielded c.loop-change.rest.items c.loop-change.all.items c.move_rest.new.all.items c.loop-change.invariant.merging (sym end.0 ∙ map-id c.loop-change.yielded) c.in_ok-move_rest.ensures
