use Rattle.std.proofs.Common.{refl}
use Rattle.std.specs.FinMap.{get}
use Rattle.std.specs.Option.{option_map}
use Rattle.fx_expr.specs.Views.{tree_of}
use Rattle.fx_view.specs.Own.{own_at}
use Rattle.fx_view.proofs.Wholes.{of_agrees}
use Rattle.fx_session.specs.Places.{place_tree}
use Rattle.fx_walk.specs.Places.{value_at}
use Rattle.fx_commands.proofs.Shows.Alone.{alone_answer, alone_needs}
use Rattle.fx_commands.proofs.showing.values.value_at.Goals as goal

pub returns-in-Ok : goal.returns-in-Ok
returns-in-Ok g c =
    let S = get c.args.reader.now.store.now.nodes in
    alone_answer _ (option_map tree_of) c.new.result (c.args.reader.now, c.open.result) (c.value.new.session.reader.now, c.value.new.session.steps) (value_at (place_tree c.args.place.now)) c.in-Ok.value c.new.ensures c.in-Ok.ensures.follows.follows (refl, c.args.reader.now.of_store) S (λ vouched. of_agrees S c.value.new.session.reader.now.reads vouched.1)

pub unreachable-requires : goal.unreachable-requires
unreachable-requires g c =
    alone_needs _ (option_map tree_of) (own_at c.new.result) (c.args.reader.now, c.open.result) (c.value.new.session.reader.now, c.value.new.session.steps) (value_at (place_tree c.args.place.now)) c.in-Err-Needs.field-0 c.in-Err-Needs.field-0-0 c.in-Err-Needs.ensures.follows.follows refl c.in-Err-Needs.field-0-is
