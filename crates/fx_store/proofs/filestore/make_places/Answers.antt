use Rattle.std.proofs.Common.{subst, ◌∙◌}
use Rattle.std.proofs.lemmas.List.{take_all}
use Rattle.indexmap.specs.IndexMap.{keys}
use Rattle.fx_store.specs.Filestore.{HavePlaces}
use Rattle.fx_store.proofs.Tables.{have_places_more, KeepsPlaces-then}
use Rattle.fx_store.proofs.filestore.make_places.Goals as goal

pub loop-change-preserved : goal.loop-change-preserved
loop-change-preserved c = record {
  places = have_places_more _ _ c.in_ok-make_place.ensures.kept c.args.changes.now c.loop-change.change-index c.change-item.result c.loop-change-test.true c.change-item.is c.loop-change.invariant.places c.in_ok-make_place.ensures.place;
  nodes = c.in_ok-make_place.ensures.nodes ∙ c.loop-change.invariant.nodes;
  kept = KeepsPlaces-then _ _ _ c.loop-change.invariant.kept c.in_ok-make_place.ensures.kept;
  unique = λ u. c.in_ok-make_place.ensures.unique (c.loop-change.invariant.unique u);
}

pub returns-clause-places : goal.returns-clause-places
returns-clause-places c = subst (HavePlaces (keys c.loop-change.table)) (take_all c.loop-change.change-index c.args.changes.now c.loop-change-test.false) c.loop-change.invariant.places
