-- A place, as the rules see it.
use Rattle.fx_spec.specs.declared.place.Place.{Place}
use Rattle.fx_spec.specs.Parts.{place_part}
use Rattle.fx_spec.specs.Place.{PlaceTree, placed}

-- the path, the bound names and the description of a place
abbrev pub place_tree : Place → PlaceTree
place_tree at = placed at.path.now at.env.now (place_part at)
