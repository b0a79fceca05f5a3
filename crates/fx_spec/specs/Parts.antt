-- What a part of a text means inside so many calls.
use Rattle.std.specs.Prelude.{◌-◌}
use Rattle.fx_spec.specs.declared.part.Part.{Part}
use Rattle.fx_spec.specs.declared.place.Place.{Place}
use Rattle.fx_spec.specs.SpecTree.{SpecTree}
use Rattle.fx_spec.specs.Views.{spec_tree}
use Rattle.fx_spec.specs.Written.{part_tree}

abbrev pub part_of : Part → SpecTree
part_of p = part_tree p.defs.now (64 - p.level) (spec_tree p.spec.now)

abbrev pub place_part : Place → SpecTree
place_part at = part_tree at.defs.now (64 - at.level) (spec_tree at.spec.now)
