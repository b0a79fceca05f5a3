-- What the workers of a run share.
use Rattle.fx_spec.specs.Bases.{base_tree}
use Rattle.fx_spec.specs.Order.{BaseTree}
use Rattle.fx_shared.specs.declared.crew.Crew.{Crew}

abbrev pub base_of : {R G T : Type 0} → Crew R G T → BaseTree
base_of crew = base_tree crew.base.now.value
