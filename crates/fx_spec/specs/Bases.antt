-- What a base of the program stands for.
use Rattle.fx_spec.specs.declared.base.Base.{Base}
use Rattle.fx_spec.specs.Order.{BaseTree}

abbrev pub base_tree : Base → BaseTree
base_tree b = record { description = b.description; plan = b.plan; loaded = b.loaded.nodes }
