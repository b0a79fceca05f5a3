-- Definitions and texts as plain trees.
use Rattle.fx_spec.specs.declared.description.Def.{Def}
use Rattle.fx_spec.specs.Views.{spec_tree}
use Rattle.fx_spec.specs.Written.{DefTree}

abbrev pub def_tree : Def → DefTree
def_tree d = record { name = d.name; params = d.params; body = spec_tree d.body }
