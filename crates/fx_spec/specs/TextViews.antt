-- A whole text as a plain tree.
use Rattle.fx_spec.specs.declared.description.Description.{Description}
use Rattle.fx_spec.specs.Views.{spec_tree}
use Rattle.fx_spec.specs.Written.{TextTree}

abbrev pub written : Description → TextTree
written t = record { defs = t.defs; root = spec_tree t.root }
