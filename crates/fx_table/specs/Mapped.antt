-- Changes that set a node each, as paths with nodes.
use Rattle.std.specs.Prelude.{List, [], map, Option, Some, None}
use Rattle.fx_store.specs.declared.node.Node.{Node}
use Rattle.fx_store.specs.declared.node.Node.TheVariants.{Dir}
use Rattle.fx_store.specs.declared.changes.Change.{Change}
use Rattle.fx_table.specs.Listed.{Mapped}

abbrev pub node_or_dir : Option Node → Node
node_or_dir None = Dir []
node_or_dir (Some node) = node

-- the paths of changes with their nodes
abbrev pub mapped_of : List Change → List Mapped
mapped_of changes = map (λ (c : Change). (c.path, node_or_dir c.node)) changes
