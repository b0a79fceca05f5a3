use Rattle.std.proofs.Common.{sym, ◌∙◌}
use Rattle.fx_outside.proofs.Trees.{get_tree}
use Rattle.fx_outside.proofs.memory_tree.read_at.Goals as goal

pub unreachable-requires : goal.unreachable-requires
unreachable-requires c =
    let none = get_tree c.args.tree.now.entries c.args.names.now ∙ sym c.in-None.ensures.value in
    let there = rw none at c.requires.there in
    cc

pub returns-clause-read : goal.returns-clause-read
returns-clause-read c = rw (get_tree, ← c.in-Some.ensures.value, ← c.bytes.ensures) c.copy_front.ensures.read
