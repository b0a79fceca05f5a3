use Rattle.std.proofs.Common.{sym}
use Rattle.fx_gen.specs.Trees.{description_tree}
use Rattle.fx_large_commands.proofs.Standing.{described, undescribed_is}
use Rattle.fx_large_commands.proofs.base.description.Goals as goal

pub no_memory-requires : goal.no_memory-requires
no_memory-requires c = undescribed_is c.args.text.now c.in-Err.fault c.requires c.in-Err.ensures.refused

pub returns-in-Ok : goal.returns-in-Ok
returns-in-Ok c = sym (c.in-Ok.ensures.only description_tree (described c.args.text.now c.requires))
