use Rattle.fx_base.specs.Chunks.{from_last}
use Rattle.fx_base.proofs.Chunking.{joined_on}
use Rattle.fx_base.proofs.table.Table.from_parts.Goals as goal

pub joining-preserved : goal.joining-preserved
joining-preserved g c =
    joined_on (λ part. part.items) (from_last (λ part. part.items) c.args.parts.items) c.joining.table c.add.new.self c.joining.left.items c.pop.new.self.items c.in-Some.part
    c.in_ok-add.ensures.ok c.in-Some.ensures.items c.joining.invariant
