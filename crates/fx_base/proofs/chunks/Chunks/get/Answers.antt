use Rattle.std.proofs.Common.{◌-◌, slice_get, sym, ap, ◌∙◌}
use Rattle.fx_base.proofs.Chunking.{item_there}
use Rattle.fx_base.proofs.chunks.Chunks.get.Goals as goal

pub returns-in-Some : goal.returns-in-Some
returns-in-Some g c =
    let chunks = c.as_slice-chunks in
    c.item_at-in-Some.ensures
    ∙ (λ k. slice_get (c.items.ensures k) (c.args.i - c.before-in-Some.ensures k))
    ∙ item_there chunks.result.now chunks.ensures.chunks c.args.i c.chunk_at.result c.chunk_at.ensures c.in-Some.chunk.now (sym c.in-Some.ensures)
    ∙ ap (λ xs. slice_get xs c.args.i) chunks.ensures.items
