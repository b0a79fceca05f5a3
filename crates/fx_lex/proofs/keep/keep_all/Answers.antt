use Rattle.std.proofs.Common.{arith, sym}
use Rattle.std.proofs.lemmas.List.Edits.{map_over_more}
use Rattle.fx_lex.specs.Kept.{kept_at}
use Rattle.fx_lex.proofs.keep.keep_all.Goals as goal

pub loop-i-preserved : goal.loop-i-preserved
loop-i-preserved c =
    rw (c.keep.ensures, sym c.index-tokens-i.is)
    (map_over_more kept_at c.args.tokens.now c.loop-i.tokens c.loop-i.i c.index-tokens-i.result (omega arith) c.loop-i.invariant c.index-tokens-i.is)
