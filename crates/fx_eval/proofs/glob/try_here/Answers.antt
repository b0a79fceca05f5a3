use Rattle.std.proofs.Common.{◌∙◌, sym, arith, below_more}
use Rattle.fx_eval.proofs.Globbing.{byte_matches_next}
use Rattle.fx_eval.proofs.glob.try_here.Goals as goal

pub loop-i-preserved : goal.loop-i-preserved
loop-i-preserved c = record {
  room = omega arith;
  plain = below_more _ _ c.loop-i.invariant.plain c.if-byte-eq42.false;
  matched = c.loop-i.invariant.matched
      ∙ byte_matches_next c.args.glob.now c.args.text.now c.loop-i.i (omega arith) (omega arith) c.if-byte-eq42.false (sym c.if-not-stands_for.ensures);
}
