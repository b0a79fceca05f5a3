use Rattle.std.proofs.Common.{◌+◌, ◌-◌, ◌∷◌, [], length, arith, rules}
use Rattle.std.proofs.lemmas.Grind.{common_steps}
use Rattle.fx_report.proofs.Writing.{next_byte, whole_name}
use Rattle.fx_report.proofs.pieces.write_name.Goals as goal

pub loop-i-preserved : goal.loop-i-preserved
loop-i-preserved c =
    let start = c.args.end - 1 - length c.args.name.now in
    (grind (arith, common_steps), next_byte c.loop-i.piece c.args.piece.now (47 ∷ []) c.args.name.now start (start + 1 + c.loop-i.i) (start + 1 + (c.loop-i.i + 1)) c.loop-i.i (omega arith) (omega arith) c.loop-i.invariant.1 (omega arith) (search rules))

pub returns : goal.returns
returns c =
    let start = c.args.end - 1 - length c.args.name.now in
    (omega arith, omega arith, whole_name c.loop-i.piece c.args.piece.now c.args.name.now start c.args.end c.loop-i.i (omega arith) (omega arith) c.loop-i.invariant.0 c.loop-i.invariant.1)
