use Rattle.std.proofs.Common.{arith, drop}
use Rattle.fx_report.proofs.Writing.{name_before}
use Rattle.fx_report.proofs.pieces.write_names.Goals as goal

pub loop-i-preserved : goal.loop-i-preserved
loop-i-preserved c =
    let fits = c.in_ok-start.ensures in
    let so_far = c.loop-i.invariant in
    (fits.0, omega (arith, fits.1, so_far.1), name_before c.args.path.now c.in-Some.name.now c.as_slice.result.now _ _ (drop c.args.end c.args.piece.now) c.loop-i.i (omega arith) c.in-Some.ensures.name c.as_slice.ensures.bytes so_far.2 fits.2)
