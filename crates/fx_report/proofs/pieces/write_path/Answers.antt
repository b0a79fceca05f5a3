use Rattle.std.proofs.Common.{arith}
use Rattle.std.proofs.lemmas.List.{nil_from_length}
use Rattle.fx_report.specs.Print.{spelled}
use Rattle.fx_report.proofs.pieces.write_path.Goals as goal

pub returns-then-len-eq0 : goal.returns-then-len-eq0
unfolding spelled
returns-then-len-eq0 c =
    let root = nil_from_length c.args.path.now (omega arith) in
    let start = c.write_bytes.ensures.start in
    rw root (omega (arith, start, c.requires), omega (arith, start), c.write_bytes.ensures.written)
