use Rattle.std.proofs.Common.{◌++◌, drop, sym, ap, ◌∙◌, arith, append_assoc, rules}
use Rattle.std.specs.Fmt.{decimal}
use Rattle.std.proofs.lemmas.Fmt.{length-decimal-le}
use Rattle.fx_report.specs.Report.{field}
use Rattle.fx_report.proofs.pieces.write_field.Goals as goal

pub write_digits-digits-requires : goal.write_digits-digits-requires
write_digits-digits-requires c =
    let long = length-decimal-le 20 c.args.number (omega arith) (omega arith) c.ranges.number.fits in
    (omega (arith, long, c.requires), search rules)

pub write_bytes-requires : goal.write_bytes-requires
write_bytes-requires c =
    let long = length-decimal-le 20 c.args.number (omega arith) (omega arith) c.ranges.number.fits in
    let digits = c.write_digits-digits.ensures.start in
    (omega (arith, long, c.requires, digits), omega (arith, c.requires, digits))

pub returns-clause-room : goal.returns-clause-room
returns-clause-room c =
    let long = length-decimal-le 20 c.args.number (omega arith) (omega arith) c.ranges.number.fits in
    omega (arith, long, c.write_digits-digits.ensures.start, c.write_bytes.ensures.start)

pub returns-clause-written : goal.returns-clause-written
unfolding field
returns-clause-written c =
    let digits = c.write_digits-digits.ensures.written in
    c.write_bytes.ensures.written ∙ (ap (λ l. c.args.words.now ++ l) digits ∙ sym (append_assoc c.args.words.now (decimal c.args.number) (drop c.args.end c.args.piece.now)))
