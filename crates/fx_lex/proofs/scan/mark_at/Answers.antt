use Rattle.std.proofs.Common.{sym, ◌∙◌, arith}
use Rattle.fx_lex.proofs.Marks.{IsNotTwice, two_stands, one_stands, short_not_twice, other_not_twice, unknown_not_twice}
use Rattle.fx_lex.proofs.scan.mark_at.Goals as goal
use Rattle.fx_lex.proofs.scan.mark_at.Goals.{else-bytes-gt1-via-then-bytes-gt1+else-bytes-first, else-bytes-gt1-via-else-bytes-gt1}

pub returns-in-Some : goal.returns-in-Some
returns-in-Some c =
    (omega arith, omega arith, two_stands c.args.bytes.now c.in-Some.mark (omega arith) c.requires.kind c.if-bytes-first.true (sym c.in-Some.ensures))

pub returns-in_default : goal.returns-in_default
returns-in_default c =
    let bytes = c.args.bytes.now in
    let not_twice = unknown_not_twice bytes (sym c.mark_of_two.ensures ∙ c.in_default.is) in
    (omega arith, omega arith, one_stands bytes c.args.alone c.requires.some c.requires.kind not_twice c.requires.mark)

pub returns-else-bytes-gt1 : goal.returns-else-bytes-gt1
returns-else-bytes-gt1 c =
    let bytes = c.args.bytes.now in
    let not_twice : IsNotTwice bytes =
    elim c.else-bytes-gt1.branch [
      | else-bytes-gt1-via-then-bytes-gt1+else-bytes-first w ↦ other_not_twice bytes w.if-bytes-first.false
      | else-bytes-gt1-via-else-bytes-gt1 w ↦ short_not_twice bytes w.if-bytes-gt1.false
    ] in
    (omega arith, omega arith, one_stands bytes c.args.alone c.requires.some c.requires.kind not_twice c.requires.mark)
