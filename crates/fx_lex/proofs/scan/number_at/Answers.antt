use Rattle.std.proofs.Common.{◌<◌, ◌≤◌, length, take, arith, subst, sym, rules}
use Rattle.std.proofs.lemmas.List.Sums.{prefix_len-le-length}
use Rattle.fx_lex.specs.Spelling.{is_digit, IsDigitRun}
use Rattle.fx_lex.proofs.Stands.{number_run, number_stands, number_none}
use Rattle.fx_lex.proofs.scan.number_at.Goals as goal

pub number_of-requires : goal.number_of-requires
number_of-requires c =
    let bytes = c.args.bytes.now in
    subst (λ n. IsDigitRun (take n bytes)) (sym c.digits_len-len.ensures) (number_run bytes c.requires.some c.requires.digit).0

pub returns-in-Some : goal.returns-in-Some
returns-in-Some c =
    let bytes = c.args.bytes.now in
    let len = c.digits_len-len.result in
    let some : 0 < len = omega (arith, c.digits_len-len.ensures, (number_run bytes c.requires.some c.requires.digit).1) in
    let within : len ≤ length bytes = omega (arith, c.digits_len-len.ensures, prefix_len-le-length is_digit bytes) in
    let spelled = c.in-Some.ensures.some in
    (some, within, number_stands bytes len _ c.requires.some c.requires.digit c.digits_len-len.ensures (spelled.0, spelled.1, search rules))

pub returns-in-None : goal.returns-in-None
returns-in-None c =
    number_none c.args.bytes.now c.digits_len-len.result c.requires.some c.requires.digit c.digits_len-len.ensures c.in-None.ensures.none
