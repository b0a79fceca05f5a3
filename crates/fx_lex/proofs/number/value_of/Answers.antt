use Rattle.std.proofs.Common.{ap, ◌∙◌, subst, ◌<◌, ◌^◌, ◌+◌, arith}
use Rattle.std.proofs.lemmas.List.{take_all}
use Rattle.fx_lex.specs.Spelling.{digits_value}
use Rattle.fx_lex.proofs.Digits.{value_more, value_grows}
use Rattle.fx_lex.proofs.number.value_of.Goals as goal

-- a digit that leads past 64 bits leaves the whole value past them
pub returns-in-None : goal.returns-in-None
returns-in-None c small =
    let digits = c.args.digits.now in
    let i = c.loop-digit.digit-index in
    let more = value_more digits i c.loop-digit-test.true in
    let grows = value_grows digits (i + 1) in
    let was = c.loop-digit.invariant.0 in
    c.in-None.ensures (omega (arith, small, more, grows, was))

pub returns : goal.returns
returns c =
    let all = c.loop-digit.invariant.0 ∙ ap digits_value (take_all c.loop-digit.digit-index c.args.digits.now c.loop-digit-test.false) in
    (subst (λ v. v < 2 ^ 64) all c.loop-digit.invariant.1, all)
