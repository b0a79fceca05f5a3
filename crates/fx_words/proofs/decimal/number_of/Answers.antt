use Rattle.std.proofs.Common.{◌≡◌, ◌<◌, ◌^◌, false, None, sym, ◌∙◌, arith, rules}
use Rattle.std.specs.Fmt.{decimal}
use Rattle.std.specs.Str.{bytes_eq}
use Rattle.fx_words.proofs.Numbers.{number_is, not_parsed, not_spelled}
use Rattle.fx_words.proofs.decimal.number_of.Goals as goal

pub returns-in_err-number : goal.returns-in_err-number
returns-in_err-number c =
    let none : c.from_residual.result ≡ None = search rules in
    none ∙ sym (not_parsed c.args.text.now c.parse.result c.in_err-number.ensures.value c.parse.ensures.value.0)

pub returns-then-ne : goal.returns-then-ne
returns-then-ne c =
    let spelled : c.format.result.now ≡ decimal c.in_ok-number.number = c.format.ensures.text in
    let isnt : bytes_eq (decimal c.in_ok-number.number) c.args.text.now ≡ false = search rules in
    sym (not_spelled c.args.text.now c.parse.result c.in_ok-number.number c.in_ok-number.ensures.value c.parse.ensures.value.0 isnt)

pub returns : goal.returns
returns c =
    let spelled : c.format.result.now ≡ decimal c.in_ok-number.number = c.format.ensures.text in
    let small : c.in_ok-number.number < 2 ^ 32 = search rules in
    sym (number_is (2 ^ 32) c.args.text.now c.in_ok-number.number small (omega (arith, small)) (search rules))
