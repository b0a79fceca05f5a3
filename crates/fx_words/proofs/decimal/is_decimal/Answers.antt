use Rattle.std.proofs.Common.{sym, ap, ◌∙◌}
use Rattle.std.specs.Str.{bytes_eq}
use Rattle.fx_words.proofs.Decimals.{one_digit, both_digits}
use Rattle.fx_words.proofs.decimal.is_decimal.Goals as goal

pub returns-then-number-lt10 : goal.returns-then-number-lt10
returns-then-number-lt10 c =
    c.eq.ensures ∙ ap (λ xs. bytes_eq xs c.args.text.now) (c.as_slice.ensures ∙ sym (one_digit c.args.number c.if-number-lt10.true))

pub returns : goal.returns
returns c =
    c.eq-2.ensures ∙ ap (λ xs. bytes_eq xs c.args.text.now) (c.as_slice-2.ensures ∙ sym (both_digits c.args.number c.if-number-lt10.false c.requires))
