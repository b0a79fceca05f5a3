use Rattle.std.proofs.Common.{sym, ◌∙◌, arith}
use Rattle.std.specs.Fmt.{decimal}
use Rattle.std.proofs.lemmas.Slice.Eq.{bytes_eq-Decides}
use Rattle.fx_words.proofs.Numbers.{number_is, none_below, none_named}
use Rattle.fx_words.proofs.decimal.shell_named.Goals as goal

pub loop-k-init : goal.loop-k-init
loop-k-init c = λ j below. absurd (omega (arith, below))

pub returns-then-is_decimal : goal.returns-then-is_decimal
returns-then-is_decimal c =
    sym (number_is c.args.count c.args.text.now c.loop-k.k c.loop-k-test.true (omega arith) ((bytes_eq-Decides (decimal c.loop-k.k) c.args.text.now).0 (sym c.is_decimal.ensures ∙ c.if-is_decimal.true)))

pub loop-k-preserved : goal.loop-k-preserved
loop-k-preserved c = none_below c.loop-k.k c.args.text.now c.loop-k.invariant (sym c.is_decimal.ensures ∙ c.if-is_decimal.false)

pub returns : goal.returns
returns c = sym (none_named c.args.count c.loop-k.k c.args.text.now (omega arith) c.loop-k.invariant)
