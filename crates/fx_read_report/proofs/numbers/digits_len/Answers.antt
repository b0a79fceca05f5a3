use Rattle.std.proofs.Common.{◌≡◌, false, get_or, sym, arith, rules}
use Rattle.std.proofs.lemmas.List.Sums.{prefix_len_is}
use Rattle.std.proofs.lemmas.Bool.{not-true}
use Rattle.fx_read_report.specs.Numbers.{is_digit}
use Rattle.fx_read_report.proofs.numbers.digits_len.Goals as goal

pub returns-then-not-is_digit : goal.returns-then-not-is_digit
returns-then-not-is_digit c =
    let stops : is_digit (get_or c.args.bytes.now c.loop-at.at 0) ≡ false = search (rules, not-true) in
    sym (prefix_len_is is_digit c.args.bytes.now c.loop-at.at 0 (omega arith) c.loop-at.invariant (λ _. stops))

pub returns : goal.returns
returns c =
    let end = c.loop-at-test.false in
    sym (prefix_len_is is_digit c.args.bytes.now _ 0 (omega arith) (λ k below. c.loop-at.invariant k (omega arith)) (λ more. absurd (omega arith)))
