use Rattle.std.proofs.Common.{◌≡◌, false, get_or, sym, arith, rules}
use Rattle.std.proofs.lemmas.List.Sums.{prefix_len_is}
use Rattle.std.proofs.lemmas.Bool.{not-true}
use Rattle.fx_lex.specs.Items.{is_plain}
use Rattle.fx_lex.proofs.string.plain_len.Goals as goal

pub returns-then-not-is_plain-clause-run : goal.returns-then-not-is_plain-clause-run
returns-then-not-is_plain-clause-run c =
    let stops : is_plain (get_or c.args.bytes.now c.loop-at.at 0) ≡ false = search (rules, not-true) in
    sym (prefix_len_is is_plain c.args.bytes.now c.loop-at.at 0 (omega arith) c.loop-at.invariant (λ _. stops))

pub returns-clause-run : goal.returns-clause-run
returns-clause-run c =
    let end = c.loop-at-test.false in
    sym (prefix_len_is is_plain c.args.bytes.now _ 0 (omega arith) (λ k below. c.loop-at.invariant k (omega arith)) (λ more. absurd (omega arith)))
