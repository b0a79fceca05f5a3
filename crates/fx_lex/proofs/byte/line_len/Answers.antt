use Rattle.std.proofs.Common.{◌≡◌, false, get_or, sym, ap, arith}
use Rattle.std.proofs.lemmas.List.Sums.{prefix_len_is}
use Rattle.fx_lex.specs.Reading.{is_within_line}
use Rattle.fx_lex.proofs.byte.line_len.Goals as goal

pub returns-then-b-eq10 : goal.returns-then-b-eq10
returns-then-b-eq10 c =
    let stops : is_within_line (get_or c.args.bytes.now c.loop-at.at 0) ≡ false = ap is_within_line c.if-b-eq10.true in
    sym (prefix_len_is is_within_line c.args.bytes.now c.loop-at.at 0 (omega arith) c.loop-at.invariant (λ _. stops))

pub returns : goal.returns
returns c =
    sym (prefix_len_is is_within_line c.args.bytes.now _ 0 (omega arith) (λ k below. c.loop-at.invariant k (omega arith)) (λ more. absurd (omega arith)))
