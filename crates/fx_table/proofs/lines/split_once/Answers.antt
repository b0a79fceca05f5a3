use Rattle.fx_table.proofs.Prelude.{◌≡◌, ◌+◌, ◌==◌, true, false, None, Some, rules, arith, subst, sym, take, IsFirst-from_position, YieldsList-from_slice, take_rest, slice_split_none, IsCut}
use borrow.Author.Tests.{tests}
use Rattle.fx_table.proofs.Lining.{cut_at}
use Rattle.fx_table.proofs.lines.split_once.Goals as goal

pub returns-in_default : goal.returns-in_default
returns-in_default c =
    let none = IsFirst-from_position _ _ None (λ b. (b == c.args.byte) ≡ true) (λ b. (b == c.args.byte) ≡ false) c.in_default.ensures.ran (YieldsList-from_slice c.args.text.now (cc)) (λ x q k. search (rules, tests)) (λ x q k. search (rules, tests)) in
    slice_split_none (λ b. b == c.args.byte) c.args.text.now (λ k d lt. none k d (omega arith) lt)

pub returns : goal.returns
returns c =
    let first = IsFirst-from_position _ _ (Some c.in-Some.i) (λ b. (b == c.args.byte) ≡ true) (λ b. (b == c.args.byte) ≡ false) c.in-Some.ensures.ran (YieldsList-from_slice c.args.text.now (cc)) (λ x q k. search (rules, tests)) (λ x q k. search (rules, tests)) in
    subst (IsCut c.args.byte c.args.text.now (take c.in-Some.i c.args.text.now)) (sym (take_rest c.args.text.now (c.in-Some.i + 1))) (cut_at c.args.text.now c.args.byte c.in-Some.i first)
