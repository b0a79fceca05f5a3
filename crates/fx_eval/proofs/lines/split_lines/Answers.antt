use Rattle.std.proofs.Common.{ap, ◌∙◌, rules, nat_eq, nat_lt, length}
use borrow.Author.Tests.{tests}
use Rattle.std.specs.List.{filter}
use Rattle.std.specs.Slice.Iter.{split_rest, split_done, split_callee}
use Rattle.std.proofs.lemmas.Iterator.Consumers.{YieldsList-end}
use Rattle.std.proofs.lemmas.Iterator.Splits.{YieldsList-from_slice_split}
use Rattle.fx_eval.proofs.lines.split_lines.Goals as goal

pub returns : goal.returns
returns c =
    let end = YieldsList-end (YieldsList-from_slice_split _ (λ b. nat_eq b 10) c.args.text.now (ap split_rest c.into_iter-piece-iterator.ensures.into_iter_gives ∙ c.split-piece-items.ensures.rest) (ap split_done c.into_iter-piece-iterator.ensures.into_iter_gives ∙ c.split-piece-items.ensures.done) (ap split_callee c.into_iter-piece-iterator.ensures.into_iter_gives ∙ c.split-piece-items.ensures.closure) (λ x b q k. search (rules, tests))) c.loop-piece.yielded _ c.loop-piece.yielded_by _ _ c.in-None.is c.next.ensures.steps in
    c.loop-piece.invariant.2 ∙ ap (λ l. filter (λ p. nat_lt 0 (length p)) l) end.0
