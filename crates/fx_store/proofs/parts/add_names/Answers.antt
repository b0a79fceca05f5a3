use Rattle.std.proofs.Common.{ap, ◌∙◌, rules}
use borrow.Author.Tests.{tests}
use Rattle.std.specs.List.{slice_split}
use Rattle.std.specs.Slice.Iter.{split_rest, split_done, split_callee}
use Rattle.std.proofs.lemmas.Iterator.Consumers.{YieldsList-turn, YieldsList-end}
use Rattle.std.proofs.lemmas.Iterator.Splits.{YieldsList-from_slice_split}
use Rattle.fx_base.proofs.Lists.{passes_at}
use Rattle.fx_store.specs.Names.{is_name, is_slash}
use Rattle.fx_store.proofs.parts.add_names.Goals as goal

pub of-requires : goal.of-requires
of-requires c =
    let turn = YieldsList-turn (YieldsList-from_slice_split _ is_slash c.args.text.now (ap split_rest c.into_iter-part-iterator.ensures.into_iter_gives ∙ c.split-part-items.ensures.rest) (ap split_done c.into_iter-part-iterator.ensures.into_iter_gives ∙ c.split-part-items.ensures.done) (ap split_callee c.into_iter-part-iterator.ensures.into_iter_gives ∙ c.split-part-items.ensures.closure) (λ x b q k. search (rules, tests))) c.loop-part.yielded _ c.loop-part.yielded_by _ _ c.in-Some.part c.in-Some.is c.next.ensures.steps in
    passes_at is_name (slice_split is_slash c.args.text.now) _ c.in-Some.part.now c.requires turn

pub returns : goal.returns
returns c =
    let end = YieldsList-end (YieldsList-from_slice_split _ is_slash c.args.text.now (ap split_rest c.into_iter-part-iterator.ensures.into_iter_gives ∙ c.split-part-items.ensures.rest) (ap split_done c.into_iter-part-iterator.ensures.into_iter_gives ∙ c.split-part-items.ensures.done) (ap split_callee c.into_iter-part-iterator.ensures.into_iter_gives ∙ c.split-part-items.ensures.closure) (λ x b q k. search (rules, tests))) c.loop-part.yielded _ c.loop-part.yielded_by _ _ c.in-None.is c.next.ensures.steps in
    rw (c.loop-part.invariant.2, end.0) (search rules)
