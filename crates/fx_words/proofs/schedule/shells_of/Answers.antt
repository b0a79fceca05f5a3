use Rattle.std.proofs.Common.{ap, ◌∙◌, rules}
use borrow.Author.Tests.{tests}
use Rattle.std.specs.Prelude.{is_some}
use Rattle.std.specs.List.{slice_split}
use Rattle.std.specs.Slice.Iter.{split_rest, split_done, split_callee}
use Rattle.std.proofs.lemmas.Iterator.Consumers.{YieldsList-turn, YieldsList-end}
use Rattle.std.proofs.lemmas.Iterator.Splits.{YieldsList-from_slice_split}
use Rattle.fx_base.proofs.Lists.{passes_at}
use Rattle.fx_words.specs.Job.{decimal_number, is_comma}
use Rattle.fx_words.proofs.Lists.{not_none, named_more}
use Rattle.fx_words.proofs.schedule.shells_of.Goals as goal

pub unreachable-requires : goal.unreachable-requires
unreachable-requires c =
    let turn = YieldsList-turn (YieldsList-from_slice_split _ is_comma c.args.text.now (ap split_rest c.into_iter-part-iterator.ensures.into_iter_gives ∙ c.split-part-items.ensures.rest) (ap split_done c.into_iter-part-iterator.ensures.into_iter_gives ∙ c.split-part-items.ensures.done) (ap split_callee c.into_iter-part-iterator.ensures.into_iter_gives ∙ c.split-part-items.ensures.closure) (λ x b q k. search (rules, tests))) c.loop-part.yielded _ c.loop-part.yielded_by _ _ c.in-Some.part c.in-Some.is c.next.ensures.steps in
    not_none _ (passes_at (λ part. is_some (decimal_number c.args.count part)) (slice_split is_comma c.args.text.now) _ c.in-Some.part.now c.requires.shells turn) c.in-None-shell_named.ensures

pub loop-part-preserved : goal.loop-part-preserved
loop-part-preserved c = (
  search rules,
  search rules,
  rw c.in_ok-push-in-Some-shell_named.ensures.items (named_more (λ x. x.now) c.args.count c.loop-part.yielded c.in-Some.part c.loop-part.shells.items c.in-Some-shell_named.shell c.loop-part.invariant.2 c.in-Some-shell_named.ensures),
)

pub returns : goal.returns
returns c =
    let end = YieldsList-end (YieldsList-from_slice_split _ is_comma c.args.text.now (ap split_rest c.into_iter-part-iterator.ensures.into_iter_gives ∙ c.split-part-items.ensures.rest) (ap split_done c.into_iter-part-iterator.ensures.into_iter_gives ∙ c.split-part-items.ensures.done) (ap split_callee c.into_iter-part-iterator.ensures.into_iter_gives ∙ c.split-part-items.ensures.closure) (λ x b q k. search (rules, tests))) c.loop-part.yielded _ c.loop-part.yielded_by _ _ c.in-None.is c.next.ensures.steps in
    rw (← end.0) c.loop-part.invariant.2
