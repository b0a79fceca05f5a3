use Rattle.std.proofs.Common.{rules}
use Rattle.std.specs.Prelude.{is_some}
use borrow.Author.Tests.{tests}
use Rattle.std.proofs.lemmas.Iterator.Search.{all_from_yields_List}
use Rattle.std.proofs.lemmas.Iterator.Splits.{YieldsList-from_slice_split}
use Rattle.fx_words.specs.Job.{decimal_number, is_comma}
use Rattle.fx_words.proofs.schedule.are_shells.Goals as goal

pub returns : goal.returns
returns c =
    all_from_yields_List (λ part. is_some (decimal_number c.args.count part)) _ _ _ c.all.ensures.ran (YieldsList-from_slice_split _ is_comma c.args.text.now c.split.ensures.rest c.split.ensures.done c.split.ensures.closure (λ x b q k. search (rules, tests))) (λ x b q k. search (rules, tests))
