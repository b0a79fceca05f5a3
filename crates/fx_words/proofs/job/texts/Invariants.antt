use Rattle.std.proofs.Common.{◌≡◌, ◌++◌}
use Rattle.std.specs.Slice.Iter.{iter_rest}
use Rattle.fx_words.specs.WordsOf.{texts_of}
use Rattle.fx_words.proofs.job.texts.Given as goal

abbrev pub invariant-loop-word : goal.invariant-loop-word
invariant-loop-word l = texts_of l.texts.items ++ iter_rest l.word-iterator ≡ l.words
