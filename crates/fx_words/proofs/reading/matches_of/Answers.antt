use Rattle.clap.specs.Words.{app_of}
use Rattle.fx_words.specs.WordsOf.{texts_of}
use Rattle.fx_words.proofs.Taken.{by_usage, read, simple_and_free, taken, untaken}
use Rattle.fx_words.proofs.reading.matches_of.Goals as goal

pub returns-in_err-matches-clause-usage : goal.returns-in_err-matches-clause-usage
returns-in_err-matches-clause-usage c = λ usage.
    let a = app_of c.in_ok-program.program in
    let words = texts_of c.args.words.now in
    untaken a words c.in_ok-program.ensures c.requires c.in_err-matches.field-0.0
    (c.in_err-matches.ensures.kinds (simple_and_free a words c.in_ok-program.ensures c.requires))
    (by_usage c.from_residual-in_err-matches.result c.in_err-matches.field-0.0 c.from_residual-in_err-matches.ensures.1 usage)

pub returns-clause-form : goal.returns-clause-form
returns-clause-form c =
    let a = app_of c.in_ok-program.program in
    let words = texts_of c.args.words.now in
    taken a words c.in_ok-program.ensures c.requires c.in_ok-matches.matches
    (c.in_ok-matches.ensures.kinds (simple_and_free a words c.in_ok-program.ensures c.requires))

pub returns-clause-words : goal.returns-clause-words
returns-clause-words c =
    let a = app_of c.in_ok-program.program in
    let words = texts_of c.args.words.now in
    read a words c.in_ok-program.ensures c.requires c.in_ok-matches.matches
    (c.in_ok-matches.ensures.kinds (simple_and_free a words c.in_ok-program.ensures c.requires)) c.in_ok-matches.ensures.matches
