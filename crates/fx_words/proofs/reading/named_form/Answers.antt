use Rattle.std.proofs.Common.{Some, None, ap, ◌∙◌, codes}
use Rattle.fx_words.specs.WordsOf.{texts_of}
use Rattle.fx_words.proofs.Found.{form_is, rows_in, texts_are}
use Rattle.fx_words.proofs.reading.named_form.Goals as goal

pub returns-in-None-get_strs : goal.returns-in-None-get_strs
returns-in-None-get_strs c =
    form_is c.args.name.now (rows_in c.args.found.now) (Some c.in-Some.command) None c.in-Some.ensures (texts_are c.args.found.now (codes "argument") None c.in-None-get_strs.ensures)

pub returns : goal.returns
returns c =
    form_is c.args.name.now (rows_in c.args.found.now) (Some c.in-Some.command) (Some (texts_of c.in_ok-arguments-in-Some-get_strs.arguments.items)) c.in-Some.ensures
    (texts_are c.args.found.now (codes "argument") _ (ap (λ xs. Some (texts_of xs)) c.in_ok-arguments-in-Some-get_strs.ensures.items ∙ c.in-Some-get_strs.ensures))
