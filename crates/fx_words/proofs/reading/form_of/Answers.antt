use Rattle.std.proofs.Common.{◌≡◌, IfOk, Some, sym, subst}
use Rattle.std.specs.Option.{option_map}
use Rattle.clap.specs.Words.{subcommand_rows_of}
use Rattle.fx_words.specs.Matched.{words_in}
use Rattle.fx_words.specs.WordsOf.{words_of}
use Rattle.fx_words.proofs.Found.{both_found, rows_in}
use Rattle.fx_words.proofs.reading.form_of.Goals as goal

pub returns : goal.returns
returns c =
    let is : subcommand_rows_of c.args.matches.now ≡ Some (c.in-Some.met.0.now, rows_in c.in-Some.met.1.now) =
    both_found _ _ _ c.in-Some.met.0.now (rows_in c.in-Some.met.1.now) c.in-Some.ensures.name c.in-Some.ensures.rows in
    subst (λ o. IfOk c.named_form.result (λ form. option_map words_of form ≡ words_in o)) (sym is) c.named_form.ensures
