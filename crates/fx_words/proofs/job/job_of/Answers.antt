use Rattle.std.proofs.Common.{◌≡◌, false, ap, sym, ◌∙◌, rules}
use Rattle.fx_words.specs.Forms.{has_form}
use Rattle.fx_words.specs.WordsOf.{texts_of}
use Rattle.fx_words.proofs.Asked.{no_form}
use Rattle.fx_words.proofs.job.job_of.Goals as goal

pub returns-in_err-form-clause-usage : goal.returns-in_err-form-clause-usage
returns-in_err-form-clause-usage c = λ usage.
    let texts : texts_of c.as_slice.result.now ≡ c.args.words.now = ap texts_of c.as_slice.ensures.value ∙ c.in_ok-texts.ensures in
    let form : has_form (texts_of c.as_slice.result.now) ≡ false = c.in_err-form.ensures.usage (search rules) in
    no_form c.args.words.now (sym (ap has_form texts) ∙ form)
