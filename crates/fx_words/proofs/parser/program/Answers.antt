use Rattle.std.proofs.Common.{ap, get_or, ◌∙◌}
use Rattle.fx_words.specs.declared.form.CommandName.TheVariants.{Run}
use Rattle.fx_words.specs.Forms.{commands}
use Rattle.fx_words.specs.Parser.{with_command}
use Rattle.fx_words.proofs.Adding.{one_more}
use Rattle.fx_words.proofs.parser.program.Goals as goal

pub loop-name-preserved : goal.loop-name-preserved
loop-name-preserved c =
    c.in_ok-program.ensures
    ∙ ap (λ a. with_command a (get_or commands c.loop-name.name-index Run)) c.loop-name.invariant
    ∙ one_more commands c.loop-name.name-index Run c.loop-name-test.true
