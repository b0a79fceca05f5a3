use Rattle.std.proofs.Common.{Err, sym, ap, ◌∙◌}
use Rattle.std.proofs.lemmas.List.{length-map}
use Rattle.fx_parse.specs.Reader.{kinds, read_expr}
use Rattle.fx_parse.specs.Stuck.{Unexpected}
use Rattle.fx_source_parse.specs.Scripts.Reader.{act_start}
use Rattle.fx_source_parse.proofs.Scripts.Reading.{no_act}
use Rattle.fx_source_parse.proofs.script.act.act_at.Goals as goal

pub returns-in-None-act_start : goal.returns-in-None-act_start
returns-in-None-act_start c =
    no_act (read_expr c.args.left) c.in-Some.first.now (kinds c.in-Some.rest.now) (kinds c.args.tokens.now) c.in-Some.ensures (ap act_start (sym c.start_of.ensures) ∙ sym c.act_start.ensures ∙ c.in-None-act_start.is) ∙ ap (λ n. Err (Unexpected n)) (length-map c.args.tokens.now (λ s. s.token))
