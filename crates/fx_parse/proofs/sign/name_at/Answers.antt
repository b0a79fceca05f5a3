use Rattle.std.proofs.Common.{Err, ◌∷◌, sym, ap, ◌∙◌}
use Rattle.std.proofs.lemmas.List.{length-map}
use Rattle.fx_parse.specs.Grammars.{is_name}
use Rattle.fx_parse.specs.Reader.{kinds}
use Rattle.fx_parse.specs.Stuck.{Unexpected}
use Rattle.fx_parse.proofs.Signs.{no_name}
use Rattle.fx_parse.proofs.sign.name_at.Goals as goal

pub returns-else-is_name : goal.returns-else-is_name
returns-else-is_name c =
    let kept = ap is_name (sym c.as_slice.ensures.value) ∙ sym c.is_name.ensures ∙ c.if-is_name.false in
    let found = c.in-Some-Word-default.ensures ∙ ap (λ x. x ∷ kinds c.in-Some-Word-default.rest.now) c.in-Some-Word-default.field-0-0-is in
    no_name (kinds c.args.tokens.now) (kinds c.in-Some-Word-default.rest.now) c.in-Some-Word-default.word found kept ∙ ap (λ n. Err (Unexpected n)) (length-map c.args.tokens.now (λ s. s.token))
