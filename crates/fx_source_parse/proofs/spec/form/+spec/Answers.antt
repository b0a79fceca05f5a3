use Rattle.std.proofs.Common.{◌≡◌, ◌-◌, suc, Err, sym, ap, ◌∙◌, subst, arith}
use Rattle.std.proofs.lemmas.List.{length-map}
use Rattle.fx_spec.specs.Views.{spec_tree}
use Rattle.fx_parse.specs.Stuck.{Unexpected, TooNested, Gives}
use Rattle.fx_parse.specs.Reader.{kinds}
use Rattle.fx_source_parse.specs.Descriptions.Reader.{read_spec}
use Rattle.fx_source_parse.proofs.Descriptions.Reading.{read_end, read_nothing, read_deep, read_form}
use Rattle.fx_source_parse.proofs.spec.form.+spec.Goals as goal

pub spec_at-returns-in_default : goal.spec_at-returns-in_default
spec_at-returns-in_default t c = ap (read_spec c.args.left) c.in_default.ensures ∙ read_end c.args.left

pub spec_at-returns-then-is_nothing : goal.spec_at-returns-then-is_nothing
spec_at-returns-then-is_nothing t c =
    read_nothing c.in-Some.first.now (kinds c.in-Some.rest.now) (kinds c.args.tokens.now) c.in_ok-start.start c.in-Some.ensures c.in_ok-start.ensures c.args.left (sym c.is_nothing.ensures ∙ c.if-is_nothing.true) ∙ ap (λ n. Err (Unexpected n)) (length-map c.args.tokens.now (λ s. s.token))

pub spec_at-returns-then-left-eq0 : goal.spec_at-returns-then-left-eq0
spec_at-returns-then-left-eq0 t c =
    read_deep c.in-Some.first.now (kinds c.in-Some.rest.now) (kinds c.args.tokens.now) c.in_ok-start.start c.in-Some.ensures c.in_ok-start.ensures c.args.left c.if-left-eq0.true (sym c.is_nothing.ensures ∙ c.if-is_nothing.false) ∙ ap (λ n. Err (TooNested n)) (length-map c.args.tokens.now (λ s. s.token))

pub spec_at-returns : goal.spec_at-returns
spec_at-returns t c =
    let more : c.args.left ≡ suc (c.args.left - 1) = omega (arith, c.if-left-eq0.false) in
    let same = read_form c.in-Some.first.now (kinds c.in-Some.rest.now) (kinds c.args.tokens.now) c.in_ok-start.start c.in-Some.ensures c.in_ok-start.ensures c.args.left (c.args.left - 1) more (sym c.is_nothing.ensures ∙ c.if-is_nothing.false) in
    subst (λ r. Gives (λ x. (spec_tree x.0, kinds x.1.now)) c.form_at.result r) (sym same) c.form_at.ensures
