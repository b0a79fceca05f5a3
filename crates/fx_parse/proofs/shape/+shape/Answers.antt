use Rattle.std.proofs.Common.{◌≡◌, ◌-◌, suc, Err, sym, ap, ◌∙◌, subst, arith}
use Rattle.std.proofs.lemmas.List.{length-map}
use Rattle.fx_expr.specs.Views.{shape_tree}
use Rattle.fx_parse.specs.Stuck.{Unexpected, TooNested, Gives}
use Rattle.fx_parse.specs.Reader.{kinds}
use Rattle.fx_parse.specs.ShapeReader.{read_shape}
use Rattle.fx_parse.proofs.ShapeLink.{read_end, read_nothing, read_deep, read_form}
use Rattle.fx_parse.proofs.shape.+shape.Goals as goal

pub shape_at-returns-in_default : goal.shape_at-returns-in_default
shape_at-returns-in_default t c = ap (read_shape c.args.left) c.in_default.ensures ∙ read_end c.args.left

pub shape_at-returns-then-is_no_shape : goal.shape_at-returns-then-is_no_shape
shape_at-returns-then-is_no_shape t c =
    read_nothing c.in-Some.first.now (kinds c.in-Some.rest.now) (kinds c.args.tokens.now) c.shape_of-start.result c.in-Some.ensures c.shape_of-start.ensures c.args.left (sym c.is_no_shape.ensures ∙ c.if-is_no_shape.true) ∙ ap (λ n. Err (Unexpected n)) (length-map c.args.tokens.now (λ s. s.token))

pub shape_at-returns-then-left-eq0 : goal.shape_at-returns-then-left-eq0
shape_at-returns-then-left-eq0 t c =
    read_deep c.in-Some.first.now (kinds c.in-Some.rest.now) (kinds c.args.tokens.now) c.shape_of-start.result c.in-Some.ensures c.shape_of-start.ensures c.args.left c.if-left-eq0.true (sym c.is_no_shape.ensures ∙ c.if-is_no_shape.false) ∙ ap (λ n. Err (TooNested n)) (length-map c.args.tokens.now (λ s. s.token))

pub shape_at-returns : goal.shape_at-returns
shape_at-returns t c =
    let more : c.args.left ≡ suc (c.args.left - 1) = omega (arith, c.if-left-eq0.false) in
    let same = read_form c.in-Some.first.now (kinds c.in-Some.rest.now) (kinds c.args.tokens.now) c.shape_of-start.result c.in-Some.ensures c.shape_of-start.ensures c.args.left (c.args.left - 1) more (sym c.is_no_shape.ensures ∙ c.if-is_no_shape.false) in
    subst (λ r. Gives (λ x. (shape_tree x.0, kinds x.1.now)) c.shape_form_at.result r) (sym same) c.shape_form_at.ensures
