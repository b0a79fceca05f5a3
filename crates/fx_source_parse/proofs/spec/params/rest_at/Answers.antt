use Rattle.std.proofs.Common.{◌≡◌, ◌+◌, ◌-◌, suc, Err, None, Some, length, sym, ap, ◌∙◌, subst, arith}
use Rattle.std.specs.Option.{option_map}
use Rattle.std.proofs.lemmas.List.{length-map}
use Rattle.fx_base.proofs.Errors.{err_of}
use Rattle.fx_parse.specs.Stuck.{Unexpected, Stops}
use Rattle.fx_parse.specs.Reader.{kinds}
use Rattle.fx_parse.specs.ShapeReader.{read_shape}
use Rattle.fx_source_parse.specs.Descriptions.Lists.{closed}
use Rattle.fx_source_parse.specs.Descriptions.Reader.{param_at}
use Rattle.fx_source_parse.proofs.Descriptions.Reading.{others_closed, others_more, others_stops, others_over, rest_is}
use Rattle.fx_source_parse.proofs.spec.params.rest_at.Goals as goal

pub loop-i-init : goal.loop-i-init
loop-i-init c =
    let size : length c.args.tokens.now - 0 ≡ length (kinds c.args.tokens.now) = omega (arith, length-map c.args.tokens.now (λ s. s.token)) in
    rest_is (param_at (read_shape c.args.left)) c.args.params.now (length c.args.tokens.now - 0) (kinds c.args.tokens.now) size

pub returns-in-Some : goal.returns-in-Some
returns-in-Some c =
    let more : length c.args.tokens.now - c.loop-i._i ≡ suc (length c.args.tokens.now - (c.loop-i._i + 1)) = omega arith in
    let found : closed (kinds c.loop-i.rest.now) ≡ Some (kinds c.in-Some.behind.now) = sym c.closed.ensures ∙ ap (option_map (λ r. kinds r.now)) c.in-Some.is in
    c.loop-i.invariant ∙ others_closed (param_at (read_shape c.args.left)) (length c.args.tokens.now) c.loop-i._i (length c.args.tokens.now - (c.loop-i._i + 1)) more c.loop-i.params (kinds c.loop-i.rest.now) (kinds c.in-Some.behind.now) found

pub returns-in_err-rest : goal.returns-in_err-rest
returns-in_err-rest c =
    let more : length c.args.tokens.now - c.loop-i._i ≡ suc (length c.args.tokens.now - (c.loop-i._i + 1)) = omega arith in
    let none : closed (kinds c.loop-i.rest.now) ≡ None = sym c.closed.ensures ∙ ap (option_map (λ r. kinds r.now)) c.in_default.is in
    rw (err_of c.from_residual.result c.in_err-rest.field-0.0 c.from_residual.ensures.1)
    (subst (λ r. Stops c.in_err-rest.field-0.0 r) (sym c.loop-i.invariant) (others_stops (param_at (read_shape c.args.left)) (length c.args.tokens.now) c.loop-i._i (length c.args.tokens.now - (c.loop-i._i + 1)) more c.loop-i.params (kinds c.loop-i.rest.now) c.in_err-rest.field-0.0 none c.in_err-rest.ensures))

pub loop-i-preserved : goal.loop-i-preserved
loop-i-preserved c =
    let more : length c.args.tokens.now - c.loop-i._i ≡ suc (length c.args.tokens.now - (c.loop-i._i + 1)) = omega arith in
    let none : closed (kinds c.loop-i.rest.now) ≡ None = sym c.closed.ensures ∙ ap (option_map (λ r. kinds r.now)) c.in_default.is in
    c.loop-i.invariant ∙ others_more (param_at (read_shape c.args.left)) (length c.args.tokens.now) c.loop-i._i (length c.args.tokens.now - (c.loop-i._i + 1)) more c.loop-i.params (kinds c.loop-i.rest.now) c.another_at.new.params (kinds c.in_ok-rest.rest.now) none c.in_ok-rest.ensures

pub returns : goal.returns
returns c =
    let over : length c.args.tokens.now - c.loop-i._i ≡ 0 = omega arith in
    c.loop-i.invariant ∙ others_over (param_at (read_shape c.args.left)) (length c.args.tokens.now - c.loop-i._i) c.loop-i.params (kinds c.loop-i.rest.now) over ∙ ap (λ n. Err (Unexpected n)) (length-map c.loop-i.rest.now (λ s. s.token))
