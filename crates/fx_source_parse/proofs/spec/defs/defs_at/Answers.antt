use Rattle.std.proofs.Common.{◌≡◌, ◌+◌, ◌-◌, suc, length, sym, ap, ◌∙◌, subst, arith}
use Rattle.std.proofs.lemmas.List.{length-map}
use Rattle.fx_base.proofs.Errors.{err_of}
use Rattle.fx_parse.specs.Reader.{kinds}
use Rattle.fx_parse.specs.Stuck.{Stops}
use Rattle.fx_source_parse.specs.Descriptions.Reader.{defs_from}
use Rattle.fx_source_parse.proofs.Descriptions.Again.{defs_end}
use Rattle.fx_source_parse.proofs.Descriptions.Reading.{defs_are, defs_over, defs_more, defs_stops}
use Rattle.fx_source_parse.proofs.spec.defs.defs_at.Goals as goal

pub loop-i-init : goal.loop-i-init
loop-i-init c =
    let size : length c.args.tokens.now - 0 ≡ length (kinds c.args.tokens.now) = omega (arith, length-map c.args.tokens.now (λ s. s.token)) in
    defs_are 64 (length c.args.tokens.now - 0) (kinds c.args.tokens.now) size ∙ ap (λ l. defs_from 64 (length c.args.tokens.now - 0) l (kinds c.args.tokens.now)) (sym c.new-defs.ensures)

pub returns-then-not-begins_def : goal.returns-then-not-begins_def
returns-then-not-begins_def c =
    c.loop-i.invariant ∙ defs_end 64 (length c.args.tokens.now - c.loop-i._i) c.loop-i.defs (kinds c.loop-i.rest.now) (sym c.begins_def.ensures ∙ c.if-not-begins_def.true)

pub returns-in_err-rest : goal.returns-in_err-rest
returns-in_err-rest c =
    let more : length c.args.tokens.now - c.loop-i._i ≡ suc (length c.args.tokens.now - (c.loop-i._i + 1)) = omega arith in
    rw (err_of c.from_residual.result c.in_err-rest.field-0.0 c.from_residual.ensures.1)
    (subst (λ r. Stops c.in_err-rest.field-0.0 r) (sym c.loop-i.invariant) (defs_stops 64 (length c.args.tokens.now) c.loop-i._i (length c.args.tokens.now - (c.loop-i._i + 1)) more c.loop-i.defs (kinds c.loop-i.rest.now) c.in_err-rest.field-0.0 (sym c.begins_def.ensures ∙ c.if-not-begins_def.false) c.in_err-rest.ensures))

pub loop-i-preserved : goal.loop-i-preserved
loop-i-preserved c =
    let more : length c.args.tokens.now - c.loop-i._i ≡ suc (length c.args.tokens.now - (c.loop-i._i + 1)) = omega arith in
    c.loop-i.invariant ∙ defs_more 64 (length c.args.tokens.now) c.loop-i._i (length c.args.tokens.now - (c.loop-i._i + 1)) more c.loop-i.defs (kinds c.loop-i.rest.now) c.added_at.new.defs (kinds c.in_ok-rest.rest.now) (sym c.begins_def.ensures ∙ c.if-not-begins_def.false) c.in_ok-rest.ensures

pub returns : goal.returns
returns c =
    let over : length c.args.tokens.now - c.loop-i._i ≡ 0 = omega arith in
    c.loop-i.invariant ∙ defs_over 64 (length c.args.tokens.now - c.loop-i._i) c.loop-i.defs (kinds c.loop-i.rest.now) over
