use Rattle.std.proofs.Common.{◌≡◌, ◌+◌, ◌-◌, suc, length, sym, ap, ◌∙◌, subst, arith}
use Rattle.std.proofs.lemmas.List.{length-map}
use Rattle.fx_base.proofs.Errors.{err_of}
use Rattle.fx_parse.specs.Reader.{kinds}
use Rattle.fx_parse.specs.Stuck.{Stops}
use Rattle.fx_source_parse.specs.Scripts.Reader.{txns_at}
use Rattle.fx_source_parse.proofs.Scripts.Reading.{script_is, txns_done, txns_over, txns_more, txns_stops}
use Rattle.fx_source_parse.proofs.script.txns.script_of.Goals as goal

pub loop-i-init : goal.loop-i-init
loop-i-init c =
    let size : length c.args.tokens.now - 0 ≡ length (kinds c.args.tokens.now) = omega (arith, length-map c.args.tokens.now (λ s. s.token)) in
    script_is (length c.args.tokens.now - 0) (kinds c.args.tokens.now) size ∙ ap (λ l. txns_at (length c.args.tokens.now - 0) l (kinds c.args.tokens.now)) (sym c.new-txns.ensures)

pub returns-then-is_empty : goal.returns-then-is_empty
returns-then-is_empty c =
    c.loop-i.invariant ∙ txns_done (length c.args.tokens.now - c.loop-i._i) c.loop-i.txns c.loop-i.rest.now (sym c.is_empty.ensures ∙ c.if-is_empty.true)

pub returns-in_err-rest : goal.returns-in_err-rest
returns-in_err-rest c =
    let more : length c.args.tokens.now - c.loop-i._i ≡ suc (length c.args.tokens.now - (c.loop-i._i + 1)) = omega arith in
    rw (err_of c.from_residual.result c.in_err-rest.field-0.0 c.from_residual.ensures.1)
    (subst (λ r. Stops c.in_err-rest.field-0.0 r) (sym c.loop-i.invariant) (txns_stops (length c.args.tokens.now) c.loop-i._i (length c.args.tokens.now - (c.loop-i._i + 1)) more c.loop-i.txns c.loop-i.rest.now c.in_err-rest.field-0.0 (sym c.is_empty.ensures ∙ c.if-is_empty.false) c.in_err-rest.ensures))

pub loop-i-preserved : goal.loop-i-preserved
loop-i-preserved c =
    let more : length c.args.tokens.now - c.loop-i._i ≡ suc (length c.args.tokens.now - (c.loop-i._i + 1)) = omega arith in
    c.loop-i.invariant ∙ txns_more (length c.args.tokens.now) c.loop-i._i (length c.args.tokens.now - (c.loop-i._i + 1)) more c.loop-i.txns c.loop-i.rest.now c.txn_added_at.new.txns (kinds c.in_ok-rest.rest.now) (sym c.is_empty.ensures ∙ c.if-is_empty.false) c.in_ok-rest.ensures

pub returns-then-is_empty-2 : goal.returns-then-is_empty-2
returns-then-is_empty-2 c =
    c.loop-i.invariant ∙ txns_done (length c.args.tokens.now - c.loop-i._i) c.loop-i.txns c.loop-i.rest.now (sym c.is_empty-2.ensures ∙ c.if-is_empty-2.true)

pub returns : goal.returns
returns c =
    let over : length c.args.tokens.now - c.loop-i._i ≡ 0 = omega arith in
    c.loop-i.invariant ∙ txns_over (length c.args.tokens.now - c.loop-i._i) c.loop-i.txns c.loop-i.rest.now over (sym c.is_empty-2.ensures ∙ c.if-is_empty-2.false)
