use Rattle.fx_table.proofs.Prelude.{◌==◌, ◌+◌, ℕ, List, length, refl, sym, ap, ◌∙◌, false≢true, err_of, no_length, over}
use Rattle.fx_table.proofs.Lining.{reading_none, reading_more, reading_end, reading_stops}
use Rattle.fx_table.proofs.lines.read_body.Goals as goal

pub reading-init : goal.reading-init
reading-init g c = reading_none (over (g.G.Ground.store c.args.ground.now) c.args.flags) c.args.room c.args.first c.args.text.now c.new-lines.result c.new-lines.ensures

pub returns-in_err-rest-clause-cause : goal.returns-in_err-rest-clause-cause
returns-in_err-rest-clause-cause g c =
    rw (err_of c.from_residual.result c.in_err-rest.field-0.0 c.from_residual.ensures.1)
    (reading_stops (over (g.G.Ground.store c.args.ground.now) c.args.flags) c.args.room c.args.first c.args.text.now c.reading.lines c.reading.room c.reading.number c.reading.rest.now c.reading.invariant c.in_err-rest.field-0.0
    (λ none. false≢true (sym c.reading-test.true ∙ (c.is_empty.ensures ∙ ap (λ (l : List ℕ). length l == 0) none)))
    c.in_err-rest.ensures.cause)

pub reading-preserved : goal.reading-preserved
reading-preserved g c = reading_more (over (g.G.Ground.store c.args.ground.now) c.args.flags) c.args.room c.args.first c.args.text.now c.reading.lines c.reading.room c.reading.number c.reading.rest.now c.reading.invariant c.next_line.new.lines c.next_line.new.room (c.reading.number + 1) c.in_ok-rest.rest.now refl c.in_ok-rest.ensures.read

pub returns-clause-read : goal.returns-clause-read
returns-clause-read g c = reading_end (over (g.G.Ground.store c.args.ground.now) c.args.flags) c.args.room c.args.first c.args.text.now c.reading.lines c.reading.room c.reading.number c.reading.rest.now c.reading.invariant (no_length c.reading.rest.now (sym c.is_empty.ensures ∙ c.reading-test.false))
