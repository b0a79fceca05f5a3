use Rattle.fx_base.proofs.Errors.{err_of}
use Rattle.fx_table.proofs.Bodies.{reads_all, lacks_all, stops_all}
use Rattle.fx_table.proofs.lines.read_lines.Goals as goal

pub returns-in_err-lines-clause-cause : goal.returns-in_err-lines-clause-cause
returns-in_err-lines-clause-cause g c =
    rw (err_of c.from_residual.result c.in_err-lines.field-0.0 c.from_residual.ensures.1)
    (stops_all (g.G.Ground.store c.args.ground.now) c.args.room c.args.text.now c.body_of.result.now c.is_second-flags.result c.first_number.result c.is_second-flags.ensures c.body_of.ensures c.first_number.ensures.number c.in_err-lines.field-0.0 c.in_err-lines.ensures.cause)

pub returns-then-lacks_flags-clause-cause : goal.returns-then-lacks_flags-clause-cause
returns-then-lacks_flags-clause-cause g c =
    lacks_all (g.G.Ground.store c.args.ground.now) c.args.room c.args.text.now c.body_of.result.now c.is_second-flags.result c.first_number.result c.is_second-flags.ensures c.body_of.ensures c.first_number.ensures.number c.in_ok-lines.lines c.lacks_flags.result c.in_ok-lines.ensures.read c.lacks_flags.ensures c.if-lacks_flags.true

pub returns-clause-read : goal.returns-clause-read
returns-clause-read g c =
    reads_all (g.G.Ground.store c.args.ground.now) c.args.room c.args.text.now c.body_of.result.now c.is_second-flags.result c.first_number.result c.is_second-flags.ensures c.body_of.ensures c.first_number.ensures.number c.in_ok-lines.lines c.lacks_flags.result c.in_ok-lines.ensures.read c.lacks_flags.ensures c.if-lacks_flags.false
