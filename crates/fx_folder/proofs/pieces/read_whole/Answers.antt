use Rattle.fx_folder.proofs.Prelude.{◌≡◌, ◌++◌, Err, take, ap, arith, common_steps, err_of, is_file_at}
use Rattle.fx_outside.proofs.Views.{failed_at_back}
use Rattle.fx_folder.proofs.Reading.{begins, goes_on, ends}
use Rattle.fx_folder.proofs.pieces.read_whole.Goals as goal

pub reading-init : goal.reading-init
reading-init g c = begins (g.H.Host.view c.args.host.now) c.args.path.now _ c.new-text.ensures.items

pub returns-then-count-eq0-clause-read : goal.returns-then-count-eq0-clause-read
returns-then-count-eq0-clause-read g c =
    ends (g.H.Host.view c.args.host.now) (g.H.Host.view c.reading.host) (g.H.Host.view c.read.new.self) c.args.path.now c.reading.text.items c.read.new.buf _ c.in_ok-count.count c.reading.invariant c.in_ok-count.ensures.answer c.in_ok-count.ensures.cause (grind (arith, common_steps)) c.args.limit (omega (arith, c.if-count-eq0.true))

pub reading-preserved : goal.reading-preserved
reading-preserved g c =
    let longer : c.extend_from_slice.new.self.items ≡ c.reading.text.items ++ take c.in_ok-count.count c.read.new.buf = grind (arith, common_steps) in
    goes_on (g.H.Host.view c.args.host.now) (g.H.Host.view c.reading.host) (g.H.Host.view c.read.new.self) c.args.path.now c.reading.text.items c.read.new.buf _ c.in_ok-count.count c.reading.invariant c.in_ok-count.ensures.answer c.in_ok-count.ensures.cause (grind (arith, common_steps)) _ c.read.ensures.same c.read.ensures.strays.inside longer

pub returns-in_err-count-clause-failed : goal.returns-in_err-count-clause-failed
returns-in_err-count-clause-failed g c =
    rw (err_of c.from_residual.result c.in_err-count.field-0.0 c.from_residual.ensures.1)
    (λ failed. failed_at_back c.args.path.now (λ tree. is_file_at tree c.args.path.now) (g.H.Host.view c.args.host.now) (g.H.Host.view c.reading.host) (g.H.Host.view c.read.new.self) c.reading.invariant.reads (c.in_err-count.ensures.cause.failed (ap (λ e. Err e) failed)))
