use Rattle.std.proofs.Common.{subst}
use Rattle.fx_base.proofs.Errors.{err_of}
use Rattle.fx_view.specs.declared.reader.Stop.TheVariants.{NoMemory}
use Rattle.fx_run.specs.Finishing.{IsFinished}
use Rattle.fx_run.proofs.Attempts.{attempted}
use Rattle.fx_run.proofs.engine.attempt.Goals as goal

pub returns-in_err-finished : goal.returns-in_err-finished
returns-in_err-finished g c = rw (err_of c.from_residual-in_err-finished.result NoMemory c.from_residual-in_err-finished.ensures.1) c.in_ok-ran.ensures.goes.1

pub returns : goal.returns
returns g c =
    let r = g.R.Reader in
    let taken = c.take_reads.ensures.taken in
    attempted r.meaning c.args.base.now.value.description c.args.commands.now c.args.shell c.args.txn c.args.reader.now c.pursue.new.reader c.take_reads.new.self c.in_ok-ran.ran c.in_ok-finished.finished _
    (λ k. record { shell = c.args.shell; txn = c.args.txn; reads = taken k; changes = c.in_ok-finished.finished.changes; outputs = c.in_ok-finished.finished.outputs; end = c.in_ok-finished.finished.end })
    c.in_ok-ran.ensures (subst (λ rs. IsFinished c.in_ok-ran.ran rs c.in_ok-finished.finished) c.reads.ensures c.in_ok-finished.ensures) c.take_reads.ensures.none c.take_reads.ensures.complete
    (λ start v. subst (λ rs. r.meaning.vouches start c.take_reads.new.self rs) taken (c.take_reads.ensures.vouched start v))
