use Rattle.std.proofs.Common.{IfSome, sym, subst}
use Rattle.fx_words.specs.Job.{job_of}
use Rattle.fx_words.specs.JobOf.{asked_job}
use Rattle.fx_top.specs.Rows.{Row, Completes}
use Rattle.fx_top.proofs.Completing.{completes, unread_row, unread_fit, unread_disk, unread_order, unread_completes, whatever}
use Rattle.fx_top.proofs.top.top.Goals as goal

pub returns-in-Ok-clause-complete : goal.returns-in-Ok-clause-complete
returns-in-Ok-clause-complete g c =
    let job = asked_job c.in-Ok.job in
    let host = g.H.Host.view c.args.host.now in
    let host' = g.H.Host.view c.run_job.new.host in
    let sink = g.S.Sink.view c.args.out.now in
    let sink' = g.S.Sink.view c.run_job.new.out in
    let disk = g.D.Disk.view c.args.disk.now in
    let disk' = g.D.Disk.view c.run_job.new.disk in
    let row = subst (λ st. Row (asked_job c.in-Ok.job) (g.H.Host.view c.args.host.now) (g.H.Host.view c.run_job.new.host) (g.S.Sink.view c.args.out.now) (g.S.Sink.view c.run_job.new.out) (g.D.Disk.view c.args.disk.now) (g.D.Disk.view c.run_job.new.disk) st) (sym c.status_of.ensures) c.run_job.ensures.row in
    subst (λ o. IfSome o (λ j. Completes j host host' sink sink' disk disk' c.status_of.result)) (sym c.in-Ok.ensures.asked)
    (completes job host host' sink sink' disk disk' c.status_of.result row)

pub returns-in-Err-NoMemory-clause-rows : goal.returns-in-Err-NoMemory-clause-rows
returns-in-Err-NoMemory-clause-rows g c = whatever _ (job_of c.args.words.now) (λ j. unread_row j (g.H.Host.view c.args.host.now) (g.S.Sink.view c.args.out.now) (g.D.Disk.view c.args.disk.now))

pub returns-in-Err-NoMemory-clause-fit : goal.returns-in-Err-NoMemory-clause-fit
returns-in-Err-NoMemory-clause-fit g c = whatever _ (job_of c.args.words.now) (λ j. unread_fit j (g.H.Host.view c.args.host.now))

pub returns-in-Err-NoMemory-clause-disk : goal.returns-in-Err-NoMemory-clause-disk
returns-in-Err-NoMemory-clause-disk g c = whatever _ (job_of c.args.words.now) (λ j. unread_disk j (g.D.Disk.view c.args.disk.now))

pub returns-in-Err-NoMemory-clause-kept : goal.returns-in-Err-NoMemory-clause-kept
returns-in-Err-NoMemory-clause-kept g c = whatever _ (job_of c.args.words.now) (λ j. unread_order j (g.H.Host.view c.args.host.now) (g.S.Sink.view c.args.out.now) (g.D.Disk.view c.args.disk.now))

pub returns-in-Err-NoMemory-clause-complete : goal.returns-in-Err-NoMemory-clause-complete
returns-in-Err-NoMemory-clause-complete g c = whatever _ (job_of c.args.words.now) (λ j. unread_completes j (g.H.Host.view c.args.host.now) (g.S.Sink.view c.args.out.now) (g.D.Disk.view c.args.disk.now))
