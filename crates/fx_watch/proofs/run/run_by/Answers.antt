use Rattle.std.proofs.Common.{subst}
use Rattle.fx_sched.specs.Traced.{IsTraced}
use Rattle.fx_watch.proofs.Watchings.{watched}
use Rattle.fx_watch.proofs.run.run_by.Goals as goal

pub returns-in-Ok-with_report : goal.returns-in-Ok-with_report
returns-in-Ok-with_report g c =
    let played = c.in-Ok-ended.ensures.ok in
    let traced = subst (λ b. IsTraced b c.args.schedule.now (record { board = c.in-Ok-ended.board; retries = c.in-Ok-ended.retries; events = played.events })) c.requires.base played.traced in
    watched g.B.Based.base c.args.schedule.now c.play-ended.new.taker.watch c.play-ended.new.taker.output.items played.events played.world c.in-Ok-ended.board c.in-Ok-ended.retries played.taken traced c.in-Ok-with_report.output c.in-Ok-with_report.ensures
