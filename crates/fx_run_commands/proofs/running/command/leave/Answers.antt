use Rattle.std.proofs.Common.{ℕ, List, subst}
use Rattle.fx_store.specs.Whole.{Nodes}
use Rattle.fx_folder.specs.Folder.{IsReady}
use Rattle.fx_words.specs.JobOf.{asked}
use Rattle.fx_command.specs.Saved.{SaveEnd}
use Rattle.fx_command.specs.StatusOf.{status_of}
use Rattle.fx_command.specs.Table.{IsComing}
use Rattle.fx_command.proofs.Told.{if_some_map}
use Rattle.fx_run_commands.specs.Runs.Answers.{last_of}
use Rattle.fx_run_commands.specs.Runs.Rows.{run_making}
use Rattle.fx_run_commands.proofs.Runs.Ending.{left}
use Rattle.fx_run_commands.proofs.running.command.leave.Goals as goal

pub save_and_print-requires : goal.save_and_print-requires
save_and_print-requires g c =
    let j = asked c.args.job.now in
    let end : Nodes × List ℕ = (last_of c.args.answer.now, c.args.answer.now.output) in
    if_some_map (λ t. IsComing (run_making j) t end c.args.there) (λ t. IsReady t j.out c.args.there) (g.H.Host.view c.args.host.now).told (λ t is. is.free) c.requires

pub returns-clause-row : goal.returns-clause-row
returns-clause-row g c =
    let j = asked c.args.job.now in
    let host = g.H.Host.view c.args.host.now in
    let host' = g.H.Host.view c.save_and_print.new.host in
    let sink = g.S.Sink.view c.args.out.now in
    let sink' = g.S.Sink.view c.save_and_print.new.out in
    let st = status_of c.save_and_print.result in
    let nodes = last_of c.args.answer.now in
    left j nodes c.args.answer.now.output c.args.there host host' sink sink' st c.requires
    (subst (λ n. SaveEnd j.out c.args.there n c.args.answer.now.output host host' sink sink' st) c.store-store.ensures.nodes
    (subst (λ b. SaveEnd j.out c.args.there c.store-store.result.now.nodes b host host' sink sink' st) c.as_slice-output.ensures c.save_and_print.ensures.end))

pub returns-clause-fit : goal.returns-clause-fit
returns-clause-fit g c = λ lets. c.save_and_print.ensures.fit lets.out.written
