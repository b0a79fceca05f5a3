use Rattle.std.proofs.Common.{◌∙◌}
use Rattle.fx_command.specs.StatusOf.{status_of}
use Rattle.fx_large_commands.proofs.Ending.{left}
use Rattle.fx_large_commands.proofs.large_command.leave.Goals as goal

pub returns-clause-row : goal.returns-clause-row
returns-clause-row g c =
    left c.args.number c.args.board.now c.requires.run c.args.path.now c.store-store.result.now.nodes c.as_slice-output.result.now c.args.there (g.H.Host.view c.args.host.now) (g.H.Host.view c.save_and_print.new.host) (g.S.Sink.view c.args.out.now) (g.S.Sink.view c.save_and_print.new.out)
    (status_of c.save_and_print.result) c.store-store.ensures.nodes (c.as_slice-output.ensures ∙ c.requires.output) c.requires.ready c.save_and_print.ensures.end
