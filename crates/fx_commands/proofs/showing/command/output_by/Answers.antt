use Rattle.std.proofs.Common.{refl}
use Rattle.fx_words.specs.JobOf.{asked_show}
use Rattle.fx_commands.proofs.Shows.Showing.{showing, texts_of}
use Rattle.fx_commands.proofs.showing.command.output_by.Goals as goal

pub read_folder-requires : goal.read_folder-requires
read_folder-requires g c = texts_of (asked_show c.args.job.now) c.args.spec.now (g.H.Host.view c.args.host.now).told refl c.requires

pub returns-clause-shows : goal.returns-clause-shows
returns-clause-shows g c =
    showing (asked_show c.args.job.now) c.args.spec.now c.in_ok-store.store.nodes c.in_ok-output.field-0 (g.H.Host.view c.args.host.now) c.requires c.in_ok-store.ensures.loaded c.in_ok-output.ensures
