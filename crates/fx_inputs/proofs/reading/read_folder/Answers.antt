use Rattle.fx_words.specs.JobOf.{asked_inputs}
use Rattle.fx_inputs.proofs.Stages.{folder_told}
use Rattle.fx_inputs.proofs.reading.read_folder.Goals as goal

pub returns-clause-loaded : goal.returns-clause-loaded
returns-clause-loaded g c =
    folder_told (asked_inputs c.args.inputs.now).folder c.in_ok-store.store.nodes (g.H.Host.view c.args.host.now).told (g.met.H.Host.whole c.args.host.now) c.places-whole.ensures.table.whole c.in_ok-store.ensures.loaded
