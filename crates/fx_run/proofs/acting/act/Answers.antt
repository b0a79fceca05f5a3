use Rattle.std.proofs.Common.{refl}
use Rattle.fx_spec.specs.Transaction.{effect}
use Rattle.fx_spec.specs.Views.{act_tree}
use Rattle.fx_run.specs.Works.{root_of}
use Rattle.fx_run.proofs.Asked.{acted}
use Rattle.fx_run.proofs.acting.act.Goals as goal

pub returns-clause-obeys : goal.returns-clause-obeys
returns-clause-obeys g c =
    let w = c.args.work.now in
    acted (effect (root_of w) w.walk.zip.address w.variables (act_tree c.args.act.now)) w
    (record { walk = c.act.new.self; variables = w.variables; outputs = w.outputs })
    c.requires.sound refl c.args.number c.act.result c.or_stop.result c.or_stop.ensures refl c.act.ensures.acts
