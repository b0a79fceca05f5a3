use Rattle.std.proofs.Common.{refl, sym}
use Rattle.fx_spec.specs.Transaction.{effect}
use Rattle.fx_spec.specs.Views.{act_tree}
use Rattle.fx_run.specs.Works.{root_of}
use Rattle.fx_run.proofs.Asked.{tried_stops, tried_refused, tried_ends}
use Rattle.fx_run.proofs.Scoped.{scopes_attempt}
use Rattle.fx_run.proofs.acting.attempt.Goals as goal

pub returns-in_err-refusal-clause-obeys : goal.returns-in_err-refusal-clause-obeys
returns-in_err-refusal-clause-obeys g c number =
    let w = c.args.work.now in
    tried_stops (effect (root_of w) w.walk.zip.address w.variables (act_tree c.args.act.now)) w
    (record { walk = c.act.new.self; variables = w.variables; outputs = w.outputs })
    c.requires.sound refl c.args.word.now c.act.result c.act.ensures.acts c.in_err-refusal.field-0.0 c.from_residual.result (sym c.in_err-refusal.ensures) c.from_residual.ensures.1

pub returns-in_err-bind_number-clause-obeys : goal.returns-in_err-bind_number-clause-obeys
returns-in_err-bind_number-clause-obeys g c number =
    let w = c.args.work.now in
    tried_refused (effect (root_of w) w.walk.zip.address w.variables (act_tree c.args.act.now)) w
    (record { walk = c.act.new.self; variables = c.bind_number.new.variables; outputs = w.outputs })
    c.requires.sound refl c.args.word.now c.act.result c.act.ensures.acts c.in_ok-refusal.refusal c.from_residual-in_err-bind_number.result (sym c.in_ok-refusal.ensures) c.from_residual-in_err-bind_number.ensures.1

pub returns-clause-obeys : goal.returns-clause-obeys
returns-clause-obeys g c number =
    let w = c.args.work.now in
    tried_ends (effect (root_of w) w.walk.zip.address w.variables (act_tree c.args.act.now)) w
    (record { walk = c.act.new.self; variables = c.bind_number.new.variables; outputs = w.outputs })
    c.requires.sound refl c.args.word.now c.act.result c.act.ensures.acts c.in_ok-refusal.refusal (sym c.in_ok-refusal.ensures) c.in_ok-bind_number.ensures

pub returns-clause-scope : goal.returns-clause-scope
returns-clause-scope g c = scopes_attempt c.args.work.now.variables c.bind_number.new.variables c.args.word.now (act_tree c.args.act.now) c.in_ok-refusal.refusal c.in_ok-bind_number.ensures
