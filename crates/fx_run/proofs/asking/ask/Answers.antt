use Rattle.std.proofs.Common.{refl, sym}
use Rattle.fx_expr.specs.Shapes.{ValueHas}
use Rattle.fx_expr.specs.Views.{tree_of}
use Rattle.fx_spec.specs.Move.{at_place}
use Rattle.fx_spec.specs.Task.{Ends}
use Rattle.fx_spec.specs.Transaction.{On, binding}
use Rattle.fx_zip.specs.Asking.{asked_at, asked_shape}
use Rattle.fx_zip.specs.Calls.{place_evals}
use Rattle.fx_run.specs.Works.{root_of, standing_of}
use Rattle.fx_run.proofs.Asked.{Told, told_leaves, told_refused, told_ends, told_as, told_bound, told_has, told_run}
use Rattle.fx_run.proofs.Scoped.{scopes_asked}
use Rattle.fx_run.proofs.asking.ask.Goals as goal

pub returns-in_err-value-clause-obeys : goal.returns-in_err-value-clause-obeys
returns-in_err-value-clause-obeys g c =
    let w = c.args.work.now in
    told_run c.args.number c.args.word.now c.args.question.now
    (told_leaves c.args.number (λ v. Ends (On (binding (standing_of w) c.args.word.now v))) w
    (record { walk = record { zip = c.ask.new.self; session = c.ask.new.session }; variables = w.variables; outputs = w.outputs })
    c.requires.sound c.ask.result c.in_err-value.field-0.0 (sym c.in_err-value.ensures) c.from_residual.ensures.1 refl c.ask.ensures.asks)

pub returns-in_err-bind_value-clause-obeys : goal.returns-in_err-bind_value-clause-obeys
returns-in_err-bind_value-clause-obeys g c =
    let w = c.args.work.now in
    told_run c.args.number c.args.word.now c.args.question.now
    (told_refused c.args.number (λ v. Ends (On (binding (standing_of w) c.args.word.now v))) w
    (record { walk = record { zip = c.ask.new.self; session = c.ask.new.session }; variables = c.bind_value.new.env; outputs = w.outputs })
    c.requires.sound c.in_ok-value.value c.from_residual-in_err-bind_value.ensures.1
    (told_as c.args.number (λ t. Told g.R.Reader.meaning tree_of w (record { walk = record { zip = c.ask.new.self; session = c.ask.new.session }; variables = c.bind_value.new.env; outputs = w.outputs }) (at_place (root_of w) w.walk.zip.address (asked_at c.args.question.now)) (place_evals w.walk.zip (asked_at c.args.question.now)) t) c.ask.result c.in_ok-value.value (sym c.in_ok-value.ensures) c.ask.ensures.asks))

pub returns-clause-obeys : goal.returns-clause-obeys
returns-clause-obeys g c =
    let w = c.args.work.now in
    told_run c.args.number c.args.word.now c.args.question.now
    (told_ends c.args.number (λ v. Ends (On (binding (standing_of w) c.args.word.now v))) w
    (record { walk = record { zip = c.ask.new.self; session = c.ask.new.session }; variables = c.bind_value.new.env; outputs = w.outputs })
    c.requires.sound c.in_ok-value.value
    (told_as c.args.number (λ t. Told g.R.Reader.meaning tree_of w (record { walk = record { zip = c.ask.new.self; session = c.ask.new.session }; variables = c.bind_value.new.env; outputs = w.outputs }) (at_place (root_of w) w.walk.zip.address (asked_at c.args.question.now)) (place_evals w.walk.zip (asked_at c.args.question.now)) t) c.ask.result c.in_ok-value.value (sym c.in_ok-value.ensures) c.ask.ensures.asks)
    (told_bound c.args.word.now w (record { walk = record { zip = c.ask.new.self; session = c.ask.new.session }; variables = c.bind_value.new.env; outputs = w.outputs }) (tree_of c.in_ok-value.value) c.in_ok-bind_value.ensures.bound c.ask.ensures.asks.address refl))

pub returns-clause-scope : goal.returns-clause-scope
returns-clause-scope g c = scopes_asked c.args.work.now.variables c.bind_value.new.env c.args.word.now c.args.question.now (tree_of c.in_ok-value.value) (told_has c.args.number c.ask.result (λ value. ValueHas (tree_of value) (asked_shape c.args.question.now)) c.in_ok-value.value (sym c.in_ok-value.ensures) c.ask.ensures.shape) c.in_ok-bind_value.ensures.bound
