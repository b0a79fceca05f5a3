use Rattle.std.proofs.Common.{◌∙◌, Ok, subst, rules, arith}
use Rattle.fx_run.specs.Course.{Pursues}
use Rattle.fx_run.specs.Works.{reader_of}
use Rattle.fx_run.proofs.Starts.{Begins, begins_from, begins_shaped, begins_sound, ran_to, ran_stopped}
use Rattle.fx_run.proofs.pursuing.pursue.Goals as goal

pub obey_all-requires-clause-shaped : goal.obey_all-requires-clause-shaped
obey_all-requires-clause-shaped g c =
    let begins : Begins c.args.base.now.value.description c.new-work.result =
    begins_from c.new-work.result _ c.in_ok-base.base.value c.args.base.now.value c.in_ok-base.ensures c.new-work.ensures.root c.new-work.ensures.address c.new-work.ensures.session c.new.ensures c.new-work.ensures.variables c.new-work.ensures.outputs c.new-work.ensures.fresh in
    begins_shaped c.args.commands.now begins c.requires.shaped

pub obey_all-requires-clause-sound : goal.obey_all-requires-clause-sound
obey_all-requires-clause-sound g c =
    let begins : Begins c.args.base.now.value.description c.new-work.result =
    begins_from c.new-work.result _ c.in_ok-base.base.value c.args.base.now.value c.in_ok-base.ensures c.new-work.ensures.root c.new-work.ensures.address c.new-work.ensures.session c.new.ensures c.new-work.ensures.variables c.new-work.ensures.outputs c.new-work.ensures.fresh in
    begins_sound g.R.Reader.meaning begins

pub obey_all-requires-clause-few : goal.obey_all-requires-clause-few
obey_all-requires-clause-few g c = omega (arith, c.requires.shaped.few)

pub returns-in_err-over : goal.returns-in_err-over
returns-in_err-over g c =
    let m = g.R.Reader.meaning in
    let begins : Begins c.args.base.now.value.description c.new-work.result =
    begins_from c.new-work.result _ c.in_ok-base.base.value c.args.base.now.value c.in_ok-base.ensures c.new-work.ensures.root c.new-work.ensures.address c.new-work.ensures.session c.new.ensures c.new-work.ensures.variables c.new-work.ensures.outputs c.new-work.ensures.fresh in
    let lent = c.obey_all.ensures.obeys.lent ∙ (λ k. (c.new-work.ensures.session k).reader.ghost_name) in
    let pursues : Pursues m c.args.base.now.value.description c.args.commands.now c.args.reader.now (reader_of c.obey_all.new.work) c.from_residual-in_err-over.result =
    subst (λ (r : g.row.R.Denot). Pursues m c.args.base.now.value.description c.args.commands.now r (reader_of c.obey_all.new.work) c.from_residual-in_err-over.result) (λ k. (c.new-work.ensures.session k).reader.now)
    (ran_stopped m begins c.args.commands.now c.obey_all.result c.obey_all.ensures.obeys c.ended-over.result c.ended-over.ensures c.in_err-over.field-0.0 c.from_residual-in_err-over.result c.from_residual-in_err-over.ensures.1 c.in_err-over.was) in
    search rules

pub returns : goal.returns
returns g c =
    let m = g.R.Reader.meaning in
    let begins : Begins c.args.base.now.value.description c.new-work.result =
    begins_from c.new-work.result _ c.in_ok-base.base.value c.args.base.now.value c.in_ok-base.ensures c.new-work.ensures.root c.new-work.ensures.address c.new-work.ensures.session c.new.ensures c.new-work.ensures.variables c.new-work.ensures.outputs c.new-work.ensures.fresh in
    let lent = c.obey_all.ensures.obeys.lent ∙ (λ k. (c.new-work.ensures.session k).reader.ghost_name) in
    let pursues : Pursues m c.args.base.now.value.description c.args.commands.now c.args.reader.now (reader_of c.obey_all.new.work) (Ok (record { own = c.obey_all.new.work.walk.session.own; outputs = c.obey_all.new.work.outputs; over = c.in_ok-over.field-0 })) =
    subst (λ (r : g.row.R.Denot). Pursues m c.args.base.now.value.description c.args.commands.now r (reader_of c.obey_all.new.work) (Ok (record { own = c.obey_all.new.work.walk.session.own; outputs = c.obey_all.new.work.outputs; over = c.in_ok-over.field-0 }))) (λ k. (c.new-work.ensures.session k).reader.now)
    (ran_to m begins c.args.commands.now c.obey_all.result c.obey_all.ensures.obeys c.ended-over.result c.ended-over.ensures c.in_ok-over.field-0 c.in_ok-over.was) in
    search rules
