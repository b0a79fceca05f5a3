use Rattle.std.proofs.Common.{refl, ◌∙◌}
use Rattle.fx_spec.specs.Bases.{base_tree}
use Rattle.fx_crew.proofs.Steps.{gone_settled, gone_retried}
use Rattle.fx_crew.proofs.attempting.advance.Goals as goal

pub settle-requires-clause-explained : goal.settle-requires-clause-explained
settle-requires-clause-explained g c =
    let has = c.in_ok-desk.ensures.tried in (base_tree c.args.base.now.value, has.seen.base ∙ c.requires.worker.based, has.explained)

pub settle-requires-clause-reads : goal.settle-requires-clause-reads
settle-requires-clause-reads g c =
    let base = base_tree c.args.base.now.value in
    let has = c.in_ok-desk.ensures.tried in
    let based = has.seen.base ∙ c.requires.worker.based in
    (base, based, has.stand base based)

pub returns-in-Settled-clause-gone : goal.returns-in-Settled-clause-gone
returns-in-Settled-clause-gone g c =
    gone_settled g.D.Desk.view g.met.D.Desk.counted (base_tree c.args.base.now.value) c.args.shell c.args.worker _ (g.D.Desk.view c.in_ok-desk.desk) c.in_ok-desk.attempt c.requires.worker c.in_ok-desk.ensures.tried c.settle.ensures.legal
    (rw c.in-Settled.is at c.in_ok-settle.ensures.outcome) refl refl

pub returns-in_ok-push-in-Conflict-clause-gone : goal.returns-in_ok-push-in-Conflict-clause-gone
returns-in_ok-push-in-Conflict-clause-gone g c =
    gone_retried g.D.Desk.view g.met.D.Desk.counted (base_tree c.args.base.now.value) c.args.shell c.args.worker _ (g.D.Desk.view c.in_ok-desk.desk) c.in_ok-desk.attempt c.requires.worker c.in_ok-desk.ensures.tried c.settle.ensures.legal
    c.in-Conflict.entry c.in-Conflict.path (rw c.in-Conflict.is at c.in_ok-settle.ensures.outcome) refl c.in_ok-push-in-Conflict.ensures.items
