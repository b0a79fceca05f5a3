use Rattle.std.proofs.Common.{refl, sym, ap, ◌∙◌}
use Rattle.fx_spec.specs.Bases.{base_tree}
use Rattle.fx_shared.specs.Live.{begins_to_vouch}
use Rattle.fx_crew.proofs.Attempts.{tried_by}
use Rattle.fx_crew.proofs.attempting.attempt.Goals as goal

pub returns-in-Ok-clause-table : goal.returns-in-Ok-clause-table
returns-in-Ok-clause-table g c =
    let at = g.D.Desk.view in
    let table = g.D.Desk.table in
    let start = c.over-live.result in
    let vouched = c.in-Ok.ensures.attempted.vouched start (refl, refl, begins_to_vouch (at start.desk) start.reads start.true_reads start.in_turn) in
    ap table c.into_desk-desk.ensures ∙ (vouched.0 ∙ ap table c.over-live.ensures.desk)

pub returns-in-Ok-clause-tried : goal.returns-in-Ok-clause-tried
returns-in-Ok-clause-tried g c =
    let at = g.D.Desk.view in
    let start = c.over-live.result in
    let attempted = c.in-Ok.ensures.attempted in
    let vouched = attempted.vouched start (refl, refl, begins_to_vouch (at start.desk) start.reads start.true_reads start.in_turn) in
    tried_by (base_tree c.args.base.now.value) c.args.shell c.args.txn (at c.args.desk) (at c.into_desk-desk.result) (at start.desk) (at c.run-ended.new.reader.desk) start.reads c.in-Ok.attempt
    (ap at c.over-live.ensures.desk) (sym (ap at c.into_desk-desk.ensures)) c.over-live.ensures.reads attempted.whose attempted.number c.in-Ok.ensures.explained c.in-Ok.ensures.foretold vouched.2
