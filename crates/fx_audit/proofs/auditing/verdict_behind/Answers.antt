use Rattle.fx_spec.specs.Bases.{base_tree}
use Rattle.fx_audit.proofs.Judging.{missing_said}
use Rattle.fx_audit.proofs.auditing.verdict_behind.Goals as goal

pub returns-in-Some : goal.returns-in-Some
returns-in-Some c = λ es order all.
    missing_said c.args.board.now.base (base_tree c.base.result.now) c.args.board.now.order es c.args.retries.now c.args.table.now c.in-Some.pair.shell c.in-Some.pair.txn c.base.ensures.base c.requires order all c.in-Some.ensures
