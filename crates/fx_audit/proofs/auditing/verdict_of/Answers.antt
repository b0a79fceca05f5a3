use Rattle.fx_spec.specs.Bases.{base_tree}
use Rattle.fx_audit.proofs.Exact.{said_result}
use Rattle.fx_audit.proofs.auditing.verdict_of.Goals as goal

pub returns-in-Ok : goal.returns-in-Ok
returns-in-Ok c =
    said_result (base_tree c.args.base.now.value) c.args.bytes.now c.in-Ok.printed.entries c.in-Ok.printed.retries c.verdict_on-verdict.result c.in-Ok.ensures.read c.verdict_on-verdict.ensures
