use Rattle.fx_spec.specs.Bases.{base_tree}
use Rattle.fx_audit.proofs.Exact.{exact_result}
use Rattle.fx_audit.proofs.auditing.audit.Goals as goal

pub returns-clause-exact : goal.returns-clause-exact
returns-clause-exact c = exact_result (base_tree c.args.base.value) c.args.bytes.now c.verdict_of-verdict.result c.verdict_of-verdict.ensures
