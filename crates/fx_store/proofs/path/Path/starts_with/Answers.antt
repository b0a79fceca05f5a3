use Rattle.std.proofs.Common.{rules}
use Rattle.fx_store.proofs.Passing.{begins_with}
use Rattle.fx_store.proofs.path.Path.starts_with.Goals as goal

pub returns : goal.returns
returns c = begins_with c.args.self.now c.args.other.now c.passes.new.self c.passes.result (search rules) (search rules)
