use Rattle.std.proofs.Common.{◌++◌, ◌∙◌}
use Rattle.std.proofs.lemmas.Result.{IfOk-weaker}
use Rattle.fx_text.proofs.Canon.{ascending_set}
use Rattle.fx_text.proofs.Putting.{set_turned}
use Rattle.fx_text.proofs.set.TextSet.union.Goals as goal

pub from_ascending-requires : goal.from_ascending-requires
from_ascending-requires c = rw c.in_ok-both.ensures (ascending_set (c.self.inside.texts ++ c.other.inside.texts))

pub returns-then-len-2 : goal.returns-then-len-2
returns-then-len-2 c = IfOk-weaker c.with_each-then-len-2.result _ _ (λ s e. e ∙ set_turned c.args.other.now c.args.self.now) c.with_each-then-len-2.ensures
