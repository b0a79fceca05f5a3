use Rattle.std.proofs.Common.{◌∙◌, sym, subst}
use Rattle.std.specs.FinMap.{get}
use Rattle.fx_store.specs.Whole.{IsWhole, over}
use Rattle.fx_gen.specs.Notes.{changes_to}
use Rattle.fx_gen.proofs.Placing.{changes_whole}
use Rattle.fx_gen.proofs.files.store.Goals as goal

pub apply-requires-clause-whole : goal.apply-requires-clause-whole
apply-requires-clause-whole c =
    subst (λ l. IsWhole (over (get c.reserve.new.self.nodes) l)) (sym c.in_ok-changes.ensures.changes)
    (subst (λ m. IsWhole (over (get m) (changes_to c.args.draws.now.number 16))) (sym (c.reserve.ensures.nodes ∙ c.in_ok-store.ensures.nodes)) (changes_whole c.args.draws.now.number))
