use Rattle.std.proofs.Common.{ap, ◌∙◌, rules}
use Rattle.std.proofs.lemmas.List.Elements.{same_from_all_zip}
use Rattle.fx_store.specs.Filestore.{table_of}
use Rattle.fx_store.proofs.filestore.Filestore.copy.Goals as goal

pub invariant_of-result : goal.invariant_of-result
invariant_of-result c = rw (same_from_all_zip _ _ _ c.in_ok-clone.ensures.cases (λ x y k. search rules)) c.self.invariant

pub returns-clause-copied : goal.returns-clause-copied
returns-clause-copied c = ap table_of (same_from_all_zip _ _ _ c.in_ok-clone.ensures.cases (λ x y k. search rules)) ∙ c.self.view_is
