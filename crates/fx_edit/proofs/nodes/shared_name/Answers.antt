use Rattle.std.proofs.Common.{sym, ◌∙◌}
use Rattle.std.proofs.lemmas.Map.Lookups.{exact_bytes}
use Rattle.fx_edit.proofs.nodes.shared_name.Goals as goal

pub returns-in-Equal : goal.returns-in-Equal
returns-in-Equal c = sym c.as_slice.ensures.bytes ∙ (exact_bytes c.as_slice.result.now c.as_slice-in-Some.result.now (sym c.in-Equal.ensures) ∙ c.as_slice-in-Some.ensures.value)
