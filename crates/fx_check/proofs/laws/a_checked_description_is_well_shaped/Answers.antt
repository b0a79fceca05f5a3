use Rattle.std.proofs.Common.{Ok, ap, sym, ◌∙◌}
use Rattle.fx_check.proofs.Checking.{is_description, is_checked}
use Rattle.fx_check.proofs.laws.a_checked_description_is_well_shaped.Goals as goal

pub returns : goal.returns
returns c = λ defs scope d s. (is_description defs scope d s, λ h. is_checked defs scope d h.0 ∙ ap (λ x. Ok x) (sym h.1))
