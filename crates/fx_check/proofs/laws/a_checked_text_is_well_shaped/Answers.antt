use Rattle.std.proofs.Common.{Ok, ap, sym, ◌∙◌}
use Rattle.fx_check.proofs.Texts.{text_is, is_text}
use Rattle.fx_check.proofs.laws.a_checked_text_is_well_shaped.Goals as goal

pub returns : goal.returns
returns c = λ t s. (text_is t s, λ h. is_text t h.0 h.1 ∙ ap (λ x. Ok x) (sym h.2))
