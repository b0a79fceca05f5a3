use Rattle.fx_steps.proofs.Prelude.{sym, ap, ◌∙◌, turned, path_of}
use Rattle.fx_steps.proofs.Turning.{turned-last}
use Rattle.fx_steps.proofs.frames.last_path.Goals as goal

pub returns-in-Some : goal.returns-in-Some
returns-in-Some c = sym (ap path_of (ap (turned (λ f. f)) c.in-Some.ensures.cases.0 ∙ turned-last (λ f. f) c.in-Some.field-0-1.now c.in-Some.frame.now))
