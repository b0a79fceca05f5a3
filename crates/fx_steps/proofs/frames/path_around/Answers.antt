use Rattle.fx_steps.proofs.Prelude.{sym, ap, ◌∙◌, drop, turned, path_of}
use Rattle.fx_steps.proofs.Turning.{turned-last}
use Rattle.fx_steps.proofs.frames.path_around.Goals as goal

pub returns-in-Some : goal.returns-in-Some
returns-in-Some c = c.last_path.ensures ∙ ap (λ fs. path_of (drop 1 fs)) (sym (ap (turned (λ f. f)) c.in-Some.ensures.cases.0 ∙ turned-last (λ f. f) c.in-Some.front.now c.in-Some.field-0-0.now))
