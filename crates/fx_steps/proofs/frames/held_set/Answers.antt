use Rattle.fx_steps.proofs.Prelude.{◌≡◌, option_map, sym, ap, ◌∙◌, subst, last_set, turned}
use Rattle.fx_steps.proofs.Turning.{turned-last}
use Rattle.fx_steps.proofs.frames.held_set.Goals as goal

pub returns-in-Some : goal.returns-in-Some
returns-in-Some c =
    let last : last_set (turned (λ f. f) c.args.frames.now) ≡ c.in-Some.frame.now.set = ap last_set (ap (turned (λ f. f)) c.in-Some.ensures.cases.0 ∙ turned-last (λ f. f) c.in-Some.field-0-1.now c.in-Some.frame.now) in
    subst (λ s. option_map (λ set. set.now) c.as_ref.result ≡ s) (sym last) c.as_ref.ensures.value
