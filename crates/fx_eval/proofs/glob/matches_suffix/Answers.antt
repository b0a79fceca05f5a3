use Rattle.std.proofs.Common.{◌≡◌, ◌∙◌, sym, ap, drop}
use Rattle.fx_expr.specs.Globs.{glob_matches, some_suffix}
use Rattle.fx_eval.proofs.Globbing.{whole_suffix, star_suffix}
use Rattle.fx_eval.proofs.glob.matches_suffix.Goals as goal

pub returns-in-Whole : goal.returns-in-Whole
returns-in-Whole c = sym (sym c.loop-n.invariant ∙ whole_suffix (glob_matches c.loop-n.glob.now) c.loop-n.text.now c.in-Whole.ensures)

pub loop-n-preserved-in-Star : goal.loop-n-preserved-in-Star
loop-n-preserved-in-Star c =
    let rest : c.after-glob.result.now ≡ drop 1 (drop c.in-Star.n c.loop-n.glob.now) = c.after-glob.ensures ∙ ap (λ l. drop 1 l) c.after.ensures in
    (λ i. some_suffix (glob_matches (rest i)) (c.after-text.ensures i)) ∙ sym (star_suffix c.loop-n.glob.now c.loop-n.text.now c.in-Star.n c.in-Star.ensures) ∙ c.loop-n.invariant
