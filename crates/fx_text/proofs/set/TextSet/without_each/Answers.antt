use Rattle.std.proofs.Common.{ap, sym, ◌∙◌}
use Rattle.fx_text.specs.Sets.{without}
use Rattle.fx_text.proofs.Putting.{taken_out, without_none}
use Rattle.fx_text.proofs.set.TextSet.without_each.Goals as goal

pub loop-text-preserved : goal.loop-text-preserved
loop-text-preserved c =
    ap (λ xs. without xs c.next.new.self) c.in_ok-set-2.ensures
    ∙ taken_out c.in-Some.text.now c.next.new.self c.loop-text.set
    ∙ ap (without c.loop-text.set) (sym c.in-Some.ensures.steps)
    ∙ c.loop-text.invariant

pub returns : goal.returns
returns c = sym (without_none c.loop-text.set) ∙ ap (without c.loop-text.set) (sym c.in-None.ensures.steps.0) ∙ c.loop-text.invariant
