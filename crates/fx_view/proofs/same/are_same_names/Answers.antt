use Rattle.std.proofs.Common.{sym, ◌∙◌}
use Rattle.fx_view.proofs.Sames.{same_behind, none_further}
use Rattle.fx_view.proofs.same.are_same_names.Goals as goal

pub returns : goal.returns
returns c =
    let end = none_further c.loop-name.others c.next-2.new.self c.next-2.result c.is_none.result c.next-2.ensures.steps c.is_none.ensures in
    let none = c.in-None.ensures.steps.0 in
    (λ t. c.loop-name.invariant.0 (none ∙ sym (end.0 t)), λ same. end.1 (sym (c.loop-name.invariant.1 same) ∙ none))

pub loop-name-preserved : goal.loop-name-preserved
loop-name-preserved c =
    let behind = same_behind c.in-Some.name.now c.in-Some-next.other.now c.next.new.self c.next-in-loop-name.new.self c.loop-name.name-iterator c.loop-name.others c.ne.result
    c.in-Some.ensures.steps c.in-Some-next.ensures.steps c.ne.ensures c.if-ne.false in
    (λ same. c.loop-name.invariant.0 (behind.0 same), λ same. behind.1 (c.loop-name.invariant.1 same))
