use Rattle.std.proofs.Common.{◌++◌, ap, sym, ◌∙◌}
use Rattle.fx_base.proofs.Placing.{ascending_with}
use Rattle.fx_text.specs.Sets.{set_of}
use Rattle.fx_text.proofs.Putting.{set_turned, set_again, put_in}
use Rattle.fx_text.proofs.set.TextSet.with_each.Goals as goal

pub loop-text-init : goal.loop-text-init
loop-text-init c =
    rw (c.in_ok-set.ensures, c.into_iter-text-iterator.ensures.into_iter_gives, c.iter-text-items.ensures) (c.requires, set_turned c.args.other.now c.args.self.now)

pub loop-text-preserved : goal.loop-text-preserved
loop-text-preserved c = (
  rw c.in_ok-set-2.ensures (ascending_with c.in-Some.text.now c.loop-text.set c.loop-text.invariant.0),
  ap (λ xs. set_of (c.next.new.self ++ xs)) c.in_ok-set-2.ensures
      ∙ put_in c.in-Some.text.now c.next.new.self c.loop-text.set
      ∙ ap (λ xs. set_of (xs ++ c.loop-text.set)) (sym c.in-Some.ensures.steps)
      ∙ c.loop-text.invariant.1,
)

pub returns : goal.returns
returns c =
    sym (set_again c.loop-text.set c.loop-text.invariant.0)
    ∙ ap (λ xs. set_of (xs ++ c.loop-text.set)) (sym c.in-None.ensures.steps.0)
    ∙ c.loop-text.invariant.1
