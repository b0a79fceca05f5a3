use Rattle.std.proofs.Common.{sym, ap, ◌∙◌}
use Rattle.std.specs.Ordering.{is_lt}
use Rattle.fx_store.proofs.Ascending.{above_last}
use Rattle.fx_store.proofs.order.is_above.Goals as goal

pub returns-in-Some : goal.returns-in-Some
returns-in-Some g c = c.is_lt.ensures ∙ ap is_lt c.cmp.ensures ∙ sym (above_last _ c.args.items.now _ _ (sym c.in-Some.ensures.value))
