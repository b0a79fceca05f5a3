use Rattle.std.proofs.Common.{true, sym, ap, ◌∙◌, refl}
use Rattle.std.specs.Ordering.{is_lt}
use Rattle.fx_store.specs.declared.changes.Change.{Change}
use Rattle.fx_store.specs.Orders.{path_total}
use Rattle.fx_store.proofs.Sets.{next_after, next_of_none}
use Rattle.fx_store.proofs.changes.Changes.is_next.Goals as goal

pub returns-in-Some : goal.returns-in-Some
returns-in-Some c =
    rw (← c.self.view_is, ← c.deref.ensures.value) (next_after path_total (λ (c : Change). c.path) _ c.args.path.now _ (rw c.deref.ensures.value c.self.invariant) c.in-Some.last.now (sym c.in-Some.ensures.value) (c.is_lt.ensures ∙ ap is_lt c.compare.ensures))

pub returns-in-None : goal.returns-in-None
returns-in-None c =
    rw (← c.self.view_is, ← c.deref.ensures.value) (next_of_none path_total (λ (c : Change). c.path) _ c.args.path.now true (rw c.deref.ensures.value c.self.invariant) (sym c.in-None.ensures.value) refl)
