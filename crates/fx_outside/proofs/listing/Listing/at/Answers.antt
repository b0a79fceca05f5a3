use Rattle.std.proofs.Common.{◌∙◌, ap, slice_get}
use Rattle.std.specs.FinMap.{entries-from_sorted}
use Rattle.fx_outside.specs.Listing.{name_cmp}
use Rattle.fx_outside.proofs.listing.Listing.at.Goals as goal

pub returns-in-None : goal.returns-in-None
returns-in-None c = rw (← c.self.view_is, entries-from_sorted name_cmp c.self.inside.items.items c.self.invariant) (c.in-None.ensures ∙ ap (λ l. slice_get l c.args.i) c.deref.ensures.value)

pub returns-in-Some : goal.returns-in-Some
returns-in-Some c = rw (← c.self.view_is, entries-from_sorted name_cmp c.self.inside.items.items c.self.invariant) (c.in-Some.ensures ∙ ap (λ l. slice_get l c.args.i) c.deref.ensures.value)
