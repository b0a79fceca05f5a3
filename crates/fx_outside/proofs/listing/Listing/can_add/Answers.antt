use Rattle.std.proofs.Common.{◌≡◌, ◌∙◌, ap, [], ◌-◌, length, Some, slice_get, sym, refl, rules}
use Rattle.std.specs.Cmp.Lexicographic.{nat_list_cmp_total}
use Rattle.std.specs.FinMap.{entries-from_sorted}
use Rattle.fx_outside.specs.Listing.{name_cmp}
use Rattle.fx_outside.proofs.Sorted.{after_last, nothing_last}
use Rattle.fx_outside.proofs.listing.Listing.can_add.Goals as goal

pub returns-in-None : goal.returns-in-None
returns-in-None c = λ kind.
    let none : c.self.inside.items.items ≡ [] = nothing_last _ (ap (λ l. slice_get l (length l - 1)) (sym c.deref.ensures.value) ∙ sym c.in-None.ensures.value) in
    rw (← c.self.view_is, entries-from_sorted name_cmp c.self.inside.items.items c.self.invariant, none) (λ _. tt, λ _. refl)

pub returns-in-Some : goal.returns-in-Some
returns-in-Some c = λ kind.
    let last : slice_get c.self.inside.items.items (length c.self.inside.items.items - 1) ≡ Some c.in-Some.field-0.now = ap (λ l. slice_get l (length l - 1)) (sym c.deref.ensures.value) ∙ sym c.in-Some.ensures.value in
    let both = after_last nat_list_cmp_total c.self.inside.items.items c.in-Some.field-0.now c.args.key.now kind c.lt.result c.self.invariant last (search rules) in
    rw (← c.self.view_is, entries-from_sorted name_cmp c.self.inside.items.items c.self.invariant) (both.forward, both.back)
