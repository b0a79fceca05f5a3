use Rattle.std.proofs.Common.{rules, arith, sym, ◌∙◌, ap, Some}
use Rattle.std.specs.FinMap.{get-from_sorted, slice_cmp-IsAntisymmetric, nat_cmp-IsAntisymmetric}
use Rattle.std.specs.Cmp.Lexicographic.{nat_list_cmp_total}
use Rattle.std.proofs.lemmas.Fn.{always_returns_same}
use Rattle.fx_outside.specs.Listing.{name_cmp}
use Rattle.fx_outside.proofs.Sorted.{find_at, find_gap, rises}
use Rattle.fx_outside.proofs.listing.Listing.get.Goals as goal

pub returns-in-Ok : goal.returns-in-Ok
returns-in-Ok c =
    let found = c.in-Ok.ensures.position (λ e. name_cmp e.0 c.args.key.now) (always_returns_same _ _ _ (λ a r f called. (search rules, search rules))) in
    let items = c.self.inside.items.items in
    rw (← c.self.view_is, get-from_sorted name_cmp c.self.inside.items.items c.args.key.now c.self.invariant)
    (ap (λ x. Some x.1) c.index.ensures
    ∙ sym (find_at nat_list_cmp_total (slice_cmp-IsAntisymmetric nat_cmp-IsAntisymmetric) items c.in-Ok.i c.args.key.now c.index.result.now c.self.invariant
    (rw (← c.deref.ensures.value) c.in-Ok.ensures.bound)
    (rw (← c.deref.ensures.value) (found c.index.result.now))))

pub returns-in-Err : goal.returns-in-Err
returns-in-Err c =
    let gap = c.in-Err.ensures.position (λ e. name_cmp e.0 c.args.key.now) (always_returns_same _ _ _ (λ a r f called. (search rules, search rules))) in
    let parted = gap (rw c.deref.ensures.value (rises nat_list_cmp_total c.self.inside.items.items c.args.key.now c.self.invariant)) in
    rw (← c.self.view_is, get-from_sorted name_cmp c.self.inside.items.items c.args.key.now c.self.invariant)
    (sym (find_gap nat_list_cmp_total c.self.inside.items.items c.in-Err.field-0 c.args.key.now c.self.invariant
    (λ j d lt. rw (← c.deref.ensures.value) (parted.0 j d (omega arith) lt))
    (λ j d le lt. rw (← c.deref.ensures.value) (parted.1 j d le (rw c.deref.ensures.value lt)))))
