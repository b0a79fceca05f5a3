use Rattle.std.proofs.Common.{◌++◌, [], ◌∷◌, T, subst}
use Rattle.std.specs.FinMap.{is_sorted, entries-from_sorted}
use Rattle.std.specs.Cmp.Lexicographic.{nat_list_cmp_total}
use Rattle.fx_outside.specs.Listing.{name_cmp}
use Rattle.fx_outside.proofs.Sorted.{from_sorted_push}
use Rattle.fx_outside.proofs.listing.Listing.add.Goals as goal

pub invariant_of-self-2 : goal.invariant_of-self-2
invariant_of-self-2 c = rw (c.in_ok-push.ensures.items, ← entries-from_sorted name_cmp c.self.inside.items.items c.self.invariant) (rw c.self.view_is c.requires)

pub returns-clause-added : goal.returns-clause-added
returns-clause-added c =
    let sorted : T (is_sorted name_cmp (c.self.inside.items.items ++ (c.args.key, c.args.value) ∷ [])) =
    subst (λ l. T (is_sorted name_cmp (l ++ (c.args.key, c.args.value) ∷ []))) (entries-from_sorted name_cmp c.self.inside.items.items c.self.invariant) (rw c.self.view_is c.requires) in
    rw (c.in_ok-push.ensures.items, ← c.self.view_is) (from_sorted_push nat_list_cmp_total _ _ _ sorted)
