use Rattle.std.proofs.Common.{◌++◌, sym, ◌∙◌, ap, append_assoc}
use Rattle.std.specs.Map.Iter.{deref_pair}
use Rattle.std.specs.FinMap.{entries}
use Rattle.std.proofs.lemmas.Map.Iter.{rest_more, rest_all}
use Rattle.std.proofs.lemmas.List.{append-nil}
use Rattle.fx_outside.specs.Path.{parts_cmp}
use Rattle.fx_outside.proofs.Sorted.{sorted_test, entries_last}
use Rattle.fx_outside.proofs.Trees.{name_total, children, children_cons, children_skip, children_nil, child_stands, entries_none, lists_children}
use Rattle.fx_outside.proofs.memory_tree.names_in.Goals as goal

pub loop-place-init : goal.loop-place-init
loop-place-init c = ap (λ n. entries n ++ children c.args.folder.now c.into_iter-place-iterator.result) c.new-names.ensures ∙ ap (λ n. n ++ children c.args.folder.now c.into_iter-place-iterator.result) entries_none ∙ ap (children c.args.folder.now) c.into_iter-place-iterator.ensures.into_iter_gives.0

pub add-requires : goal.add-requires
add-requires c =
    let rest = rest_more deref_pair _ _ _ _ c.in-Some.is c.next.ensures.steps in
    let here = ap (λ r. entries c.loop-place.names ++ r) (sym (ap (children c.args.folder.now) rest ∙ children_cons c.args.folder.now _ _ _ (sym c.in-Some-name_in.ensures))) ∙ c.loop-place.invariant in
    rw (c.in_ok-copy.ensures, c.kind.ensures) (child_stands c.args.folder.now c.args.tree.now.entries _ c.loop-place.names _ _ (sorted_test parts_cmp c.args.tree.now.entries c.into_iter-place-iterator.ensures.into_iter_gives.5) here)

pub loop-place-preserved-in_ok-add : goal.loop-place-preserved-in_ok-add
loop-place-preserved-in_ok-add c =
    let rest = rest_more deref_pair _ _ _ _ c.in-Some.is c.next.ensures.steps in
    let here = ap (λ r. entries c.loop-place.names ++ r) (sym (ap (children c.args.folder.now) rest ∙ children_cons c.args.folder.now _ _ _ (sym c.in-Some-name_in.ensures))) ∙ c.loop-place.invariant in
    let stands = child_stands c.args.folder.now c.args.tree.now.entries _ c.loop-place.names _ _ (sorted_test parts_cmp c.args.tree.now.entries c.into_iter-place-iterator.ensures.into_iter_gives.5) here in
    rw (c.in_ok-add.ensures.added, c.in_ok-copy.ensures, c.kind.ensures) (ap (λ l. l ++ children c.args.folder.now c.next.new.self) (entries_last name_total c.loop-place.names _ _ stands) ∙ append_assoc (entries c.loop-place.names) _ _ ∙ here)

pub loop-place-preserved : goal.loop-place-preserved
loop-place-preserved c =
    let rest = rest_more deref_pair _ _ _ _ c.in-Some.is c.next.ensures.steps in
    ap (λ r. entries c.loop-place.names ++ r) (sym (ap (children c.args.folder.now) rest ∙ children_skip c.args.folder.now _ _ (sym c.in_default.ensures))) ∙ c.loop-place.invariant

pub returns : goal.returns
returns c =
    let none = rest_all deref_pair _ _ _ c.in-None.is c.next.ensures.steps in
    lists_children c.args.tree.now.entries c.args.folder.now c.loop-place.names (sym (append-nil (entries c.loop-place.names)) ∙ ap (λ r. entries c.loop-place.names ++ r) (sym (ap (children c.args.folder.now) none ∙ children_nil c.args.folder.now)) ∙ c.loop-place.invariant)
