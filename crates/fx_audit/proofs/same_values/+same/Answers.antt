use Rattle.std.proofs.Common.{◌≡◌, ap, sym, subst, ◌∙◌, ◌<◌, length, map, List, ℕ}
use Rattle.fx_base.proofs.Orders.{texts_exact}
use Rattle.fx_expr.specs.declared.value.Value.{Value}
use Rattle.fx_expr.specs.Rows.{keys_of}
use Rattle.fx_expr.specs.Views.{tree_of}
use Rattle.fx_audit.proofs.Sameness.{apart, inner_of, inner_tree, item_same, keys_same, no_inner, no_pair, no_rows, pair_of, pair_tree, rows_of, table_same, texts_same, values_same}
use Rattle.fx_expr.proofs.Trees.{table_tree}
use Rattle.fx_audit.proofs.same_values.+same.Goals as goal

pub is_same-returns-then-eq : goal.is_same-returns-then-eq
is_same-returns-then-eq t c =
    let es : List (List ℕ × Value) = c.in-Table.rows in
    let fs : List (List ℕ × Value) = c.in-Table-other.others in
    let keys : keys_of es ≡ keys_of fs = sym c.keys.ensures ∙ texts_exact _ _ (sym c.eq.ensures ∙ c.if-eq.true) ∙ c.keys-in-Table-other.ensures in
    (λ h. ap tree_of c.in-Table.is ∙ table_same es fs keys (ap (λ l. map tree_of l) (sym c.values.ensures) ∙ c.are_same.ensures.0 h ∙ ap (λ l. map tree_of l) c.values-then-eq.ensures) ∙ ap tree_of (sym c.in-Table-other.is), λ e. c.are_same.ensures.1 (ap (λ l. map tree_of l) c.values.ensures ∙ values_same es fs (ap tree_of (sym c.in-Table.is) ∙ e ∙ ap tree_of c.in-Table-other.is) ∙ ap (λ l. map tree_of l) (sym c.values-then-eq.ensures)))

pub is_same-returns-else-eq : goal.is_same-returns-else-eq
is_same-returns-else-eq t c =
    let es : List (List ℕ × Value) = c.in-Table.rows in
    let fs : List (List ℕ × Value) = c.in-Table-other.others in
    (λ h. absurd (cc), λ e. c.eq.ensures ∙ texts_same _ _ (c.keys.ensures ∙ keys_same es fs (ap tree_of (sym c.in-Table.is) ∙ e ∙ ap tree_of c.in-Table-other.is) ∙ sym c.keys-in-Table-other.ensures))

pub are_same-returns-then-not-is_same : goal.are_same-returns-then-not-is_same
are_same-returns-then-not-is_same t c =
    let within : c.loop-i.i < length c.args.others.now = subst (λ n. c.loop-i.i < n) c.if-values-others.false c.loop-i-test.true in
    (λ h. absurd (cc), λ e. absurd (let same = c.is_same.ensures.1 (item_same c.args.values.now c.args.others.now c.loop-i.i c.index-values-i.result c.index-others-i.result c.loop-i-test.true within c.index-values-i.is c.index-others-i.is e) in cc))

pub is_same-returns-in_default : goal.is_same-returns-in_default
is_same-returns-in_default t c =
    let a = c.in-Pair.a in
    let b = c.in-Pair.b in
    apart pair_of (tree_of c.args.value.now) (tree_of c.args.other.now) (tree_of a.value, tree_of b.value)
    (ap pair_of (ap tree_of c.in-Pair.is ∙ pair_tree a b)) (no_pair c.args.other.now (λ x y e. c.in_default.not-Pair x y e))

pub is_same-returns-in_default-other : goal.is_same-returns-in_default-other
is_same-returns-in_default-other t c =
    apart inner_of (tree_of c.args.value.now) (tree_of c.args.other.now) (tree_of c.in-Some.a.value)
    (ap inner_of (ap tree_of c.in-Some.is ∙ inner_tree c.in-Some.a)) (no_inner c.args.other.now (λ x e. c.in_default-other.not-Some x e))

pub is_same-returns-in_default-other-2 : goal.is_same-returns-in_default-other-2
is_same-returns-in_default-other-2 t c =
    apart rows_of (tree_of c.args.value.now) (tree_of c.args.other.now) _
    (ap rows_of (ap tree_of c.in-Table.is ∙ table_tree c.in-Table.rows)) (no_rows c.args.other.now (λ es e. c.in_default-other-2.not-Table es e))
