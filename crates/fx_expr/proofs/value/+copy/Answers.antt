use Rattle.std.proofs.Common.{◌≡◌, sym, ◌∙◌, ap, map, List, ℕ}
use Rattle.std.specs.List.{zip}
use Rattle.fx_expr.specs.declared.value.Value.{Value}
use Rattle.fx_expr.specs.Rows.{keys_of, values_of}
use Rattle.fx_expr.specs.Views.{tree_of, entry_tree}
use Rattle.fx_expr.proofs.Trees.{entries_again, same_table}
use Rattle.fx_expr.proofs.value.+copy.Goals as goal

pub Value::copy-returns-in_ok-values-in-Table : goal.Value::copy-returns-in_ok-values-in-Table
Value::copy-returns-in_ok-values-in-Table t c =
    let es : List (List ℕ × Value) = c.in-Table.rows in
    let vs : List Value = c.in_ok-values-in-Table.values.items in
    let same_keys : c.in_ok-keys-in-Table.keys ≡ keys_of es = c.in_ok-keys-in-Table.ensures ∙ c.keys.ensures in
    let same_values : map tree_of vs ≡ map tree_of (values_of es) = c.in_ok-values-in-Table.ensures ∙ ap (λ l. map tree_of l) c.values.ensures in
    let built : c.from_parts.result ≡ zip (keys_of es) vs = c.from_parts.ensures ∙ ap (λ k. zip k vs) same_keys in
    same_table _ es (ap (λ l. map entry_tree l) built ∙ entries_again es vs same_values) ∙ ap tree_of (sym c.in-Table.is)
