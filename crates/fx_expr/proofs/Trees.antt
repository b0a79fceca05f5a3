-- The trees of tables.
use Rattle.std.proofs.Common.{◌≡◌, ℕ, List, [], ◌∷◌, map, refl, ap, sym, ◌∙◌, rules}
use Rattle.std.specs.List.{zip}
use Rattle.fx_expr.specs.declared.value.Value.{Value, the_lemmas}
use Rattle.fx_expr.specs.declared.value.Value.TheVariants.{Table}
use Rattle.fx_expr.specs.Tree.{Tree, rows, entries}
use Rattle.fx_expr.specs.Eval.{entries_in}
use Rattle.fx_expr.specs.Rows.{keys_of, values_of}
use Rattle.fx_expr.specs.Views.{tree_of, entry_tree}

pub table_tree : (es : List (List ℕ × Value)) → tree_of (Table es) ≡ Tree.table (rows (map entry_tree es))
table_tree es = search (rules, the_lemmas)

-- the same texts with values of the same trees
pub entries_again : (es : List (List ℕ × Value)) (vs : List Value) → map tree_of vs ≡ map tree_of (values_of es) → map entry_tree (zip (keys_of es) vs) ≡ map entry_tree es
entries_again [] vs e = refl
entries_again (x ∷ es) [] e = absurd (cc)
entries_again (x ∷ es) (v ∷ vs) e =
    let first : tree_of v ≡ tree_of x.1 = cc in
    let rest : map tree_of vs ≡ map tree_of (values_of es) = cc in
    λ i. (x.0, first i) ∷ entries_again es vs rest i

pub same_table : (es fs : List (List ℕ × Value)) → map entry_tree es ≡ map entry_tree fs → tree_of (Table es) ≡ tree_of (Table fs)
same_table es fs e = table_tree es ∙ ap (λ r. Tree.table (rows r)) e ∙ sym (table_tree fs)

pub entries_rows : (es : List (List ℕ × Tree)) → entries (rows es) ≡ es
entries_rows [] = refl
entries_rows (e ∷ es) = ap (λ l. e ∷ l) (entries_rows es)

keys_entries : (es : List (List ℕ × Value)) → map (λ e. e.0) (map entry_tree es) ≡ keys_of es
keys_entries [] = refl
keys_entries (e ∷ es) = ap (λ l. e.0 ∷ l) (keys_entries es)

pub table_keys : (es : List (List ℕ × Value)) → map (λ e. e.0) (entries_in (tree_of (Table es))) ≡ keys_of es
table_keys es = ap (λ t. map (λ e. e.0) (entries_in t)) (table_tree es) ∙ ap (λ l. map (λ e. e.0) l) (entries_rows (map entry_tree es)) ∙ keys_entries es
