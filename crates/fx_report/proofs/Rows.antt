-- The rows of a table, as texts beside values.
use Rattle.std.proofs.Common.{◌≡◌, ℕ, ◌<◌, ◌≤◌, zero, suc, List, [], ◌∷◌, ◌++◌, Some, length, map, take, get_or, refl, ap, ◌∙◌, arith, rules, codes}
use Rattle.std.specs.List.{slice_get, join_by, zip}
use Rattle.std.proofs.lemmas.List.{take_all, length-map}
use Rattle.std.proofs.lemmas.Slice.Zip.{length-zip}
use Rattle.std.proofs.lemmas.List.Folds.{flat_map-map}
use Rattle.fx_expr.specs.declared.value.Value.{Value, the_lemmas}
use Rattle.fx_expr.specs.declared.value.Value.TheVariants.{Table}
use Rattle.fx_expr.specs.Tree.{Tree, rows}
use Rattle.fx_expr.specs.Rows.{keys_of, values_of}
use Rattle.fx_expr.specs.Views.{tree_of, entry_tree}
use Rattle.fx_report.specs.Print.{comma, joined, row_text, row_texts, value_text}

-- each row's text, from the list of the rows
row_texts_of : (es : List (List ℕ × Tree)) → row_texts (rows es) ≡ map row_text es
row_texts_of [] = refl
row_texts_of (e ∷ es) = ap (λ ts. row_text e ∷ ts) (row_texts_of es)

joined_map : (es : List (List ℕ × Tree)) → joined (map row_text es) ≡ join_by row_text comma es
joined_map [] = refl
joined_map (e ∷ es) = ap (λ t. row_text e ++ t) (flat_map-map (λ t. comma ++ t) row_text es)

pub joined_rows : (es : List (List ℕ × Tree)) → joined (row_texts (rows es)) ≡ join_by row_text comma es
joined_rows es = ap joined (row_texts_of es) ∙ joined_map es

-- the rows of a table, from its texts and its values
pub sides : (es : List (List ℕ × Value)) → map entry_tree es ≡ zip (keys_of es) (map tree_of (values_of es))
sides [] = refl
sides (e ∷ es) = ap (λ ts. entry_tree e ∷ ts) (sides es)

pub table_text : (es : List (List ℕ × Value)) → value_text (tree_of (Table es)) ≡ codes "[" ++ join_by row_text comma (zip (keys_of es) (map tree_of (values_of es))) ++ codes "]"
table_text es =
    let tree : tree_of (Table es) ≡ Tree.table (rows (map entry_tree es)) = search (rules, the_lemmas) in
    let inner = joined_rows (map entry_tree es) ∙ ap (join_by row_text comma) (sides es) in
    ap value_text tree ∙ ap (λ t. codes "[" ++ t ++ codes "]") inner

-- the row at an index
pub row_at : (keys : List (List ℕ)) (values : List Value) (i : ℕ) (key : List ℕ) (value : Value) → slice_get keys i ≡ Some key → i < length values → value ≡ get_or values i value → slice_get (zip keys (map tree_of values)) i ≡ Some (key, tree_of value)
row_at [] values i key value k inside v = absurd (cc)
row_at (x ∷ keys) [] i key value k inside v = absurd (omega arith)
row_at (x ∷ keys) (y ∷ values) zero key value k inside v = cc
row_at (x ∷ keys) (y ∷ values) (suc i) key value k inside v = row_at keys values i key value k (omega arith) v

-- the front up to the number of values is all
pub all_rows : (keys : List (List ℕ)) (values : List Value) (i : ℕ) → length values ≡ length keys → length values ≤ i → take i (zip keys (map tree_of values)) ≡ zip keys (map tree_of values)
all_rows keys values i same past =
    take_all i (zip keys (map tree_of values)) (omega (arith, length-zip keys (map tree_of values), length-map values tree_of))
