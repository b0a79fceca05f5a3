-- When two values are equal: by the part of a value of one kind, and by the rows of a table.
use Rattle.std.proofs.Common.{◌≡◌, ℕ, ℤ, ◌<◌, Bool, true, false, get_or, length, List, [], ◌∷◌, map, nat_eq, Option, Some, None, refl, ap, sym, subst, ◌∙◌}
use Rattle.std.specs.Prelude.{◌↔◌, IsTrue}
use Rattle.std.specs.declared.alloc.Global.{Global}
use Rattle.std.specs.declared.boxed.Box.{Box}
use Rattle.std.specs.Cmp.Lexicographic.{pointwise, lists_equiv, nat_list_eq_equiv}
use Rattle.std.proofs.lemmas.Bool.{false≢true}
use Rattle.std.proofs.lemmas.List.{get_or-map}
use Rattle.std.proofs.lemmas.Option.{none-some, same_Some}
use Rattle.fx_base.proofs.Orders.{bytes_itself, nat_list_exact, texts_exact}
use Rattle.fx_expr.specs.declared.value.Value.{Value, fold-roll-Value, fold_out-Value, map-Value, out-Value, roll-Value, roll-out-Value}
use Rattle.fx_expr.specs.declared.value.Value.TheOpen.{Value-F}
use Rattle.fx_expr.specs.declared.value.Value.TheVariants.{Int, Pair, Nothing, Some as There, Table, rolls-Int, rolls-Pair, rolls-Nothing, rolls-Some, rolls-Table}
use Rattle.fx_expr.specs.Tree.{Tree, TreeRows}
use Rattle.fx_expr.specs.Eval.{entries_in}
use Rattle.fx_expr.specs.Parts.{names_of, text_of, truth_of}
use Rattle.fx_expr.specs.Rows.{keys_of, values_of}
use Rattle.fx_expr.specs.Views.{tree_of, tree_step, entry_tree}
use Rattle.fx_expr.proofs.Trees.{table_tree, table_keys, same_table, entries_rows}

pub texts_same : (xs ys : List (List ℕ)) → xs ≡ ys → pointwise (pointwise nat_eq) xs ys ≡ true
texts_same xs ys e = subst (λ zs. pointwise (pointwise nat_eq) xs zs ≡ true) e ((lists_equiv nat_list_eq_equiv).refl xs)

-- ---- values of one kind, told by their part

-- the value has the part, so it is the kind's value of it
pub same_kind : {A : Type 0} (part : Tree → Option A) (make : A → Tree) (t : Tree) (x y : A) (b : Bool) → part (make x) ≡ Some x → part t ≡ Some y → t ≡ make y → (IsTrue b ↔ (x ≡ y)) → IsTrue b ↔ (make x ≡ t)
same_kind part make t x y b made has is tells = (λ h. ap make (tells.0 h) ∙ sym is, λ e. tells.1 (same_Some x y (sym made ∙ ap part e ∙ has)))

-- the value has no such part, so it is no value of the kind
pub no_kind : {A : Type 0} (part : Tree → Option A) (make : A → Tree) (t : Tree) (x : A) → part (make x) ≡ Some x → part t ≡ None → IsTrue false ↔ (make x ≡ t)
no_kind part make t x made none = (λ h. absurd (false≢true h), λ e. absurd (none-some x (sym none ∙ ap part (sym e) ∙ made)))

text_is : (t : Tree) (y : List ℕ) → text_of t ≡ Some y → t ≡ Tree.str y
text_is (Tree.str x) y e = ap (λ z. Tree.str z) (same_Some x y e)
text_is (Tree.int n) y e = absurd (none-some y e)
text_is (Tree.bool b) y e = absurd (none-some y e)
text_is (Tree.names xs) y e = absurd (none-some y e)
text_is (Tree.pair v w) y e = absurd (none-some y e)
text_is Tree.nothing y e = absurd (none-some y e)
text_is (Tree.some v) y e = absurd (none-some y e)
text_is (Tree.table rs) y e = absurd (none-some y e)

truth_is : (t : Tree) (y : Bool) → truth_of t ≡ Some y → t ≡ Tree.bool y
truth_is (Tree.bool x) y e = ap (λ z. Tree.bool z) (same_Some x y e)
truth_is (Tree.str x) y e = absurd (none-some y e)
truth_is (Tree.int n) y e = absurd (none-some y e)
truth_is (Tree.names xs) y e = absurd (none-some y e)
truth_is (Tree.pair v w) y e = absurd (none-some y e)
truth_is Tree.nothing y e = absurd (none-some y e)
truth_is (Tree.some v) y e = absurd (none-some y e)
truth_is (Tree.table rs) y e = absurd (none-some y e)

set_is : (t : Tree) (y : List (List ℕ)) → names_of t ≡ Some y → t ≡ Tree.names y
set_is (Tree.names x) y e = ap (λ z. Tree.names z) (same_Some x y e)
set_is (Tree.str x) y e = absurd (none-some y e)
set_is (Tree.int n) y e = absurd (none-some y e)
set_is (Tree.bool b) y e = absurd (none-some y e)
set_is (Tree.pair v w) y e = absurd (none-some y e)
set_is Tree.nothing y e = absurd (none-some y e)
set_is (Tree.some v) y e = absurd (none-some y e)
set_is (Tree.table rs) y e = absurd (none-some y e)

pub same_text : (t : Tree) (x y : List ℕ) (b : Bool) → text_of t ≡ Some y → b ≡ pointwise nat_eq x y → IsTrue b ↔ (Tree.str x ≡ t)
same_text t x y b has e =
    same_kind text_of (λ z. Tree.str z) t x y b refl has (text_is t y has) (λ h. nat_list_exact x y (sym e ∙ h), λ same. e ∙ (ap (λ z. pointwise nat_eq x z) (sym same) ∙ bytes_itself x))

pub no_text : (t : Tree) (x : List ℕ) → text_of t ≡ None → IsTrue false ↔ (Tree.str x ≡ t)
no_text t x none = no_kind text_of (λ z. Tree.str z) t x refl none

pub same_truth : (t : Tree) (x y b : Bool) → truth_of t ≡ Some y → (IsTrue b ↔ (x ≡ y)) → IsTrue b ↔ (Tree.bool x ≡ t)
same_truth t x y b has tells = same_kind truth_of (λ z. Tree.bool z) t x y b refl has (truth_is t y has) tells

pub no_truth : (t : Tree) (x : Bool) → truth_of t ≡ None → IsTrue false ↔ (Tree.bool x ≡ t)
no_truth t x none = no_kind truth_of (λ z. Tree.bool z) t x refl none

pub same_set : (t : Tree) (x y : List (List ℕ)) (b : Bool) → names_of t ≡ Some y → b ≡ pointwise (pointwise nat_eq) x y → IsTrue b ↔ (Tree.names x ≡ t)
same_set t x y b has e =
    same_kind names_of (λ z. Tree.names z) t x y b refl has (set_is t y has) (λ h. texts_exact x y (sym e ∙ h), λ same. e ∙ texts_same x y same)

pub no_set : (t : Tree) (x : List (List ℕ)) → names_of t ≡ None → IsTrue false ↔ (Tree.names x ≡ t)
no_set t x none = no_kind names_of (λ z. Tree.names z) t x refl none

-- ---- values of no such kind, told by their one level

abbrev Layer : Type 0
Layer = Value-F Value

-- the tree of a value, by its one level
abbrev shown : Layer → Tree
shown x = tree_step (map-Value Value Tree tree_of x)

layer : (v : Value) → tree_of v ≡ shown (out-Value v)
layer v = fold_out-Value Tree tree_step v

-- the value whose one level this is
rolled : (v : Value) (x : Layer) → out-Value v ≡ x → v ≡ roll-Value x
rolled v x e = sym (roll-out-Value v) ∙ ap roll-Value e

abbrev pub integer_of : Tree → Option ℤ
integer_of (Tree.int n) = Some n
integer_of _ = None

abbrev pub pair_of : Tree → Option (Tree × Tree)
pair_of (Tree.pair v w) = Some (v, w)
pair_of _ = None

abbrev pub nothing_of : Tree → Option (Unit {0})
nothing_of Tree.nothing = Some tt
nothing_of _ = None

abbrev pub inner_of : Tree → Option Tree
inner_of (Tree.some v) = Some v
inner_of _ = None

abbrev pub rows_of : Tree → Option TreeRows
rows_of (Tree.table rs) = Some rs
rows_of _ = None

integer_else : (x : Layer) → ((n : ℤ) → x ≡ Value-F.Int n → ⊥) → integer_of (shown x) ≡ None
integer_else (Value-F.Int n) other = absurd (other n refl)
integer_else _ other = refl

pair_else : (x : Layer) → ((a b : Box Value Global) → x ≡ Value-F.Pair a b → ⊥) → pair_of (shown x) ≡ None
pair_else (Value-F.Pair a b) other = absurd (other a b refl)
pair_else _ other = refl

nothing_else : (x : Layer) → (x ≡ Value-F.Nothing → ⊥) → nothing_of (shown x) ≡ None
nothing_else Value-F.Nothing other = absurd (other refl)
nothing_else _ other = refl

inner_else : (x : Layer) → ((a : Box Value Global) → x ≡ Value-F.Some a → ⊥) → inner_of (shown x) ≡ None
inner_else (Value-F.Some a) other = absurd (other a refl)
inner_else _ other = refl

rows_else : (x : Layer) → ((es : List (List ℕ × Value)) → x ≡ Value-F.Table es → ⊥) → rows_of (shown x) ≡ None
rows_else (Value-F.Table es) other = absurd (other es refl)
rows_else _ other = refl

pub no_integer : (v : Value) → ((n : ℤ) → v ≡ Int n → ⊥) → integer_of (tree_of v) ≡ None
no_integer v other = ap integer_of (layer v) ∙ integer_else (out-Value v) (λ n e. other n (rolled v (Value-F.Int n) e ∙ rolls-Int n))

pub no_pair : (v : Value) → ((a b : Box Value Global) → v ≡ Pair a b → ⊥) → pair_of (tree_of v) ≡ None
no_pair v other = ap pair_of (layer v) ∙ pair_else (out-Value v) (λ a b e. other a b (rolled v (Value-F.Pair a b) e ∙ rolls-Pair a b))

pub no_nothing : (v : Value) → (v ≡ Nothing → ⊥) → nothing_of (tree_of v) ≡ None
no_nothing v other = ap nothing_of (layer v) ∙ nothing_else (out-Value v) (λ e. other (rolled v Value-F.Nothing e ∙ rolls-Nothing))

pub no_inner : (v : Value) → ((a : Box Value Global) → v ≡ There a → ⊥) → inner_of (tree_of v) ≡ None
no_inner v other = ap inner_of (layer v) ∙ inner_else (out-Value v) (λ a e. other a (rolled v (Value-F.Some a) e ∙ rolls-Some a))

pub no_rows : (v : Value) → ((es : List (List ℕ × Value)) → v ≡ Table es → ⊥) → rows_of (tree_of v) ≡ None
no_rows v other = ap rows_of (layer v) ∙ rows_else (out-Value v) (λ es e. other es (rolled v (Value-F.Table es) e ∙ rolls-Table es))

pub pair_tree : (a b : Box Value Global) → tree_of (Pair a b) ≡ Tree.pair (tree_of a.value) (tree_of b.value)
pair_tree a b = ap tree_of (sym (rolls-Pair a b)) ∙ fold-roll-Value Tree tree_step (Value-F.Pair a b)

pub inner_tree : (a : Box Value Global) → tree_of (There a) ≡ Tree.some (tree_of a.value)
inner_tree a = ap tree_of (sym (rolls-Some a)) ∙ fold-roll-Value Tree tree_step (Value-F.Some a)

-- one value has the part and the other has none
pub apart : {A : Type 0} (part : Tree → Option A) (v w : Tree) (x : A) → part v ≡ Some x → part w ≡ None → IsTrue false ↔ (v ≡ w)
apart part v w x has none = (λ h. absurd (false≢true h), λ e. absurd (none-some x (sym none ∙ ap part (sym e) ∙ has)))

-- ---- tables and lists

rows_same : (es fs : List (List ℕ × Value)) → keys_of es ≡ keys_of fs → map tree_of (values_of es) ≡ map tree_of (values_of fs) → map entry_tree es ≡ map entry_tree fs
rows_same [] [] k v = refl
rows_same [] (f ∷ fs) k v = absurd (cc)
rows_same (e ∷ es) [] k v = absurd (cc)
rows_same (e ∷ es) (f ∷ fs) k v =
    let key : e.0 ≡ f.0 = cc in
    let keys : keys_of es ≡ keys_of fs = cc in
    let value : tree_of e.1 ≡ tree_of f.1 = cc in
    let values : map tree_of (values_of es) ≡ map tree_of (values_of fs) = cc in
    λ i. (key i, value i) ∷ rows_same es fs keys values i

values_entries : (es : List (List ℕ × Value)) → map (λ e. e.1) (map entry_tree es) ≡ map tree_of (values_of es)
values_entries [] = refl
values_entries (e ∷ es) = ap (λ l. tree_of e.1 ∷ l) (values_entries es)

table_values : (es : List (List ℕ × Value)) → map (λ e. e.1) (entries_in (tree_of (Table es))) ≡ map tree_of (values_of es)
table_values es = ap (λ t. map (λ e. e.1) (entries_in t)) (table_tree es) ∙ ap (λ l. map (λ e. e.1) l) (entries_rows (map entry_tree es)) ∙ values_entries es

-- tables with equal texts and equal values
pub table_same : (es fs : List (List ℕ × Value)) → keys_of es ≡ keys_of fs → map tree_of (values_of es) ≡ map tree_of (values_of fs) → tree_of (Table es) ≡ tree_of (Table fs)
table_same es fs k v = same_table es fs (rows_same es fs k v)

pub keys_same : (es fs : List (List ℕ × Value)) → tree_of (Table es) ≡ tree_of (Table fs) → keys_of es ≡ keys_of fs
keys_same es fs e = sym (table_keys es) ∙ ap (λ t. map (λ e. e.0) (entries_in t)) e ∙ table_keys fs

pub values_same : (es fs : List (List ℕ × Value)) → tree_of (Table es) ≡ tree_of (Table fs) → map tree_of (values_of es) ≡ map tree_of (values_of fs)
values_same es fs e = sym (table_values es) ∙ ap (λ t. map (λ e. e.1) (entries_in t)) e ∙ table_values fs

-- lists of equal values have equal values at each place
pub item_same : (vs ws : List Value) (i : ℕ) (v w : Value) → i < length vs → i < length ws → v ≡ get_or vs i v → w ≡ get_or ws i w → map tree_of vs ≡ map tree_of ws → tree_of v ≡ tree_of w
item_same vs ws i v w in_vs in_ws at_v at_w e =
    ap tree_of at_v ∙ sym (get_or-map tree_of vs i v (tree_of w) in_vs) ∙ ap (λ l. get_or l i (tree_of w)) e ∙ get_or-map tree_of ws i w (tree_of w) in_ws ∙ ap tree_of (sym at_w)
