-- The table of the first definitions, with one definition more.
use Rattle.std.proofs.Common.{◌≡◌, ℕ, suc, Bool, true, false, cond, List, [], ◌∷◌, ◌++◌, length, Option, Some, None, slice_get, refl, sym, ap, subst, ◌∙◌}
use Rattle.std.specs.Prelude.{nat_eq, is_some, if◌then◌else◌}
use Rattle.std.specs.Option.{option_map}
use Rattle.std.specs.Cmp.Lexicographic.{pointwise, nat_list_eq_equiv}
use Rattle.std.specs.Map.{lookup}
use Rattle.indexmap.specs.IndexMap.{insert_entry}
use Rattle.std.proofs.lemmas.Bool.{true≢false}
use Rattle.std.proofs.lemmas.Option.{none-some}
use Rattle.fx_base.proofs.Orders.{nat_list_exact}
use Rattle.fx_spec.specs.Written.{DefTree, definition, place}
use Rattle.fx_spec.specs.Naming.{Bytes, Table, is_named, place_of, IsTableOf}

abbrev pub at_place : List DefTree → Option ℕ → Option DefTree
at_place defs None = None
at_place defs (Some i) = slice_get defs i

-- at its place stands the definition
pub placed : (f : List ℕ) (defs : List DefTree) → at_place defs (place f defs) ≡ definition f defs
placed f [] = refl
placed f (d ∷ defs) = by (pointwise nat_eq d.name f) (place f defs) (placed f defs)
  where
    by : (b : Bool) (o : Option ℕ) → at_place defs o ≡ definition f defs → at_place (d ∷ defs) (cond b (Some 0) (option_map (λ i. suc i) o)) ≡ cond b (Some d) (definition f defs)
    by true o rest = refl
    by false None rest = rest
    by false (Some i) rest = rest

-- the first of two that is there
abbrev or_else : {A : Type 0} → Option A → Option A → Option A
or_else (Some a) b = Some a
or_else None b = b

abbrev pub same_key : Bytes → Bytes → Bool
same_key k other = pointwise nat_eq k.items other.items

symmetric : (x y : List ℕ) → pointwise nat_eq x y ≡ pointwise nat_eq y x
symmetric x y = nat_list_eq_equiv.symm x y

place_behind : (name : List ℕ) (defs : List DefTree) (d : DefTree)
    → place name (defs ++ d ∷ []) ≡ or_else (place name defs) (cond (pointwise nat_eq d.name name) (Some (length defs)) None)
place_behind name [] d = refl
place_behind name (e ∷ defs) d =
    ap (λ o. cond (pointwise nat_eq e.name name) (Some 0) (option_map (λ i. suc i) o)) (place_behind name defs d)
    ∙ by (pointwise nat_eq e.name name) (pointwise nat_eq d.name name) (place name defs)
  where
    by : (first last : Bool) (o : Option ℕ) → cond first (Some 0) (option_map (λ i. suc i) (or_else o (cond last (Some (length defs)) None)))
        ≡ or_else (cond first (Some 0) (option_map (λ i. suc i) o)) (cond last (Some (suc (length defs))) None)
    by true last o = refl
    by false last (Some i) = refl
    by false true None = refl
    by false false None = refl

-- what stands behind the first one
behind : {A : Type 0} (e : A) (x y z : Option A) (b : Bool) → y ≡ or_else x z → cond b (Some e) y ≡ or_else (cond b (Some e) x) z
behind e x y z true rest = refl
behind e x y z false rest = rest

place_more : (name : List ℕ) (table : Table) (k : Bytes) (i : ℕ) → lookup (same_key k) table ≡ None
    → place_of (insert_entry same_key table k i) name ≡ or_else (place_of table name) (cond (is_named name k) (Some i) None)
place_more name [] k i none = refl
place_more name (e ∷ table) k i none = by (same_key k e.0) refl (λ h. place_more name table k i (sym (ap (λ b. cond b (Some e.1) (lookup (same_key k) table)) h) ∙ none))
  where
    more : Option ℕ → Option ℕ
    more o = or_else o (cond (is_named name k) (Some i) None)

    by : (b : Bool) → same_key k e.0 ≡ b → (same_key k e.0 ≡ false → place_of (insert_entry same_key table k i) name ≡ more (place_of table name))
        → place_of (if b then (e.0, i) ∷ table else e ∷ insert_entry same_key table k i) name ≡ more (place_of (e ∷ table) name)
    by true h rest = absurd (none-some _ (sym none ∙ ap (λ b. cond b (Some e.1) (lookup (same_key k) table)) h))
    by false h rest = behind e.1 (place_of table name) _ (cond (is_named name k) (Some i) None) (is_named name e.0) (rest h)

-- a definition whose name is there already changes nothing that is found
pub table_kept : (defs : List DefTree) (table : Table) (d : DefTree) → IsTableOf defs table → is_some (place_of table d.name) ≡ true → IsTableOf (defs ++ d ∷ []) table
table_kept defs table d old there name = old name ∙ (stays (place name defs) (pointwise nat_eq d.name name) known ∙ sym (place_behind name defs d))
  where
    stays : (o : Option ℕ) (b : Bool) → (b ≡ true → is_some o ≡ true) → o ≡ or_else o (cond b (Some (length defs)) None)
    stays (Some i) b h = refl
    stays None true h = absurd (true≢false (sym (h refl)))
    stays None false h = refl

    known : pointwise nat_eq d.name name ≡ true → is_some (place name defs) ≡ true
    known same = subst (λ n. is_some (place n defs) ≡ true) (nat_list_exact d.name name same) (sym (ap is_some (old d.name)) ∙ there)

-- a definition with a new name is found by it
pub table_more : (defs : List DefTree) (table : Table) (d : DefTree) (k : Bytes) → IsTableOf defs table → k.items ≡ d.name → is_some (place_of table d.name) ≡ false
    → IsTableOf (defs ++ d ∷ []) (insert_entry same_key table k (length defs))
table_more defs table d k old key absent name =
    place_more name table k (length defs) none
    ∙ ap (λ b. or_else (place_of table name) (cond b (Some (length defs)) None)) (ap (pointwise nat_eq name) key ∙ symmetric name d.name)
    ∙ ap (λ o. or_else o (cond (pointwise nat_eq d.name name) (Some (length defs)) None)) (old name)
    ∙ sym (place_behind name defs d)
  where
    nothing : (o : Option ℕ) → is_some o ≡ false → o ≡ None
    nothing None h = refl
    nothing (Some i) h = absurd (true≢false h)

    none : lookup (same_key k) table ≡ None
    none = subst (λ bytes. lookup (λ (other : Bytes). pointwise nat_eq bytes other.items) table ≡ None) (sym key) (nothing (place_of table d.name) absent)
