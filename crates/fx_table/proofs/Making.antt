-- The filestore that lists what was found.
use Rattle.fx_table.proofs.Prelude.{◌≡◌, Bool, true, false, cond, List, [], ◌∷◌, Option, Some, None, Result, Ok, Err, IfOk, option_map, refl, sym, ◌∙◌, ap, subst, unwrap_or, eq_by_cmp, IsStrictlySortedBy, keys_of, get, from_entries, get-from_entries, false≢true, Parts, Node, File, Dir, Link, Change, path_cmp, path_total, IsChanges, changed_paths, change_at, IsWhole, over_nodes, get-over_nodes, same_nodes, IsWhole-same, Mapped, listed, mapped_of, changes_of, AreShaped, HaveNameSets, is_dir, Filestore, root_only, over-change_at, bare, get-root_only}
use Rattle.fx_base.specs.declared.NoMemory.{NoMemory}
use Rattle.fx_store.specs.Whole.{over}
use Rattle.fx_table.proofs.Shapes.{found, listed_whole, find_listed, keys_with, relisted, is_set}

pub paths_of : (es : List Mapped) → changed_paths (changes_of es) ≡ keys_of es
paths_of [] = refl
paths_of (e ∷ es) = ap (λ l. e.0 ∷ l) (paths_of es)

pub set_at : (es : List Mapped) (q : Parts) → change_at (changes_of es) q ≡ option_map Some (found es q)
set_at [] q = refl
set_at (e ∷ es) q = by (eq_by_cmp path_cmp q e.0) (set_at es q)
  where
    by : (b : Bool) → change_at (changes_of es) q ≡ option_map Some (found es q) → cond b (Some (Some e.1)) (change_at (changes_of es) q) ≡ option_map Some (cond b (Some e.1) (found es q))
    by true rest = refl
    by false rest = rest

module _ (es : List Mapped) (root : is_dir (found es []) ≡ true) (up : IsStrictlySortedBy path_cmp (keys_of es)) where
  ascend : IsChanges (changes_of es)
  ascend = subst (IsStrictlySortedBy path_cmp) (sym (paths_of es)) up

  made : (q : Parts) → over (get root_only) (changes_of es) q ≡ found es q
  made q = over-change_at (get root_only) (changes_of es) ascend q ∙ (ap (λ o. unwrap_or o (get root_only q)) (set_at es q) ∙ (ap (unwrap_or (option_map Some (found es q))) (sym (get-root_only q)) ∙ by q (found es q) refl))
    where
      by : (q : Parts) (o : Option Node) → found es q ≡ o → unwrap_or (option_map Some o) (bare q) ≡ o
      by q (Some node) is = refl
      by [] None is = absurd (false≢true (ap is_dir (sym is) ∙ root))
      by (n ∷ q) None is = refl

root_listed : (es : List Mapped) → is_dir (found es []) ≡ true → is_dir (found (listed es) []) ≡ true
root_listed es root = ap is_dir (find_listed es es []) ∙ by (found es []) root
  where
    by : (o : Option Node) → is_dir o ≡ true → is_dir (option_map (relisted es []) o) ≡ true
    by None e = e
    by (Some (File bytes exec)) e = e
    by (Some (Dir names)) e = e
    by (Some (Link text)) e = e

module _ (changes : List Change) (are : AreShaped changes) where
  abbrev es : List Mapped
  es = mapped_of changes

  pub name_sets : HaveNameSets es
  name_sets = record { ascending = are.ascending; sets = λ path. (is_set es are.ascending are.shape are.bytes path).0 }

  up : IsStrictlySortedBy path_cmp (keys_of (listed es))
  up = subst (IsStrictlySortedBy path_cmp) (sym (keys_with es es)) are.ascending

  root : is_dir (found (listed es) []) ≡ true
  root = root_listed es are.shape.root

  module _ (new : List Change) (is : new ≡ changes_of (listed es)) where
    pub ascends : IsChanges new
    ascends = subst IsChanges (sym is) (ascend (listed es) root up)

    pub makes_whole : IsWhole (over (get root_only) new)
    makes_whole = subst (λ l. IsWhole (over (get root_only) l)) (sym is) (IsWhole-same (found (listed es)) (over (get root_only) (changes_of (listed es))) (λ q. sym (made (listed es) root up q)) (listed_whole es are.ascending are.shape are.bytes))

    pub makes_listed : over_nodes root_only new ≡ from_entries (listed es)
    makes_listed = ap (over_nodes root_only) is ∙ same_nodes (over_nodes root_only (changes_of (listed es))) (from_entries (listed es)) (λ q. get-over_nodes root_only (changes_of (listed es)) q ∙ (made (listed es) root up q ∙ sym (get-from_entries path_total (listed es) q)))

pub built : (r : Result Filestore NoMemory) (changes : List Change) (are : AreShaped changes) (new : List Change) → new ≡ changes_of (listed (mapped_of changes)) → IfOk r (λ s. s.nodes ≡ over_nodes root_only new) → IfOk r (λ s. s.nodes ≡ from_entries (listed (mapped_of changes)))
built (Ok s) changes are new is made = made ∙ makes_listed changes are new is
built (Err e) changes are new is made = tt
