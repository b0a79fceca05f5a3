-- The filestore of a number, before any transaction.
use Rattle.std.proofs.Common.{◌≡◌, ℕ, ◌+◌, ◌<◌, false, cond, List, [], ◌∷◌, map, Option, Some, None, refl, sym, ap, subst, ◌∙◌, arith, codes}
use Rattle.std.specs.Prelude.{is_some}
use mathlib.Core.Path.{fun_ext}
use Rattle.std.specs.Fmt.{decimal, digits}
use Rattle.std.specs.FinMap.{get, get-empty, get-insert, len, len-empty, len-insert, empty, insert}
use Rattle.std.specs.Ordering.{eq_by_cmp}
use Rattle.std.proofs.lemmas.Bool.{true≢false}
use Rattle.fx_store.specs.declared.node.Node.{Node}
use Rattle.fx_store.specs.declared.node.Node.TheVariants.{File, Dir}
use Rattle.fx_store.specs.Filestore.{root_only}
use Rattle.fx_store.specs.Names.{path_cmp}
use Rattle.fx_store.specs.Orders.{path_total}
use Rattle.fx_store.specs.Whole.{Store, Nodes, IsWhole, over, over_nodes, update}
use Rattle.fx_spec.proofs.Tasks.{get-set_node, get-over_nodes}
use Rattle.fx_gen.specs.Notes.{Placed, made, all_placed, project, part_names, config, nodes, changes_to}
use Rattle.fx_gen.proofs.Placing.{changes_whole}
use Rattle.fx_laws_above.proofs.Sixteen.{each_of_16}
use Rattle.fx_laws_above.proofs.States.{Stands}
use Rattle.fx_laws_above.proofs.Walks.{count_path, log_path}

-- the root alone
abbrev root : Store
root q = cond (eq_by_cmp path_cmp q []) (Some (Dir [])) None

root_is : get root_only ≡ root
root_is = fun_ext (λ q. get-insert path_total empty [] (Dir []) q ∙ ap (λ n. cond (eq_by_cmp path_cmp q []) (Some (Dir [])) n) (get-empty path_cmp q))

root_size : len root_only ≡ 1
root_size =
    len-insert path_total empty [] (Dir [])
    ∙ ap (λ (o : Option Node). cond (is_some o) (len (empty {X = Node} {R = path_cmp})) (len (empty {X = Node} {R = path_cmp}) + 1)) (get-empty path_cmp [])
    ∙ ap (λ n. n + 1) (len-empty path_cmp Node)

-- how many nodes there are with some more, of which one that stands where another does takes its place
abbrev grown : Store → ℕ → List Placed → ℕ
grown S n [] = n
grown S n (e ∷ es) = grown (update S (made e)) (cond (is_some (S e.0)) n (n + 1)) es

len-grown : (m : Nodes) (es : List Placed) → len (over_nodes m (map made es)) ≡ grown (get m) (len m) es
len-grown m [] = refl
len-grown m (e ∷ es) =
    len-grown (insert m e.0 e.1) es
    ∙ ap (λ S. grown S (len (insert m e.0 e.1)) es) (get-set_node m (made e))
    ∙ ap (λ n. grown (update (get m) (made e)) n es) (len-insert path_total m e.0 e.1)

begun_size : (number : ℕ) → len (nodes number) ≡ 195
unfolding changes_to
begun_size number =
    len-grown root_only (all_placed number)
    ∙ ap (λ S. grown S (len root_only) (all_placed number)) root_is
    ∙ ap (λ n. grown root n (all_placed number)) root_size
    ∙ refl

begun_get : (number : ℕ) → get (nodes number) ≡ over root (map made (all_placed number))
unfolding changes_to
begun_get number = get-over_nodes root_only (map made (all_placed number)) ∙ ap (λ S. over S (map made (all_placed number))) root_is

module _ (number : ℕ) where
  abbrev S : Store
  S = over root (map made (all_placed number))

  listing : S (codes "config" ∷ []) ≡ Some (File config false)
  listing = refl

  abbrev IsBegun : ℕ → Type 0
  IsBegun p = (S (project p ∷ []) ≡ Some (Dir part_names)) × (S (count_path p) ≡ Some (File (decimal 0) false)) × (S (log_path p) ≡ Some (Dir []))

  begun : (p : ℕ) → p < 16 → IsBegun p
  unfolding digits
  begun = each_of_16 IsBegun (refl, refl, refl) (refl, refl, refl) (refl, refl, refl) (refl, refl, refl) (refl, refl, refl) (refl, refl, refl) (refl, refl, refl) (refl, refl, refl) (refl, refl, refl) (refl, refl, refl) (refl, refl, refl) (refl, refl, refl) (refl, refl, refl) (refl, refl, refl) (refl, refl, refl) (refl, refl, refl)

  there : (r : List (List ℕ)) (n : Option Node) → S r ≡ n → get (nodes number) r ≡ n
  there r n is = ap (λ (S : Store). S r) (begun_get number) ∙ is

  pub begins : Stands number [] (nodes number)
  begins = record {
    whole = subst IsWhole (sym (get-over_nodes root_only (changes_to number 16))) (changes_whole number);
    listing = there (codes "config" ∷ []) (Some (File config false)) listing;
    dir = λ p l. there (project p ∷ []) (Some (Dir part_names)) (begun p l).0;
    counts = λ p. 0;
    count = λ p l. there (count_path p) (Some (File (decimal 0) false)) (begun p l).1;
    logs = λ p. [];
    log = λ p l. there (log_path p) (Some (Dir [])) (begun p l).2;
    few = λ p. omega arith;
    light = λ p. omega arith;
    tags = λ p l n h. absurd (true≢false (sym h));
    counted = refl;
    logged = refl;
    size = begun_size number;
  }
