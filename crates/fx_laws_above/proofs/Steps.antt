-- What a generated transaction does on a filestore that has its project.
use Rattle.std.proofs.Common.{◌≡◌, ℕ, ◌+◌, ◌^◌, ◌<◌, ◌≤◌, Bool, true, false, cond, List, [], ◌∷◌, ◌++◌, Some, Ok, refl, sym, ap, subst, ◌∙◌, arith, codes}
use mathlib.Core.Path.{fun_ext}
use Rattle.std.specs.Fmt.{decimal}
use Rattle.std.specs.Ordering.{eq_by_cmp}
use Rattle.std.proofs.lemmas.Fmt.{length-decimal-le, decimal_is_IsNumeral}
use Rattle.std.proofs.lemmas.Grind.{get_or_default_zero}
use Rattle.std.proofs.lemmas.Str.Parse.{digit_at}
use Rattle.fx_store.specs.declared.node.Node.{Node}
use Rattle.fx_store.specs.declared.node.Node.TheVariants.{File, Dir}
use Rattle.fx_store.specs.declared.changes.Change.{Change}
use Rattle.fx_store.specs.Names.{path_cmp, IsName, IsNameSet, IsContent, has}
use Rattle.fx_store.specs.Resolve.{◌/ₚ◌, resolve}
use Rattle.fx_store.specs.Rule.{answer, ◌>>=◌}
use Rattle.fx_store.specs.Whole.{Store, update, over}
use Rattle.fx_store.specs.Orders.{path_eq_same}
use Rattle.fx_text.specs.declared.set.TheConstants.{UNION_LIMIT}
use Rattle.fx_text.specs.Sets.{set_of, with_text, weight}
use Rattle.fx_expr.specs.Eval.{eval_of}
use Rattle.fx_expr.specs.declared.expr.BinOp.{BinOp}
use Rattle.fx_expr.specs.declared.expr.UnOp.{UnOp}
use Rattle.fx_expr.specs.ExprTree.{ExprTree}
use Rattle.fx_expr.specs.Tree.{Tree}
use Rattle.fx_spec.specs.declared.refusal.End.{End}
use Rattle.fx_spec.specs.SpecTree.{SpecTree}
use Rattle.fx_spec.specs.CommandTree.{ActTree, CommandTree, Block, count}
use Rattle.fx_spec.specs.Edit.{set_to, store_landed, follows_last, store_at, new_names}
use Rattle.fx_spec.specs.Move.{unrefused}
use Rattle.fx_spec.specs.Place.{PlaceTree, place, placed}
use Rattle.fx_spec.specs.Task.{result, after}
use Rattle.fx_spec.specs.Transaction.{Standing, On, go_on, or_stop, taking, edits, effect, run, run_block, transaction, flow_end, is_done, end, left}
use Rattle.fx_spec.proofs.EditsMake.{IsNameSet-with}
use Rattle.fx_gen.specs.Notes.{project, part_names, config}
use Rattle.fx_gen.specs.Scripts.{tag}
use Rattle.fx_gen.specs.Trees.{description_tree, count_tree, log_tree}
use Rattle.fx_laws_above.proofs.Adding.{adds, united_with}
use Rattle.fx_laws.proofs.Accepted.{file_stored, dir_stored}
use Rattle.fx_laws.proofs.Stored.{after-asking, result-asking, after-then, result-then, store_effect}
use Rattle.fx_laws_above.proofs.Reading.{one_more, count_more}
use Rattle.fx_laws_above.proofs.Sixteen.{each_of_16}
use Rattle.fx_laws_above.proofs.Walks.{count_path, log_path, on_count, on_log, counting, logging, of_project, Counts, Logs, counts, logs}

-- ---- a filestore with what stands there is the same

set_same : (S : Store) (q : List (List ℕ)) (node : Node) → S q ≡ Some node → update S (set_to q node) ≡ S
set_same S q node there = fun_ext (λ p. at p (eq_by_cmp path_cmp p q) refl)
  where
    at : (p : List (List ℕ)) (b : Bool) → eq_by_cmp path_cmp p q ≡ b → cond b (Some node) (S p) ≡ S p
    at p true e = sym there ∙ ap S (sym (path_eq_same p q e))
    at p false e = refl

-- ---- a block that stores, and ends

module _ (S : Store) (i : ℕ) (e : ExprTree) (s : Standing) (v : Tree) (at : PlaceTree) (cs : List Change) (there : answer S (place description_tree s.address) ≡ Some at) (is : eval_of s.vars e ≡ Ok v) (stores : answer S (store_at v at) ≡ Ok cs) where
  abbrev storing : CommandTree
  storing = CommandTree.act (ActTree.store e)

  takes : answer S (effect description_tree s.address s.vars (ActTree.store e)) ≡ edits (Ok cs)
  takes = store_effect S description_tree s.address s.vars e v at there is ∙ ap edits stores

  run_result : result S (run description_tree i storing s) ≡ On s
  run_result = result-asking S (effect description_tree s.address s.vars (ActTree.store e)) (or_stop i s (taking s)) ∙ ap (λ o. result S (or_stop i s (taking s) o)) takes

  run_after : after S (run description_tree i storing s) ≡ over S cs
  run_after = after-asking S (effect description_tree s.address s.vars (ActTree.store e)) (or_stop i s (taking s)) ∙ ap (λ o. after S (or_stop i s (taking s) o)) takes

  stored_result : result S (run_block description_tree i (Block.then storing Block.none) s) ≡ On s
  stored_result =
      result-then S (run description_tree i storing s) (go_on (λ s. run_block description_tree (i + count storing) Block.none s))
      ∙ ap (λ f. result (after S (run description_tree i storing s)) (go_on (λ s. run_block description_tree (i + count storing) Block.none s) f)) run_result

  stored_after : after S (run_block description_tree i (Block.then storing Block.none) s) ≡ over S cs
  stored_after =
      after-then S (run description_tree i storing s) (go_on (λ s. run_block description_tree (i + count storing) Block.none s))
      ∙ ap (λ f. after (after S (run description_tree i storing s)) (go_on (λ s. run_block description_tree (i + count storing) Block.none s) f)) run_result
      ∙ run_after

-- a transaction is done, and leaves the filestore with these changes
pub record Does (S : Store) (t : List CommandTree) (cs : List Change) : Type 0 where
  pub end : end description_tree t S ≡ End.Done
  pub left : left description_tree t S ≡ over S cs

does_by : (S : Store) (t : List CommandTree) (s : Standing) (cs : List Change) → result S (transaction description_tree t) ≡ On s → after S (transaction description_tree t) ≡ over S cs → Does S t cs
does_by S t s cs goes leaves =
    let done : end description_tree t S ≡ End.Done = ap flow_end goes in
    record { end = done; left = ap (λ e. cond (is_done e) (after S (transaction description_tree t)) S) done ∙ leaves }

-- ---- one that counts

decimal_content : (n : ℕ) → n < 2 ^ 63 → IsContent (decimal n)
decimal_content n small = record {
  short = let few = length-decimal-le 20 n (omega arith) (omega (arith, small)) (omega (arith, small)) in omega (arith, few);
  bytes = λ i d h. let r = digit_at (decimal n) i (decimal_is_IsNumeral n (omega (arith, small))).0.1 h in let same = get_or_default_zero (decimal n) i d h in omega (arith, r.0, r.1, same);
}

module _ (S : Store) (p n : ℕ) (inside : p < 16) (small : n + 1 < 2 ^ 63) where
  abbrev counted : List Change
  counted = set_to (count_path p) (File (decimal (n + 1)) false) ∷ []

  abbrev T : Store
  T = over S (on_count p (decimal n))

  abbrev last : Block
  last = Block.then (CommandTree.act (ActTree.store one_more)) Block.none

  ways : Counts T p (decimal n) last
  ways = counts S (decimal n) last p inside

  abbrev Lands : ℕ → Type 0
  Lands p = (new : List ℕ) → answer (over S (on_count p (decimal n))) (resolve (count_path p) true >>= store_landed false (count_path p) (File new false)) ≡ Ok (set_to (count_path p) (File new false) ∷ [])

  lands : (p : ℕ) → p < 16 → Lands p
  unfolding resolve
  lands = each_of_16 Lands (λ new. refl) (λ new. refl) (λ new. refl) (λ new. refl) (λ new. refl) (λ new. refl) (λ new. refl) (λ new. refl) (λ new. refl) (λ new. refl) (λ new. refl) (λ new. refl) (λ new. refl) (λ new. refl) (λ new. refl) (λ new. refl)

  stores : answer T (store_at (Tree.str (decimal (n + 1))) (placed (count_path p) (of_project p) SpecTree.file)) ≡ Ok counted
  stores =
      ap (λ a. answer T (unrefused (λ node. resolve (count_path p) (follows_last node) >>= store_landed false (count_path p) node) a)) (file_stored (decimal (n + 1)) (decimal_content (n + 1) small))
      ∙ lands p inside (decimal (n + 1))

  counts_there : Does T (count_tree p) counted
  unfolding transaction
  counts_there = does_by T (count_tree p) (counting p (decimal n)) counted
      (ways.result ∙ stored_result T 8 one_more (counting p (decimal n)) (Tree.str (decimal (n + 1))) (placed (count_path p) (of_project p) SpecTree.file) counted ways.place (count_more n small) stores)
      (ways.after ∙ stored_after T 8 one_more (counting p (decimal n)) (Tree.str (decimal (n + 1))) (placed (count_path p) (of_project p) SpecTree.file) counted ways.place (count_more n small) stores)

-- what a project needs for its counts
pub record HasCount (S : Store) (p n : ℕ) : Type 0 where
  pub config : S (codes "config" ∷ []) ≡ Some (File config false)
  pub dir : S (project p ∷ []) ≡ Some (Dir part_names)
  pub count : S (count_path p) ≡ Some (File (decimal n) false)

same_count : (S : Store) (p n : ℕ) → HasCount S p n → over S (on_count p (decimal n)) ≡ S
same_count S p n h =
    ap (λ U. over U (set_to (project p ∷ []) (Dir part_names) ∷ set_to (count_path p) (File (decimal n) false) ∷ [])) (set_same S (codes "config" ∷ []) (File config false) h.config)
    ∙ ap (λ U. update U (set_to (count_path p) (File (decimal n) false))) (set_same S (project p ∷ []) (Dir part_names) h.dir)
    ∙ set_same S (count_path p) (File (decimal n) false) h.count

pub count_does : (S : Store) (p n : ℕ) → p < 16 → n + 1 < 2 ^ 63 → HasCount S p n → Does S (count_tree p) (set_to (count_path p) (File (decimal (n + 1)) false) ∷ [])
count_does S p n inside small h = subst (λ (U : Store). Does U (count_tree p) (set_to (count_path p) (File (decimal (n + 1)) false) ∷ [])) (same_count S p n h) (counts_there S p n inside small)

-- ---- one that logs

abbrev with_tag : List ℕ → ExprTree
with_tag t = ExprTree.bin BinOp.Union (ExprTree.var (codes "l")) (ExprTree.un UnOp.One (ExprTree.str t))

module _ (S : Store) (p k j : ℕ) (bytes : List ℕ) (old : List (List ℕ)) (inside : p < 16) (set : IsNameSet old) (name : IsName (tag k j)) (fresh : has old (tag k j) ≡ false) (light : weight (set_of (old ++ tag k j ∷ [])) ≤ UNION_LIMIT) where
  abbrev new : List (List ℕ)
  new = with_text (tag k j) old

  abbrev logged : List Change
  logged = set_to (log_path p) (Dir new) ∷ set_to (log_path p /ₚ tag k j) (File [] false) ∷ []

  abbrev L : Store
  L = over S (on_log p bytes old)

  abbrev tail : Block
  tail = Block.then (CommandTree.act (ActTree.store (with_tag (tag k j)))) Block.none

  log_ways : Logs L p bytes old tail
  log_ways = logs S bytes old tail p inside

  abbrev LogLands : ℕ → Type 0
  LogLands p = (new : List (List ℕ)) → answer (over S (on_log p bytes old)) (resolve (log_path p) true >>= store_landed false (log_path p) (Dir new)) ≡ answer (over S (on_log p bytes old)) (new_names (log_path p) old new)

  log_lands : (p : ℕ) → p < 16 → LogLands p
  unfolding resolve
  log_lands = each_of_16 LogLands (λ new. refl) (λ new. refl) (λ new. refl) (λ new. refl) (λ new. refl) (λ new. refl) (λ new. refl) (λ new. refl) (λ new. refl) (λ new. refl) (λ new. refl) (λ new. refl) (λ new. refl) (λ new. refl) (λ new. refl) (λ new. refl)

  log_stores : answer L (store_at (Tree.names new) (placed (log_path p) (of_project p ++ (codes "n", Tree.str bytes) ∷ []) SpecTree.dir)) ≡ Ok logged
  log_stores =
      ap (λ a. answer L (unrefused (λ node. resolve (log_path p) (follows_last node) >>= store_landed false (log_path p) node) a)) (dir_stored new (IsNameSet-with (tag k j) old set name))
      ∙ log_lands p inside new
      ∙ adds L (log_path p) old (tag k j) set fresh

  evaluates : eval_of ((codes "l", Tree.names old) ∷ []) (with_tag (tag k j)) ≡ Ok (Tree.names new)
  evaluates = united_with L (log_path p) old (tag k j) set fresh light

  logs_there : Does L (log_tree p k j) logged
  unfolding transaction
  logs_there = does_by L (log_tree p k j) (logging p old) logged
      (log_ways.result ∙ stored_result L 10 (with_tag (tag k j)) (logging p old) (Tree.names new) (placed (log_path p) (of_project p ++ (codes "n", Tree.str bytes) ∷ []) SpecTree.dir) logged log_ways.place evaluates log_stores)
      (log_ways.after ∙ stored_after L 10 (with_tag (tag k j)) (logging p old) (Tree.names new) (placed (log_path p) (of_project p ++ (codes "n", Tree.str bytes) ∷ []) SpecTree.dir) logged log_ways.place evaluates log_stores)

same_log : (S : Store) (p n : ℕ) (old : List (List ℕ)) → HasCount S p n → S (log_path p) ≡ Some (Dir old) → over S (on_log p (decimal n) old) ≡ S
same_log S p n old h there = ap (λ U. update U (set_to (log_path p) (Dir old))) (same_count S p n h) ∙ set_same S (log_path p) (Dir old) there

pub log_does : (S : Store) (p n k j : ℕ) (old : List (List ℕ)) → p < 16 → IsNameSet old → IsName (tag k j) → has old (tag k j) ≡ false → weight (set_of (old ++ tag k j ∷ [])) ≤ UNION_LIMIT → HasCount S p n → S (log_path p) ≡ Some (Dir old)
    → Does S (log_tree p k j) (set_to (log_path p) (Dir (with_text (tag k j) old)) ∷ set_to (log_path p /ₚ tag k j) (File [] false) ∷ [])
log_does S p n k j old inside set name fresh light h there =
    subst (λ (U : Store). Does U (log_tree p k j) (set_to (log_path p) (Dir (with_text (tag k j) old)) ∷ set_to (log_path p /ₚ tag k j) (File [] false) ∷ [])) (same_log S p n old h there) (logs_there S p k j (decimal n) old inside set name fresh light)
