-- The way of a generated transaction to the place where it stores, computed for each project.
use Rattle.std.proofs.Common.{◌≡◌, ℕ, ◌<◌, false, refl, List, [], ◌∷◌, ◌++◌, Some, codes}
use Rattle.std.specs.Str.{is_utf8, chars}
use lib.Utf8.{encode}
use Rattle.fx_store.specs.declared.node.Node.TheVariants.{File, Dir}
use Rattle.fx_store.specs.declared.changes.Change.{Change}
use Rattle.fx_store.specs.Names.{is_name}
use Rattle.fx_store.specs.Resolve.{resolve}
use Rattle.fx_store.specs.Rule.{answer}
use Rattle.fx_store.specs.Whole.{Store, over}
use Rattle.fx_expr.specs.ExprTree.{ExprTree}
use Rattle.fx_expr.specs.ShapeTree.{ShapeTree}
use Rattle.fx_expr.specs.Tree.{Tree}
use Rattle.fx_spec.specs.SpecTree.{SpecTree}
use Rattle.fx_spec.specs.CommandTree.{ActTree, CommandTree, Block}
use Rattle.fx_spec.specs.Describe.{Bindings, value}
use Rattle.fx_spec.specs.Edit.{set_to}
use Rattle.fx_spec.specs.Place.{Address, First, Second, Down, Elem, place, placed}
use Rattle.fx_spec.specs.Task.{result, after}
use Rattle.fx_spec.specs.Transaction.{Standing, run_block}
use Rattle.fx_gen.specs.Notes.{project, part_names, config}
use Rattle.fx_gen.specs.Trees.{description_tree, act}
use Rattle.fx_laws_above.proofs.Sixteen.{each_of_16}

abbrev pub count_path : ℕ → List (List ℕ)
count_path p = project p ∷ codes "count" ∷ []

abbrev pub log_path : ℕ → List (List ℕ)
log_path p = project p ∷ codes "log" ∷ []

-- what the ways of a project consult
abbrev pub on_count : ℕ → List ℕ → List Change
on_count p bytes = set_to (codes "config" ∷ []) (File config false) ∷ set_to (project p ∷ []) (Dir part_names) ∷ set_to (count_path p) (File bytes false) ∷ []

abbrev pub on_log : ℕ → List ℕ → List (List ℕ) → List Change
on_log p bytes names = on_count p bytes ++ set_to (log_path p) (Dir names) ∷ []

-- the moves and the fetch, and the commands behind them
abbrev pub to_project : ℕ → Block → Block
to_project p rest =
    Block.then (act ActTree.into) (Block.then (act ActTree.next) (Block.then (act ActTree.into) (Block.then (act (ActTree.to (ExprTree.str (project p)))) (Block.then (act ActTree.down) rest))))

abbrev pub to_count : ℕ → Block → Block
to_count p rest = to_project p (Block.then (act ActTree.into) (Block.then (act ActTree.down) (Block.then (CommandTree.fetch (codes "n") ShapeTree.str) rest)))

abbrev pub to_log : ℕ → Block → Block
to_log p rest =
    to_project p (Block.then (act ActTree.into) (Block.then (act ActTree.next) (Block.then (act ActTree.into) (Block.then (act ActTree.down) (Block.then (CommandTree.fetch (codes "l") ShapeTree.names) rest)))))

abbrev pub start : Standing
start = record { vars = []; address = []; outputs = [] }

abbrev pub at_project : ℕ → Address
at_project p = Down ∷ Elem (project p) ∷ First ∷ Second ∷ []

abbrev pub at_count : ℕ → Address
at_count p = Down ∷ First ∷ at_project p

abbrev pub at_log : ℕ → Address
at_log p = Down ∷ First ∷ Second ∷ at_project p

abbrev pub counting : ℕ → List ℕ → Standing
counting p bytes = record { vars = (codes "n", Tree.str bytes) ∷ []; address = at_count p; outputs = [] }

abbrev pub logging : ℕ → List (List ℕ) → Standing
logging p names = record { vars = (codes "l", Tree.names names) ∷ []; address = at_log p; outputs = [] }

abbrev pub of_project : ℕ → Bindings
of_project p = (codes "c", Tree.str config) ∷ (codes "p", Tree.str (project p)) ∷ []

-- what is found at the end of the way
pub record Counts (S : Store) (p : ℕ) (bytes : List ℕ) (rest : Block) : Type 0 where
  pub result : result S (run_block description_tree 0 (to_count p rest) start) ≡ result S (run_block description_tree 8 rest (counting p bytes))
  pub after : after S (run_block description_tree 0 (to_count p rest) start) ≡ after S (run_block description_tree 8 rest (counting p bytes))
  pub place : answer S (place description_tree (at_count p)) ≡ Some (placed (count_path p) (of_project p) SpecTree.file)

pub record Logs (S : Store) (p : ℕ) (bytes : List ℕ) (names : List (List ℕ)) (rest : Block) : Type 0 where
  pub result : result S (run_block description_tree 0 (to_log p rest) start) ≡ result S (run_block description_tree 10 rest (logging p names))
  pub after : after S (run_block description_tree 0 (to_log p rest) start) ≡ after S (run_block description_tree 10 rest (logging p names))
  pub place : answer S (place description_tree (at_log p)) ≡ Some (placed (log_path p) (of_project p ++ (codes "n", Tree.str bytes) ∷ []) SpecTree.dir)

module _ (S : Store) (bytes : List ℕ) (rest : Block) where
  abbrev Counted : ℕ → Type 0
  Counted p = Counts (over S (on_count p bytes)) p bytes rest

  pub counts : (p : ℕ) → p < 16 → Counted p
  unfolding is_utf8 chars encode is_name resolve value place
  counts = each_of_16 Counted (record { result = refl; after = refl; place = refl }) (record { result = refl; after = refl; place = refl }) (record { result = refl; after = refl; place = refl }) (record { result = refl; after = refl; place = refl }) (record { result = refl; after = refl; place = refl }) (record { result = refl; after = refl; place = refl }) (record { result = refl; after = refl; place = refl }) (record { result = refl; after = refl; place = refl }) (record { result = refl; after = refl; place = refl }) (record { result = refl; after = refl; place = refl }) (record { result = refl; after = refl; place = refl }) (record { result = refl; after = refl; place = refl }) (record { result = refl; after = refl; place = refl }) (record { result = refl; after = refl; place = refl }) (record { result = refl; after = refl; place = refl }) (record { result = refl; after = refl; place = refl })

module _ (S : Store) (bytes : List ℕ) (names : List (List ℕ)) (rest : Block) where
  abbrev Logged : ℕ → Type 0
  Logged p = Logs (over S (on_log p bytes names)) p bytes names rest

  pub logs : (p : ℕ) → p < 16 → Logged p
  unfolding is_utf8 chars encode is_name resolve value place
  logs = each_of_16 Logged (record { result = refl; after = refl; place = refl }) (record { result = refl; after = refl; place = refl }) (record { result = refl; after = refl; place = refl }) (record { result = refl; after = refl; place = refl }) (record { result = refl; after = refl; place = refl }) (record { result = refl; after = refl; place = refl }) (record { result = refl; after = refl; place = refl }) (record { result = refl; after = refl; place = refl }) (record { result = refl; after = refl; place = refl }) (record { result = refl; after = refl; place = refl }) (record { result = refl; after = refl; place = refl }) (record { result = refl; after = refl; place = refl }) (record { result = refl; after = refl; place = refl }) (record { result = refl; after = refl; place = refl }) (record { result = refl; after = refl; place = refl }) (record { result = refl; after = refl; place = refl })
