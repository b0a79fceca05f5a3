-- What the generated texts stand for.
use Rattle.std.specs.Prelude.{◌≡◌, ℕ, ◌+◌, ◌*◌, ◌<◌, ◌^◌, ◌==◌, if◌then◌else◌, pos, List, [], ◌∷◌, map, length, codes}
use Rattle.std.specs.List.{range_with_len}
use Rattle.fx_expr.specs.declared.expr.BinOp.{BinOp}
use Rattle.fx_expr.specs.declared.expr.UnOp.{UnOp}
use Rattle.fx_expr.specs.ExprTree.{ExprTree}
use Rattle.fx_expr.specs.ShapeTree.{ShapeTree}
use Rattle.fx_spec.specs.SpecTree.{SpecTree}
use Rattle.fx_spec.specs.Written.{WrittenTree, TextTree, text_tree}
use Rattle.fx_spec.specs.CommandTree.{ActTree, CommandTree}
use Rattle.fx_spec.specs.WellShaped as shaped
use Rattle.fx_grammar.specs.Texts.{IsDescription, IsScript}
use Rattle.fx_gen.specs.Notes.{project}
use Rattle.fx_gen.specs.Scripts.{description, count_line, log_line, tag, kind_of, project_of, generated_script}

-- ---- the description

abbrev pub entry : List ℕ → WrittenTree → WrittenTree
entry name s = WrittenTree.focus (ExprTree.str name) s

-- a project: its count, its log and its notes
abbrev pub project_tree : WrittenTree
project_tree = WrittenTree.pair (codes "n") (entry (codes "count") WrittenTree.file) (WrittenTree.pair (codes "l") (entry (codes "log") WrittenTree.dir) (entry (codes "notes") WrittenTree.dir))

-- the projects that the list names
abbrev pub projects_tree : WrittenTree
projects_tree = WrittenTree.comp (WrittenTree.focus (ExprTree.var (codes "p")) project_tree) (codes "p") (ExprTree.un UnOp.Lines (ExprTree.var (codes "c")))

-- it has no definitions
abbrev pub description_text : TextTree
description_text = record {
  defs = [];
  root = WrittenTree.pair (codes "c") (entry (codes "config") WrittenTree.file) (WrittenTree.pair (codes "t") projects_tree (entry (codes "current") WrittenTree.link));
}

-- what it means
abbrev pub description_tree : SpecTree
description_tree = text_tree description_text

-- ---- transactions

abbrev pub act : ActTree → CommandTree
act a = CommandTree.act a

-- a transaction goes to a project
abbrev pub going : ℕ → List CommandTree → List CommandTree
going p rest = act ActTree.into ∷ act ActTree.next ∷ act ActTree.into ∷ act (ActTree.to (ExprTree.str (project p))) ∷ act ActTree.down ∷ rest

-- there it adds one to the count
abbrev pub count_tree : ℕ → List CommandTree
count_tree p =
    going p (act ActTree.into ∷ act ActTree.down ∷ CommandTree.fetch (codes "n") ShapeTree.str ∷
    act (ActTree.store (ExprTree.un UnOp.Text (ExprTree.bin BinOp.Plus (ExprTree.un UnOp.Int (ExprTree.var (codes "n"))) (ExprTree.int (pos 1))))) ∷ [])

-- or adds a name to the log
abbrev pub log_tree : ℕ → ℕ → ℕ → List CommandTree
log_tree p k j =
    going p (act ActTree.into ∷ act ActTree.next ∷ act ActTree.into ∷ act ActTree.down ∷ CommandTree.fetch (codes "l") ShapeTree.names ∷
    act (ActTree.store (ExprTree.bin BinOp.Union (ExprTree.var (codes "l")) (ExprTree.un UnOp.One (ExprTree.str (tag k j))))) ∷ [])

abbrev pub txn_tree : ℕ → ℕ → ℕ → ℕ → List CommandTree
txn_tree kind p k j = if kind == 3 then log_tree p k j else count_tree p

-- the transactions of a script
abbrev pub script_tree : ℕ → ℕ → List (List CommandTree)
script_tree number k = map (λ j. txn_tree (kind_of number (200 * k + j)) (project_of number (200 * k + j)) k j) (range_with_len 0 200)

-- ---- the laws

pub record DescriptionStands : Type 0 where
  pub text : IsDescription description description_text
  pub shapes : shaped.IsChecked description_text

-- the text stands for this transaction, which is well shaped
pub record StandsForTxn (text : List ℕ) (commands : List CommandTree) : Type 0 where
  pub stands : IsScript text (commands ∷ [])
  pub shapes : shaped.IsTransaction commands

-- of any project in two digits, any script and any place
pub record LinesStand : Type 0 where
  pub counts : (p : ℕ) → p < 100 → StandsForTxn (count_line p) (count_tree p)
  pub logs : (p k j : ℕ) → p < 100 → k < 2 ^ 32 → j < 2 ^ 32 → StandsForTxn (log_line p k j) (log_tree p k j)

-- the text stands for these 200 transactions, which are well shaped
pub record StandsForScript (text : List ℕ) (txns : List (List CommandTree)) : Type 0 where
  pub stands : IsScript text txns
  pub shapes : shaped.IsScript txns
  pub count : length txns ≡ 200

abbrev pub ScriptsStand : Type 0
ScriptsStand = (number k : ℕ) → k < 8 → StandsForScript (generated_script number k) (script_tree number k)
