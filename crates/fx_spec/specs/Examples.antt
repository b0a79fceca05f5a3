-- Worked transactions on small filestores.
use Rattle.std.specs.Prelude.{◌≡◌, ℕ, pos, true, false, List, [], ◌∷◌, replicate, codes}
use Rattle.fx_store.specs.declared.node.Node.TheVariants.{File, Dir}
use Rattle.fx_store.specs.declared.changes.Change.{Change}
use Rattle.fx_store.specs.Examples.{store_of}
use Rattle.fx_store.specs.Whole.{Store}
use Rattle.fx_expr.specs.declared.expr.BinOp.{BinOp}
use Rattle.fx_expr.specs.declared.expr.UnOp.{UnOp}
use Rattle.fx_expr.specs.ExprTree.{ExprTree}
use Rattle.fx_expr.specs.ShapeTree.{ShapeTree}
use Rattle.fx_expr.specs.Tree.{Tree}
use Rattle.fx_spec.specs.declared.refusal.Refusal.{Refusal}
use Rattle.fx_spec.specs.declared.refusal.End.{End}
use Rattle.fx_spec.specs.SpecTree.{SpecTree}
use Rattle.fx_spec.specs.Written.{WrittenTree, DefTree, text_tree}
use Rattle.fx_spec.specs.CommandTree.{ActTree, CommandTree, block}
use Rattle.fx_spec.specs.Edit.{set_to, removed}
use Rattle.fx_spec.specs.Transaction.{outputs, end, way, kept}

-- what a transaction does at a filestore
pub record Does (root : SpecTree) (S : Store) (commands : List CommandTree) (printed : List Tree) (ends : End) (paths : List (List (List ℕ))) (changes : List Change) : Type 0 where
  pub outputs : outputs root commands S ≡ printed
  pub end : end root commands S ≡ ends
  pub way : way root commands S ≡ paths
  pub kept : kept root commands S ≡ changes

abbrev pub text : List ℕ → ExprTree
text bytes = ExprTree.str bytes

abbrev pub go : ActTree → CommandTree
go a = CommandTree.act a

abbrev pub a_file : SpecTree
a_file = SpecTree.focus (text (codes "a")) SpecTree.file

abbrev pub with_a : List ℕ → Store
with_a bytes = store_of (([], Dir (codes "a" ∷ [])) ∷ (codes "a" ∷ [], File bytes false) ∷ [])

abbrev pub fetch_and_print : List CommandTree
fetch_and_print = go ActTree.down ∷ CommandTree.fetch (codes "x") ShapeTree.str ∷ CommandTree.print (ExprTree.var (codes "x")) ∷ []

-- a file is fetched and printed; the path of the file alone is consulted
abbrev pub FetchesFile : Type 0
FetchesFile = Does a_file (with_a (codes "hi")) fetch_and_print (Tree.str (codes "hi") ∷ []) End.Done ((codes "a" ∷ []) ∷ []) []

-- no change is kept of a transaction that stops
abbrev pub StopsAfterStore : Type 0
StopsAfterStore =
    Does a_file (with_a (codes "1")) (go ActTree.down ∷ go (ActTree.store (text (codes "2"))) ∷ CommandTree.print (text (codes "x")) ∷ go ActTree.up ∷ go ActTree.up ∷ [])
    (Tree.str (codes "x") ∷ []) (End.Stopped 4 Refusal.NoStep) ((codes "a" ∷ []) ∷ []) []

-- the root is no file
abbrev pub StoreAtRoot : Type 0
StoreAtRoot =
    Does SpecTree.file (with_a (codes "1")) (go (ActTree.store (text (codes "x"))) ∷ []) [] (End.Stopped 0 (Refusal.Blocked [])) ([] ∷ []) []

-- a directory's store drops an entry with all below it, and makes an empty file
abbrev pub StoresNames : Type 0
StoresNames =
    Does SpecTree.dir (store_of (([], Dir (codes "d" ∷ codes "g" ∷ [])) ∷ (codes "d" ∷ [], Dir (codes "e" ∷ [])) ∷ (codes "d" ∷ codes "e" ∷ [], File (codes "1") false) ∷ (codes "g" ∷ [], File (codes "2") false) ∷ []))
    (go (ActTree.store (ExprTree.bin BinOp.Union (ExprTree.un UnOp.One (text (codes "g"))) (ExprTree.un UnOp.One (text (codes "h"))))) ∷ []) [] End.Done
    ([] ∷ (codes "d" ∷ []) ∷ (codes "d" ∷ codes "e" ∷ []) ∷ (codes "h" ∷ []) ∷ [])
    (set_to [] (Dir (codes "g" ∷ codes "h" ∷ [])) ∷ removed (codes "d" ∷ []) ∷ removed (codes "d" ∷ codes "e" ∷ []) ∷ set_to (codes "h" ∷ []) (File [] false) ∷ [])

-- the file that is made at a missing entry
abbrev pub CreatesEntry : Type 0
CreatesEntry =
    Does (SpecTree.focus (text (codes "m")) (SpecTree.opt SpecTree.file)) (store_of (([], Dir []) ∷ [])) (go ActTree.down ∷ go ActTree.create ∷ []) [] End.Done
    ((codes "m" ∷ []) ∷ [] ∷ []) (set_to [] (Dir (codes "m" ∷ [])) ∷ set_to (codes "m" ∷ []) (File [] false) ∷ [])

-- every element of a directory's set, fetched and joined
abbrev pub JoinsFiles : Type 0
JoinsFiles =
    Does
    (SpecTree.pair (codes "d") SpecTree.dir (SpecTree.comp (SpecTree.focus (ExprTree.var (codes "n")) SpecTree.file) (codes "n") (ExprTree.var (codes "d"))))
    (store_of (([], Dir (codes "a" ∷ codes "b" ∷ [])) ∷ (codes "a" ∷ [], File (codes "A") false) ∷ (codes "b" ∷ [], File (codes "B") false) ∷ []))
    (go ActTree.into ∷ go ActTree.next ∷ CommandTree.fetch (codes "s") ShapeTree.names ∷ CommandTree.bind (codes "t") (text []) ∷
    CommandTree.each (codes "n") (ExprTree.var (codes "s")) (block (
    go (ActTree.to (ExprTree.var (codes "n"))) ∷ go ActTree.down ∷ CommandTree.fetch (codes "v") ShapeTree.str ∷
    CommandTree.assign (codes "t") (ExprTree.bin BinOp.Join (ExprTree.var (codes "t")) (ExprTree.var (codes "v"))) ∷ go ActTree.up ∷ go ActTree.out ∷ [])) ∷
    CommandTree.print (ExprTree.var (codes "t")) ∷ [])
    (Tree.str (codes "AB") ∷ []) End.Done ([] ∷ (codes "a" ∷ []) ∷ (codes "b" ∷ []) ∷ []) []

-- a directory and its entries whose names begin with d, each of them by the same definition again
abbrev pub tree_of_folders : DefTree
tree_of_folders = record {
  name = codes "tree";
  params = (codes "n", ShapeTree.int) ∷ [];
  body =
      WrittenTree.pair (codes "d") WrittenTree.dir
      (WrittenTree.comp
      (WrittenTree.focus (ExprTree.var (codes "k")) (WrittenTree.call (codes "tree") (ExprTree.bin BinOp.Plus (ExprTree.var (codes "n")) (ExprTree.int (pos 1)) ∷ [])))
      (codes "k") (ExprTree.only (ExprTree.var (codes "d")) (codes "d*")));
}

abbrev pub folders : SpecTree
folders = text_tree (record { defs = tree_of_folders ∷ []; root = WrittenTree.call (codes "tree") (ExprTree.int (pos 0) ∷ []) })

abbrev pub two_folders : Store
two_folders = store_of (
    ([], Dir (codes "d1" ∷ codes "y" ∷ [])) ∷ (codes "d1" ∷ [], Dir (codes "d2" ∷ [])) ∷ (codes "d1" ∷ codes "d2" ∷ [], Dir (codes "x" ∷ [])) ∷
    (codes "d1" ∷ codes "d2" ∷ codes "x" ∷ [], File (codes "1") false) ∷ (codes "y" ∷ [], File (codes "2") false) ∷ [])

-- the value of a call is a truth value, whatever its body has
abbrev pub ValuesCall : Type 0
ValuesCall =
    Does folders two_folders (CommandTree.whole (codes "v") ShapeTree.bool ∷ CommandTree.print (ExprTree.var (codes "v")) ∷ []) (Tree.bool true ∷ []) End.Done
    ([] ∷ (codes "d1" ∷ []) ∷ (codes "d1" ∷ codes "d2" ∷ []) ∷ []) []

-- what is inside is reached step by step, through one body into the next
abbrev pub EntersBodies : Type 0
EntersBodies =
    Does folders two_folders
    (go ActTree.into ∷ go ActTree.into ∷ go ActTree.next ∷ go ActTree.into ∷ go ActTree.down ∷ go ActTree.into ∷ go ActTree.into ∷
    CommandTree.fetch (codes "s") ShapeTree.names ∷ CommandTree.print (ExprTree.var (codes "s")) ∷ [])
    (Tree.names (codes "d2" ∷ []) ∷ []) End.Done ([] ∷ (codes "d1" ∷ []) ∷ []) []

-- a definition that calls itself with nothing between has no value, and 64 calls inside one another are the last
abbrev pub itself : SpecTree
itself = text_tree (record { defs = record { name = codes "f"; params = []; body = WrittenTree.call (codes "f") [] } ∷ []; root = WrittenTree.call (codes "f") [] })

abbrev pub StopsUnfolded : Type 0
StopsUnfolded = Does itself (store_of (([], Dir []) ∷ [])) (replicate 65 (go ActTree.into)) [] (End.Stopped 64 Refusal.TooUnfolded) [] []

abbrev pub NoEndNoValue : Type 0
NoEndNoValue = Does itself (store_of (([], Dir []) ∷ [])) (CommandTree.validate (codes "v") ∷ CommandTree.print (ExprTree.var (codes "v")) ∷ []) (Tree.bool false ∷ []) End.Done [] []
