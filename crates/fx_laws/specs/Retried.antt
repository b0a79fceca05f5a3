-- Worked transactions of two shells: what each does at the filestore at which it starts, and what it does again at the one
-- that the other has left.
use Rattle.std.specs.Prelude.{ℕ, true, false, List, [], ◌∷◌, codes}
use Rattle.fx_store.specs.declared.node.Node.TheVariants.{File, Dir, Link}
use Rattle.fx_store.specs.Examples.{store_of}
use Rattle.fx_expr.specs.declared.expr.UnOp.{UnOp}
use Rattle.fx_expr.specs.ExprTree.{ExprTree}
use Rattle.fx_expr.specs.ShapeTree.{ShapeTree}
use Rattle.fx_expr.specs.Tree.{Tree}
use Rattle.fx_spec.specs.declared.refusal.Refusal.{Refusal}
use Rattle.fx_spec.specs.declared.refusal.End.{End}
use Rattle.fx_spec.specs.SpecTree.{SpecTree}
use Rattle.fx_spec.specs.CommandTree.{CommandTree}
use Rattle.fx_spec.specs.Edit.{set_to, removed}
use Rattle.fx_spec.specs.Examples.{Does, text}
use Rattle.fx_laws.specs.Left.{Entries, Commits}
use Rattle.fx_laws.specs.Shorthands.{var, join, union, set_of_one, file_at, files_of, into, next, prev, down, up, store, create, remove, fetch_text, fetch_names, show, texts, numbers}

-- ---- two files, of which each shell reads one and writes the other

-- the file `x`, and the file `y`
abbrev pub two_files : SpecTree
two_files = SpecTree.pair (codes "x") (file_at (codes "x")) (file_at (codes "y"))

-- with these bytes
abbrev pub with_files : List ℕ → List ℕ → Entries
with_files x y = ([], Dir (codes "x" ∷ codes "y" ∷ [])) ∷ (codes "x" ∷ [], File x false) ∷ (codes "y" ∷ [], File y false) ∷ []

-- the bytes of the first file with a `0`, stored in the second one
abbrev pub x_to_y : List CommandTree
x_to_y = into ∷ down ∷ fetch_text (codes "a") ∷ up ∷ next ∷ down ∷ store (join (var (codes "a")) (text (codes "0"))) ∷ show (codes "a") ∷ []

-- the same the other way
abbrev pub y_to_x : List CommandTree
y_to_x = into ∷ next ∷ down ∷ fetch_text (codes "b") ∷ up ∷ prev ∷ down ∷ store (join (var (codes "b")) (text (codes "0"))) ∷ show (codes "b") ∷ []

-- each consults both files; the second one's answer differs once the first one has written
pub record EachReadsAndWrites : Type 0 where
  pub first : Commits two_files (with_files (codes "1") (codes "1")) x_to_y (texts (codes "1" ∷ [])) ((codes "x" ∷ []) ∷ (codes "y" ∷ []) ∷ []) (set_to (codes "y" ∷ []) (File (codes "10") false) ∷ []) (with_files (codes "1") (codes "10"))
  pub second : Commits two_files (with_files (codes "1") (codes "1")) y_to_x (texts (codes "1" ∷ [])) ((codes "x" ∷ []) ∷ (codes "y" ∷ []) ∷ []) (set_to (codes "x" ∷ []) (File (codes "10") false) ∷ []) (with_files (codes "10") (codes "1"))
  pub again : Commits two_files (with_files (codes "1") (codes "10")) y_to_x (texts (codes "10" ∷ [])) ((codes "x" ∷ []) ∷ (codes "y" ∷ []) ∷ []) (set_to (codes "x" ∷ []) (File (codes "100") false) ∷ []) (with_files (codes "100") (codes "10"))

-- ---- a directory, whose names are counted and added to

-- a directory, and each of its files with a name in `.txt`
abbrev pub text_files : SpecTree
text_files = SpecTree.pair (codes "d") SpecTree.dir (files_of (ExprTree.only (var (codes "d")) (codes "*.txt")))

-- one such file
abbrev pub one_text : Entries
one_text = ([], Dir (codes "a.txt" ∷ [])) ∷ (codes "a.txt" ∷ [], File (codes "A") false) ∷ []

-- two of them
abbrev pub two_texts : Entries
two_texts = ([], Dir (codes "a.txt" ∷ codes "b.txt" ∷ [])) ∷ (codes "a.txt" ∷ [], File (codes "A") false) ∷ (codes "b.txt" ∷ [], File [] false) ∷ []

-- how many they are
abbrev pub count_texts : List CommandTree
count_texts = into ∷ next ∷ fetch_names (codes "s") ∷ CommandTree.print (ExprTree.un UnOp.Size (var (codes "s"))) ∷ []

-- one more name in the directory
abbrev pub add_text : List CommandTree
add_text = into ∷ fetch_names (codes "d") ∷ store (union (var (codes "d")) (set_of_one (codes "b.txt"))) ∷ []

-- the directory alone is consulted for the count; who adds a name changes the directory and makes an empty file
pub record NamesAreAdded : Type 0 where
  pub counted : Does text_files (store_of one_text) count_texts (numbers (1 ∷ [])) End.Done ([] ∷ []) []
  pub added : Commits text_files one_text add_text [] ([] ∷ (codes "b.txt" ∷ []) ∷ []) (set_to [] (Dir (codes "a.txt" ∷ codes "b.txt" ∷ [])) ∷ set_to (codes "b.txt" ∷ []) (File [] false) ∷ []) two_texts
  pub again : Does text_files (store_of two_texts) count_texts (numbers (2 ∷ [])) End.Done ([] ∷ []) []

-- ---- a link, which is read through and turned to another directory

-- the link `cur`, and the file `f` in the directory that it names
abbrev pub through_link : SpecTree
through_link = SpecTree.pair (codes "l") (SpecTree.focus (text (codes "cur")) SpecTree.link) (SpecTree.focus (text (codes "cur")) (file_at (codes "f")))

-- the directories `p` and `q` with a file each, and the link with this text
abbrev pub with_current : List ℕ → Entries
with_current current =
    ([], Dir (codes "cur" ∷ codes "p" ∷ codes "q" ∷ [])) ∷ (codes "cur" ∷ [], Link current) ∷ (codes "p" ∷ [], Dir (codes "f" ∷ [])) ∷ (codes "p" ∷ codes "f" ∷ [], File (codes "P") false) ∷
    (codes "q" ∷ [], Dir (codes "f" ∷ [])) ∷ (codes "q" ∷ codes "f" ∷ [], File (codes "Q") false) ∷ []

-- the file, read through the link
abbrev pub read_through : List CommandTree
read_through = into ∷ next ∷ down ∷ down ∷ fetch_text (codes "v") ∷ show (codes "v") ∷ []

-- the link names `q` from now on
abbrev pub turn : List CommandTree
turn = into ∷ down ∷ store (text (codes "q")) ∷ []

-- the link, the directory that it names and the file there are consulted
pub record LinkIsTurned : Type 0 where
  pub read : Does through_link (store_of (with_current (codes "p"))) read_through (texts (codes "P" ∷ [])) End.Done ((codes "cur" ∷ []) ∷ (codes "p" ∷ []) ∷ (codes "p" ∷ codes "f" ∷ []) ∷ []) []
  pub turned : Commits through_link (with_current (codes "p")) turn [] ((codes "cur" ∷ []) ∷ []) (set_to (codes "cur" ∷ []) (Link (codes "q")) ∷ []) (with_current (codes "q"))
  pub again : Does through_link (store_of (with_current (codes "q"))) read_through (texts (codes "Q" ∷ [])) End.Done ((codes "cur" ∷ []) ∷ (codes "q" ∷ []) ∷ (codes "q" ∷ codes "f" ∷ []) ∷ []) []

-- ---- an option, whose entry is made

-- the file `m`, if it is there
abbrev pub maybe_file : SpecTree
maybe_file = SpecTree.focus (text (codes "m")) (SpecTree.opt SpecTree.file)

-- an empty directory
abbrev pub nothing_there : Entries
nothing_there = ([], Dir []) ∷ []

-- an empty file `m`
abbrev pub one_entry : Entries
one_entry = ([], Dir (codes "m" ∷ [])) ∷ (codes "m" ∷ [], File [] false) ∷ []

-- whether the file is there
abbrev pub is_there : List CommandTree
is_there = down ∷ CommandTree.fetch (codes "b") ShapeTree.bool ∷ show (codes "b") ∷ []

-- the missing entry is consulted too
pub record EntryIsMade : Type 0 where
  pub missing : Does maybe_file (store_of nothing_there) is_there (Tree.bool false ∷ []) End.Done ((codes "m" ∷ []) ∷ []) []
  pub made : Commits maybe_file nothing_there (down ∷ create ∷ []) [] ((codes "m" ∷ []) ∷ [] ∷ []) (set_to [] (Dir (codes "m" ∷ [])) ∷ set_to (codes "m" ∷ []) (File [] false) ∷ []) one_entry
  pub again : Does maybe_file (store_of one_entry) is_there (Tree.bool true ∷ []) End.Done ((codes "m" ∷ []) ∷ []) []

-- ---- an element, which is read and removed

-- a directory and all its files
abbrev pub all_files : SpecTree
all_files = SpecTree.pair (codes "d") SpecTree.dir (files_of (var (codes "d")))

-- one file
abbrev pub one_file : Entries
one_file = ([], Dir (codes "a" ∷ [])) ∷ (codes "a" ∷ [], File (codes "1") false) ∷ []

-- the directory as it was before the removal, and the file as it is after it
abbrev pub half_removed : Entries
half_removed = ([], Dir (codes "a" ∷ [])) ∷ []

-- the first file
abbrev pub read_first : List CommandTree
read_first = into ∷ next ∷ into ∷ down ∷ fetch_text (codes "v") ∷ show (codes "v") ∷ []

-- a directory that has lost its last name has no element to go to; who saw the directory before finds no file
pub record ElementIsRemoved : Type 0 where
  pub read : Does all_files (store_of one_file) read_first (texts (codes "1" ∷ [])) End.Done ([] ∷ (codes "a" ∷ []) ∷ []) []
  pub removed : Commits all_files one_file (into ∷ next ∷ into ∷ down ∷ remove ∷ []) [] ([] ∷ (codes "a" ∷ []) ∷ []) (set_to [] (Dir []) ∷ removed (codes "a" ∷ []) ∷ []) nothing_there
  pub halfway : Does all_files (store_of half_removed) read_first [] (End.Stopped 4 Refusal.Lacks) ([] ∷ (codes "a" ∷ []) ∷ []) []
  pub again : Does all_files (store_of nothing_there) read_first [] (End.Stopped 2 Refusal.NoElement) ([] ∷ []) []
