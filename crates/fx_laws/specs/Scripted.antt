-- Worked transactions of one shell.
use Rattle.std.specs.Prelude.{false, List, [], ◌∷◌, codes, pos}
use Rattle.fx_store.specs.declared.node.Node.TheVariants.{File, Dir, Link}
use Rattle.fx_store.specs.Examples.{store_of}
use Rattle.fx_expr.specs.declared.expr.BinOp.{BinOp}
use Rattle.fx_expr.specs.declared.expr.UnOp.{UnOp}
use Rattle.fx_expr.specs.declared.fault.ExprFault.TheVariants.{Overflow, NotNumber}
use Rattle.fx_expr.specs.ExprTree.{ExprTree}
use Rattle.fx_spec.specs.declared.refusal.Refusal.{Refusal}
use Rattle.fx_spec.specs.declared.refusal.End.{End}
use Rattle.fx_spec.specs.SpecTree.{SpecTree}
use Rattle.fx_spec.specs.CommandTree.{ActTree, CommandTree, block}
use Rattle.fx_spec.specs.Edit.{set_to, removed}
use Rattle.fx_spec.specs.Examples.{Does, text, a_file, with_a}
use Rattle.fx_laws.specs.Left.{Entries, Commits}
use Rattle.fx_laws.specs.Shorthands.{var, join, union, set_of_one, into, to, next, out, down, up, store, remove, fetch_text, fetch_names, show, try_and_show, texts, numbers}
use Rattle.fx_laws.specs.Retried.{all_files, text_files, nothing_there}

-- two files
abbrev pub a_and_b : Entries
a_and_b = ([], Dir (codes "a" ∷ codes "b" ∷ [])) ∷ (codes "a" ∷ [], File (codes "1") false) ∷ (codes "b" ∷ [], File (codes "2") false) ∷ []

-- the second one of them
abbrev pub b_alone : Entries
b_alone = ([], Dir (codes "b" ∷ [])) ∷ (codes "b" ∷ [], File (codes "2") false) ∷ []

-- an address whose element has gone leads to no place: no move that needs the place goes on, and the others go back
abbrev pub LeavesNoPlace : Type 0
LeavesNoPlace =
    Commits all_files a_and_b
    (into ∷ next ∷ into ∷ down ∷ remove ∷
    try_and_show (codes "e") ActTree.down (try_and_show (codes "f") ActTree.up (try_and_show (codes "g") ActTree.next (try_and_show (codes "h") ActTree.out (try_and_show (codes "i") ActTree.top [])))))
    (numbers (3 ∷ 0 ∷ 3 ∷ 0 ∷ 0 ∷ [])) ([] ∷ (codes "a" ∷ []) ∷ []) (set_to [] (Dir (codes "b" ∷ [])) ∷ removed (codes "a" ∷ []) ∷ []) b_alone

-- a file in a directory in a directory, and the file `g`
abbrev pub nested_and_g : Entries
nested_and_g =
    ([], Dir (codes "d" ∷ codes "g" ∷ [])) ∷ (codes "d" ∷ [], Dir (codes "e" ∷ [])) ∷ (codes "d" ∷ codes "e" ∷ [], Dir (codes "f" ∷ [])) ∷ (codes "d" ∷ codes "e" ∷ codes "f" ∷ [], File (codes "1") false) ∷
    (codes "g" ∷ [], File (codes "2") false) ∷ []

-- the file `g` as it was, and an empty file `h`
abbrev pub g_and_h : Entries
g_and_h = ([], Dir (codes "g" ∷ codes "h" ∷ [])) ∷ (codes "g" ∷ [], File (codes "2") false) ∷ (codes "h" ∷ [], File [] false) ∷ []

-- a dropped name goes with all below it, a new one is an empty file, and one that stays is not touched
abbrev pub DropsSubtree : Type 0
DropsSubtree =
    Commits SpecTree.dir nested_and_g (store (union (set_of_one (codes "g")) (set_of_one (codes "h"))) ∷ []) []
    ([] ∷ (codes "d" ∷ []) ∷ (codes "d" ∷ codes "e" ∷ []) ∷ (codes "d" ∷ codes "e" ∷ codes "f" ∷ []) ∷ (codes "h" ∷ []) ∷ [])
    (set_to [] (Dir (codes "g" ∷ codes "h" ∷ [])) ∷ removed (codes "d" ∷ []) ∷ removed (codes "d" ∷ codes "e" ∷ []) ∷ removed (codes "d" ∷ codes "e" ∷ codes "f" ∷ []) ∷ set_to (codes "h" ∷ []) (File [] false) ∷ [])
    g_and_h

-- the chosen files of a directory, one after another in a loop
abbrev pub JoinsChosenFiles : Type 0
JoinsChosenFiles =
    Does text_files
    (store_of (([], Dir (codes "a.txt" ∷ codes "b.txt" ∷ codes "c" ∷ [])) ∷ (codes "a.txt" ∷ [], File (codes "A") false) ∷ (codes "b.txt" ∷ [], File (codes "B") false) ∷ (codes "c" ∷ [], File (codes "C") false) ∷ []))
    (into ∷ next ∷ fetch_names (codes "s") ∷ CommandTree.bind (codes "t") (text []) ∷
    CommandTree.each (codes "n") (var (codes "s")) (block (
    to (var (codes "n")) ∷ down ∷ fetch_text (codes "v") ∷ CommandTree.assign (codes "t") (join (var (codes "t")) (var (codes "v"))) ∷ up ∷ out ∷ [])) ∷
    show (codes "t") ∷ [])
    (texts (codes "AB" ∷ [])) End.Done ([] ∷ (codes "a.txt" ∷ []) ∷ (codes "b.txt" ∷ []) ∷ []) []

-- a file's number, and one more
abbrev pub add_one : List CommandTree
add_one =
    down ∷ fetch_text (codes "v") ∷ CommandTree.bind (codes "n") (ExprTree.un UnOp.Int (var (codes "v"))) ∷
    CommandTree.bind (codes "m") (ExprTree.bin BinOp.Plus (var (codes "n")) (ExprTree.int (pos 1))) ∷ []

-- the greatest number of 64 bits has none above it; a text that spells no number is none
pub record NumbersFault : Type 0 where
  pub greatest : Does a_file (with_a (codes "9223372036854775807\n")) add_one [] (End.Stopped 3 (Refusal.Expr Overflow)) ((codes "a" ∷ []) ∷ []) []
  pub no_number : Does a_file (with_a (codes "x")) add_one [] (End.Stopped 2 (Refusal.Expr NotNumber)) ((codes "a" ∷ []) ∷ []) []

-- at the root directory: a reserved name, a text for a set, something that stands already, and the root itself in the way
abbrev pub RefusedAtRoot : Type 0
RefusedAtRoot =
    Does SpecTree.dir (store_of nothing_there)
    (try_and_show (codes "e") (ActTree.store (set_of_one (codes ".forest-links"))) (try_and_show (codes "f") (ActTree.store (text (codes "x"))) (try_and_show (codes "g") ActTree.create (try_and_show (codes "h") ActTree.remove []))))
    (numbers (8 ∷ 5 ∷ 12 ∷ 6 ∷ [])) End.Done [] []

-- a directory that is reached through a link in it, which leads to the directory
abbrev pub own_link : Entries
own_link = ([], Dir (codes "d" ∷ [])) ∷ (codes "d" ∷ [], Dir (codes "l" ∷ [])) ∷ (codes "d" ∷ codes "l" ∷ [], Link (codes "/d")) ∷ []

-- a link to the directory that it stands in
abbrev pub link_to_here : Entries
link_to_here = ([], Dir (codes "l" ∷ [])) ∷ (codes "l" ∷ [], Link (codes ".")) ∷ []

-- a store that is not refused takes its own way away: it drops the link that leads to the directory, or turns the link that
-- leads to itself; so nothing is fetched
pub record TakesItsWayAway : Type 0 where
  pub directory : Does (SpecTree.focus (text (codes "d/l")) SpecTree.dir) (store_of own_link) (down ∷ store (set_of_one (codes "x")) ∷ fetch_names (codes "v") ∷ []) [] (End.Stopped 2 Refusal.Lacks)
      ((codes "d" ∷ []) ∷ (codes "d" ∷ codes "l" ∷ []) ∷ (codes "d" ∷ codes "x" ∷ []) ∷ []) []
  pub link : Does (SpecTree.focus (text (codes "l/l")) SpecTree.link) (store_of link_to_here) (down ∷ store (text (codes "nowhere")) ∷ fetch_text (codes "v") ∷ []) [] (End.Stopped 2 Refusal.Lacks)
      ((codes "l" ∷ []) ∷ (codes "nowhere" ∷ []) ∷ []) []
