-- What the steps of writing the texts of a case leave.
use Rattle.std.specs.Prelude.{◌≡◌, ◌⊎◌, ℕ, List, [], ◌∷◌, ◌++◌, map, take, false, Some, None}
use Rattle.std.specs.FinMap.{find}
use Rattle.fx_store.specs.declared.node.Node.{Node}
use Rattle.fx_store.specs.declared.node.Node.TheVariants.{File, Dir}
use Rattle.fx_store.specs.Names.{path_cmp}
use Rattle.fx_outside.specs.Path.{Parts}
use Rattle.fx_outside.specs.Tree.{Tree}
use Rattle.fx_folder.specs.Places.{host_entry}
use Rattle.fx_folder.specs.Written.{WrotePart, HasEntries}
use Rattle.fx_large_commands.specs.Case.{Case, NamedText, case_texts}

abbrev pub Mapped : Type 0
Mapped = List (List ℕ) × Node

abbrev pub file_of : NamedText → Mapped
file_of named = (named.0 ∷ [], File named.1 false)

-- the folder itself and the texts, each at its path below the folder
abbrev pub text_nodes : Case → List Mapped
text_nodes c = ([], Dir []) ∷ map file_of (case_texts c)

-- the case without its scripts from number i on
abbrev pub scripts_to : ℕ → Case → Case
scripts_to i c = record c { scripts = take i c.scripts }

-- a text that none of those before has the path of is begun: nothing of it is written, or all, or a front of it
pub record IsBegun (before tree' : Tree) (at : Parts) (done left : List Mapped) : Type 0 where
  pub path : List (List ℕ)
  pub node : Node
  pub rest : List Mapped
  pub next : left ≡ (path, node) ∷ rest
  pub fresh : find path_cmp path done ≡ None
  pub part : WrotePart before tree' (at ++ path) (host_entry (Some node))

-- the first of the texts are there, and perhaps the next one, or a front of it
pub record WroteTexts (tree tree' : Tree) (at : Parts) (c : Case) : Type 0 where
  pub done : List Mapped
  pub left : List Mapped
  pub split : text_nodes c ≡ done ++ left
  pub before : Tree
  pub written : HasEntries tree before at done
  pub begun : (tree' ≡ before) ⊎ IsBegun before tree' at done left
