-- A case as a folder: which entries stand for it in a host's tree once it is written, and which after a refusal.
use Rattle.std.specs.Prelude.{◌≡◌, ◌⊎◌, ℕ, ◌+◌, Bool, false, cond, ◌||◌, bytes_eq, List, [], ◌∷◌, ◌++◌, map, codes, IsTrue, Option, Some, None, option_map}
use Rattle.std.specs.FinMap.{get, find}
use Rattle.std.specs.Ordering.{eq_by_cmp}
use Rattle.std.specs.Fmt.{decimal}
use Rattle.fx_store.specs.Whole.{Nodes}
use Rattle.fx_outside.specs.Listing.{name_cmp}
use Rattle.fx_outside.specs.Path.{Parts, parts_cmp}
use Rattle.fx_outside.specs.Tree.{Tree, Entry, file, folder}
use Rattle.fx_folder.specs.Deep.{folder_entry}
use Rattle.fx_folder.specs.Folder.{IsFrontOf, is_written_before}
use Rattle.fx_store.specs.Names.{rest_of}
use Rattle.fx_gen.specs.Notes.{nodes}
use Rattle.fx_gen.specs.Scripts.{description, generated_scripts}
use Rattle.fx_gen.specs.declared.case.Generated.{Generated}

-- the text of a description, those of the scripts, and a filestore
pub record Case : Type 0 where
  pub description : List ℕ
  pub scripts : List (List ℕ)
  pub nodes : Nodes

-- the case of a number
abbrev pub case_of : ℕ → Case
case_of number = record { description = description; scripts = generated_scripts number; nodes = nodes number }

abbrev pub case_in : Generated → Case
case_in g = record { description = g.description; scripts = g.scripts; nodes = g.store.nodes }

-- a text with its name
abbrev pub NamedText : Type 0
NamedText = List ℕ × List ℕ

-- a script is named by its number
abbrev pub script_name : ℕ → List ℕ
script_name k = codes "s" ++ decimal k

abbrev pub scripts_from : ℕ → List (List ℕ) → List NamedText
scripts_from k [] = []
scripts_from k (text ∷ case_texts) = (script_name k, text) ∷ scripts_from (k + 1) case_texts

-- the description is `spec`, and the scripts are `s0`, `s1` and so on
abbrev pub case_texts : Case → List NamedText
case_texts c = (codes "spec", c.description) ∷ scripts_from 0 c.scripts

-- a text is a file, with nothing below
abbrev pub text_entry : List NamedText → List ℕ → Parts → Option Entry
text_entry named name [] = option_map file (find name_cmp name named)
text_entry named name (below ∷ names) = None

-- what stands in the folder of a case: the folder of the filestore as `in`, and the texts
abbrev pub case_entry : Case → Parts → Option Entry
case_entry c [] = Some folder
case_entry c (name ∷ names) = cond (bytes_eq name (codes "in")) (folder_entry c.nodes names) (text_entry (case_texts c) name names)

abbrev pub case_entry_or : Option Entry → Case → Option Parts → Option Entry
case_entry_or outside c None = outside
case_entry_or outside c (Some path) = case_entry c path

-- the new tree has the folder of the case at these parts, and is the old one elsewhere
abbrev pub IsCaseWritten : Tree → Tree → Parts → Case → Type 0
IsCaseWritten tree tree' at c = (q : Parts) → get tree' q ≡ case_entry_or (get tree q) c (rest_of at q)

-- the folder itself and the texts, as they are listed
abbrev pub text_places : Case → List Parts
text_places c = [] ∷ map (λ (named : NamedText). named.0 ∷ []) (case_texts c)

-- one place is listed, and the other later or not at all
abbrev pub is_listed_before : List Parts → Parts → Parts → Bool
is_listed_before [] before path = false
is_listed_before (place ∷ places) before path =
    cond (eq_by_cmp parts_cmp path place) false (eq_by_cmp parts_cmp before place || is_listed_before places before path)

-- both places are in the folder of the filestore, where one is written before the other
abbrev pub is_node_before : Option Parts → Option Parts → Bool
is_node_before (Some before) (Some path) = is_written_before before path
is_node_before _ _ = false

-- the order in which a case is written: the folder itself, the description, the scripts by their numbers, and last the
-- folder of the filestore in its own order
abbrev pub is_before_in_case : Case → Parts → Parts → Bool
is_before_in_case c before path =
    is_listed_before (text_places c) before path || is_node_before (rest_of (codes "in" ∷ []) before) (rest_of (codes "in" ∷ []) path)

-- the new tree has a part of that folder at these parts, and is the old one elsewhere; the file last begun may hold a prefix
-- of its bytes, and what comes in that order before an entry that is there is there whole
pub record IsPartOfCase (tree tree' : Tree) (at : Parts) (c : Case) (last : Parts) : Type 0 where
  pub outside : (q : Parts) → rest_of at q ≡ None → get tree' q ≡ get tree q
  pub inside : (path : Parts) (e : Entry) → get tree' (at ++ path) ≡ Some e
      → (whole : Entry) × (case_entry c path ≡ Some whole) × ((e ≡ whole) ⊎ ((path ≡ last) × IsFrontOf e whole))
  pub ordered : (path before : Parts) (e whole : Entry) → get tree' (at ++ path) ≡ Some e → IsTrue (is_before_in_case c before path) → case_entry c before ≡ Some whole
      → get tree' (at ++ before) ≡ Some whole

abbrev pub IsPartlyWritten : Tree → Tree → Parts → Case → Type 0
IsPartlyWritten tree tree' at c = (tree' ≡ tree) ⊎ ((last : Parts) × IsPartOfCase tree tree' at c last)
