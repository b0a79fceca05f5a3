-- What a run reads: the texts of the description and of the scripts, and the folder.
use Rattle.std.specs.Prelude.{◌≡◌, ◌⊎◌, ℕ, ◌+◌, true, false, List, [], ◌∷◌, length}
use Rattle.fx_store.specs.Whole.{Nodes}
use Rattle.fx_outside.specs.Tree.{Tree, is_file_at, bytes_at, is_folder_at}
use Rattle.fx_folder.specs.HasFolder.{HasFolder}
use Rattle.fx_folder.specs.Loads.{Loads}
use Rattle.fx_spec.specs.SpecTree.{SpecTree}
use Rattle.fx_spec.specs.CommandTree.{CommandTree}
use Rattle.fx_spec.specs.Order.{BaseTree}
use Rattle.fx_command.specs.declared.status.TextFault.{TextFault}
use Rattle.fx_command.specs.Files.{IsDescriptionAt, IsNoDescriptionAt}
use Rattle.fx_command.specs.Scripted.{Scripts, IsNoScriptFor}
use Rattle.fx_words.specs.Job.{Inputs, script_place}

-- the file at SPEC describes this; or its text is refused, first for this cause
abbrev pub HasSpec : Tree → Inputs → SpecTree → Type 0
HasSpec t inputs spec = IsDescriptionAt t inputs.spec spec

abbrev pub HasNoSpec : Tree → Inputs → TextFault → Type 0
HasNoSpec t inputs cause = IsNoDescriptionAt t inputs.spec cause

-- the file at a path stands for a script that follows so many transactions; or its text is refused, first for this cause
pub record HasScript (t : Tree) (path : List ℕ) (before : ℕ) (txns : List (List CommandTree)) : Type 0 where
  pub file : is_file_at t path ≡ true
  pub script : Scripts (bytes_at t path) before txns

pub record HasNoScript (cause : TextFault) (t : Tree) (path : List ℕ) (before : ℕ) : Type 0 where
  pub file : is_file_at t path ≡ true
  pub refused : IsNoScriptFor (bytes_at t path) before cause

-- the text at the path stands for these transactions and for no others
abbrev pub IsOnlyScript : Tree → List ℕ → ℕ → List (List CommandTree) → Type 0
IsOnlyScript t path before txns = (others : List (List CommandTree)) → Scripts (bytes_at t path) before others → others ≡ txns

-- the files at the paths stand for the scripts of a plan, one after another
abbrev pub HasScripts : Tree → ℕ → List (List ℕ) → List (List (List CommandTree)) → Type 0
HasScripts t before [] [] = Unit {0}
HasScripts t before (path ∷ paths) (txns ∷ plan) = HasScript t path before txns × HasScripts t (before + length txns) paths plan
HasScripts t before _ _ = ⊥

-- a script that is read, after which others follow
pub record HasMoreScripts (t : Tree) (path : List ℕ) (before : ℕ) (txns : List (List CommandTree)) : Type 0 where
  pub script : HasScript t path before txns
  pub only : IsOnlyScript t path before txns

-- so much is so of the script of number `i`, and those before it are read
abbrev pub StopsAtScript : (Tree → List ℕ → ℕ → Type 0) → Tree → ℕ → List (List ℕ) → ℕ → Type 0
StopsAtScript stops t before [] i = ⊥
StopsAtScript stops t before (path ∷ paths) i =
    ((i ≡ 0) × stops t path before) ⊎ ((k : ℕ) × (i ≡ k + 1) × (txns : List (List CommandTree)) × HasMoreScripts t path before txns × StopsAtScript stops t (before + length txns) paths k)

-- reading comes to the script
abbrev pub IsScriptReached : Tree → List ℕ → ℕ → Type 0
IsScriptReached t path before = Unit {0}

abbrev pub LacksFile : Tree → List ℕ → ℕ → Type 0
LacksFile t path before = is_file_at t path ≡ false

-- what a run begins with is what the host's texts stand for, and the filestore whose folder is there
pub record HasBase (t : Tree) (inputs : Inputs) (base : BaseTree) : Type 0 where
  pub spec : HasSpec t inputs base.description
  pub scripts : HasScripts t 0 inputs.scripts base.plan
  pub folder : HasFolder t inputs.folder base.loaded

-- they stand for nothing else
abbrev pub IsOnlySpec : Tree → Inputs → SpecTree → Type 0
IsOnlySpec t inputs spec = (other : SpecTree) → HasSpec t inputs other → other ≡ spec

abbrev pub AreOnlyScripts : Tree → Inputs → List (List (List CommandTree)) → Type 0
AreOnlyScripts t inputs plan = (others : List (List (List CommandTree))) → HasScripts t 0 inputs.scripts others → others ≡ plan

abbrev pub IsOnlyBase : Tree → Inputs → BaseTree → Type 0
IsOnlyBase t inputs base = (other : BaseTree) → HasBase t inputs other → other ≡ base

-- a script for each of the words
abbrev pub HasEachScript : Inputs → BaseTree → Type 0
HasEachScript inputs base = length base.plan ≡ length inputs.scripts

abbrev pub HasSomeSpec : Tree → Inputs → Type 0
HasSomeSpec t inputs = (spec : SpecTree) × HasSpec t inputs spec

abbrev pub HasTexts : Tree → Inputs → Type 0
HasTexts t inputs = HasSomeSpec t inputs × ((plan : List (List (List CommandTree))) × HasScripts t 0 inputs.scripts plan)

abbrev pub HasInputs : Tree → Inputs → Type 0
HasInputs t inputs = HasTexts t inputs × ((nodes : Nodes) × Loads t inputs.folder nodes)

-- a file or folder that a run reads is not there, and nothing that comes before it is refused
abbrev pub CannotRead : Tree → Inputs → Type 0
CannotRead t inputs =
    (is_file_at t inputs.spec ≡ false) ⊎ ((HasSomeSpec t inputs × ((i : ℕ) × StopsAtScript LacksFile t 0 inputs.scripts i)) ⊎ (HasTexts t inputs × (is_folder_at t inputs.folder ≡ false)))

-- the text of this word is the first that is refused, first for this cause
abbrev pub IsFirstRefused : Tree → Inputs → ℕ → TextFault → Type 0
IsFirstRefused t inputs word cause =
    ((word ≡ 1) × HasNoSpec t inputs cause) ⊎ (HasSomeSpec t inputs × ((i : ℕ) × (word ≡ script_place inputs i) × StopsAtScript (HasNoScript cause) t 0 inputs.scripts i))
