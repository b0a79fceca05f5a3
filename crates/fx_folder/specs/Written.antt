-- What the steps of writing a folder leave.
use Rattle.std.specs.Prelude.{◌≡◌, ◌⊎◌, ◌≤◌, ℕ, true, List, [], ◌∷◌, ◌++◌, IsSome, Option, Some, None, Result, Err, OnOk, OnErr}
use Rattle.std.specs.FinMap.{get, insert, find, entries}
use Rattle.fx_store.specs.declared.node.Node.{Node}
use Rattle.fx_store.specs.Names.{path_cmp, rest_of}
use Rattle.fx_store.specs.Whole.{Nodes}
use Rattle.fx_outside.specs.declared.kind.HostFault.{HostFault}
use Rattle.fx_outside.specs.declared.kind.HostFault.TheVariants.{Failed}
use Rattle.fx_outside.specs.Host.{HostView, WritesAt, WritesIn, FaultAt, FaultIn}
use Rattle.fx_outside.specs.Path.{Parts, parts, is_fit}
use Rattle.fx_outside.specs.Tree.{Tree, Entry, file, folder}
use Rattle.fx_folder.specs.Places.{host_entry}
use Rattle.fx_folder.specs.Folder.{Out, Absent, Empty, IfTold, IsFrontOf}

-- the tree with the folder itself, which is made where it is not there
abbrev pub with_folder : Tree → Parts → Out → Tree
with_folder tree at Empty = tree
with_folder tree at Absent = insert tree at folder

-- the folder was made, if it had to be, or nothing was
abbrev pub MadePart : Tree → Tree → Parts → Out → Type 0
MadePart tree tree' at there = (tree' ≡ tree) ⊎ (tree' ≡ with_folder tree at there)

-- a folder stands at the path, with nothing below
pub record IsOpen (tree : Tree) (path : List ℕ) : Type 0 where
  pub fit : is_fit path ≡ true
  pub folder : get tree (parts path) ≡ Some folder
  pub empty : (name : List ℕ) (names : Parts) → get tree (parts path ++ name ∷ names) ≡ None

-- the tree with an entry more, if there is one
abbrev pub with_entry : Tree → Parts → Option Entry → Tree
with_entry tree place None = tree
with_entry tree place (Some e) = insert tree place e

-- nothing of the entry was written, or all, or a front of the file that it is
abbrev pub WrotePart : Tree → Tree → Parts → Option Entry → Type 0
WrotePart tree tree' place entry =
    (tree' ≡ tree) ⊎ ((e : Entry) × (whole : Entry) × (entry ≡ Some whole) × ((e ≡ whole) ⊎ IsFrontOf e whole) × (tree' ≡ insert tree place e))

-- the file of a text, if it is not empty
abbrev pub file_unless_empty : List ℕ → Option Entry
file_unless_empty [] = None
file_unless_empty (b ∷ text) = Some (file (b ∷ text))

-- the new tree has the entries of these nodes at these parts and below, and is the old one elsewhere
pub record HasEntries (tree tree' : Tree) (at : Parts) (nodes : List (List (List ℕ) × Node)) : Type 0 where
  pub outside : (q : Parts) → rest_of at q ≡ None → get tree' q ≡ get tree q
  pub inside : (path : Parts) → get tree' (at ++ path) ≡ host_entry (find path_cmp path nodes)

-- the entries of the first of the filestore's nodes are there, and perhaps the next one, or a front of it
pub record WroteFront (tree tree' : Tree) (at : Parts) (nodes : Nodes) : Type 0 where
  pub done : List (List (List ℕ) × Node)
  pub left : List (List (List ℕ) × Node)
  pub split : entries nodes ≡ done ++ left
  pub some : IsSome (find path_cmp [] done)
  pub before : Tree
  pub written : HasEntries tree before at done
  pub begun : (tree' ≡ before) ⊎ ((path : Parts) × (node : Node) × (rest : List (List (List ℕ) × Node)) × (left ≡ (path, node) ∷ rest) × WrotePart before tree' (at ++ path) (host_entry (Some node)))

-- A call puts an entry at a place: the entry stands there, or after a refusal nothing of it, all of it or a front of its file.
-- The host failed where the call says so, nothing else was asked, and the count of faults does not fall.
pub record Puts (place : Parts) (entry : Option Entry) (HasFault IsFit : Type 0) (old new : HostView) (result : Result (Unit {0}) HostFault) : Type 0 where
  pub written : OnOk result (IfTold old.told new.told (λ tree tree'. tree' ≡ with_entry tree place entry))
  pub partly : OnErr result (IfTold old.told new.told (λ tree tree'. WrotePart tree tree' place entry))
  pub fault : result ≡ Err Failed → HasFault
  pub later : old.faults ≤ new.faults
  pub fit : IsFit

-- the entry at a path, and below a folder by these names
abbrev pub PutsAt : List ℕ → Option Entry → HostView → HostView → Result (Unit {0}) HostFault → Type 0
PutsAt path entry old new result = Puts (parts path) entry (FaultAt path old new) (WritesAt path old new) old new result

abbrev pub PutsIn : List ℕ → Parts → Option Entry → HostView → HostView → Result (Unit {0}) HostFault → Type 0
PutsIn folder names entry old new result = Puts (parts folder ++ names) entry (FaultIn folder old new) (WritesIn folder old new) old new result
