-- Whether a description has a value at the root of a filestore, and what of the filestore decides it.
use Rattle.std.specs.Prelude.{◌≡◌, ◌↔◌, ℕ, Bool, List, [], Option, is_some, All, Contains}
use Rattle.fx_store.specs.Rule.{Ask, answer, asked, ticks}
use Rattle.fx_store.specs.Whole.{Store}
use Rattle.fx_expr.specs.Tree.{Tree}
use Rattle.fx_spec.specs.Describe.{value}
use Rattle.fx_spec.specs.SpecTree.{SpecTree}
use Rattle.fx_view.specs.ReadList.{ReadList}
use Rattle.fx_view.specs.Reads.{IsRead}

-- the description's value at the root, where no name is bound
abbrev pub root_rule : SpecTree → Ask (Option Tree)
root_rule root = value [] [] root

abbrev pub has_value : SpecTree → Store → Bool
has_value root S = is_some (answer S (root_rule root))

-- the paths that are consulted for it
abbrev pub root_consulted : SpecTree → Store → List (List (List ℕ))
root_consulted root S = asked S (root_rule root)

-- how many expressions are evaluated for it
abbrev pub evaluations : SpecTree → Store → ℕ
evaluations root S = ticks S (root_rule root)

-- none of the paths is consulted
abbrev pub Spares : SpecTree → Store → List (List (List ℕ)) → Type 0
Spares root S changed = All (λ path. Contains (root_consulted root S) path → ⊥) changed

-- two filestores differ at no other than these paths
abbrev pub DiffersAt : List (List (List ℕ)) → Store → Store → Type 0
DiffersAt changed S T = (path : List (List ℕ)) → (Contains changed path → ⊥) → S path ≡ T path

-- a rule was followed on a filestore: the reads are of the paths that it consults, and it answers something or nothing
pub record IsWalked (S : Store) (rule : Ask (Option Tree)) (reads : ReadList) (valid : Bool) : Type 0 where
  pub valid_is : valid ≡ is_some (answer S rule)
  pub asked_is : (path : List (List ℕ)) → IsRead reads path ↔ Contains (asked S rule) path

-- so was the description's at the root
abbrev pub IsFound : SpecTree → Store → ReadList → Bool → Type 0
IsFound root S reads valid = IsWalked S (root_rule root) reads valid
