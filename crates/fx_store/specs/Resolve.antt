-- Resolution of a path to its landing, as one rule: it walks from the root, name by name, and goes through links.
use Rattle.std.specs.Prelude.{ℕ, zero, suc, ◌-◌, Bool, true, false, cond, nat_lt, List, [], ◌∷◌, ◌++◌, map, length, take, Option, Some, None, codes, bytes_eq}
use Rattle.std.specs.Option.{option_map}
use Rattle.fx_store.specs.declared.node.Node.{Node}
use Rattle.fx_store.specs.declared.node.Node.TheVariants.{File, Dir, Link}
use Rattle.fx_store.specs.declared.node.Landing.{Landing}
use Rattle.fx_store.specs.declared.node.Landing.TheVariants.{At, Absent, Blocked, TooManyLinks}
use Rattle.fx_store.specs.Names.{is_absolute, components}
use Rattle.fx_store.specs.Whole.{Store}
use Rattle.fx_store.specs.Rule.{Ask, Answer, Look, answer, asked}

-- a component of a path or of a link text: the same directory, the one above, or an entry
pub data Component : Type 0 where
  CurDir : Component
  ParentDir : Component
  Normal : List ℕ → Component

abbrev pub component_of : List ℕ → Component
component_of part = cond (bytes_eq part (codes ".")) CurDir (cond (bytes_eq part (codes "..")) ParentDir (Normal part))

abbrev pub components_of : List ℕ → List Component
components_of text = map component_of (components text)

-- where a link text begins: at the root after a leading slash, else in the link's own directory
abbrev pub start : List (List ℕ) → List ℕ → List (List ℕ)
start here text = cond (is_absolute text) [] here

-- the path with one more name
infixl 60 ◌/ₚ◌
abbrev pub ◌/ₚ◌ : List (List ℕ) → List ℕ → List (List ℕ)
here /ₚ n = here ++ n ∷ []

-- the directory above; the root stays the root
abbrev pub parent : List (List ℕ) → List (List ℕ)
parent p = take (length p - 1) p

-- a path of 64 names has none below it
abbrev pub is_full : List (List ℕ) → Bool
is_full here = nat_lt 63 (length here)

-- the names of a rest that holds names alone
abbrev pub names_only : List Component → Option (List (List ℕ))
names_only [] = Some []
names_only (Normal n ∷ rest) = option_map (λ ns. n ∷ ns) (names_only rest)
names_only _ = None

abbrev pub absent : List (List ℕ) → Option (List (List ℕ)) → Landing
absent here None = Blocked here
absent here (Some names) = Absent here names

-- the current directory has no such name: absent where the rest holds names alone, else blocked
abbrev pub missing : List (List ℕ) → List ℕ → List Component → Landing
missing here n rest = absent here (names_only (Normal n ∷ rest))

-- a file is landed on as the last component, and blocks the way otherwise
abbrev pub at_file : List (List ℕ) → List Component → Landing
at_file q [] = At q
at_file q (c ∷ rest) = Blocked q

-- whether the walk goes along a link: always in the middle of the way, and at its end where the last link is followed
abbrev pub goes_along : Bool → List Component → Bool
goes_along follow [] = follow
goes_along follow (c ∷ rest) = true

abbrev pub at_link : Bool → List (List ℕ) → Ask Landing → Ask Landing
at_link false q on = Answer (At q)
at_link true q on = on

-- how a walk goes on from a current path with a rest of components
abbrev pub Walk : Type 0
Walk = List (List ℕ) → List Component → Ask Landing

-- the step at a name: by what is there, with the walk inside it, and the walk along a link
abbrev pub at_name : Bool → List (List ℕ) → List ℕ → List Component → Ask Landing → Walk → Option Node → Ask Landing
at_name follow here n rest inside along None = Answer (missing here n rest)
at_name follow here n rest inside along (Some (File bytes exec)) = Answer (at_file (here /ₚ n) rest)
at_name follow here n rest inside along (Some (Dir names)) = inside
at_name follow here n rest inside along (Some (Link text)) =
    at_link (goes_along follow rest) (here /ₚ n) (along (start here text) (components_of text ++ rest))

-- the walk over a rest of components
abbrev pub walk : Walk → Bool → Walk
walk along follow here [] = Answer (At here)
walk along follow here (CurDir ∷ rest) = walk along follow here rest
walk along follow here (ParentDir ∷ rest) = walk along follow (parent here) rest
walk along follow here (Normal n ∷ rest) =
    let inside = walk along follow (here /ₚ n) rest in
    let step = Look (here /ₚ n) (at_name follow here n rest inside along) in
    cond (is_full here) (Answer (missing here n rest)) step

-- the walk along a link, where so many links may be followed
abbrev pub along : ℕ → Bool → Walk
along zero follow here rest = Answer TooManyLinks
along (suc links) follow here rest = walk (λ h r. along links follow h r) follow here rest

-- the landing of a path; `follow` says whether a last link is followed
unfoldable pub resolve : List (List ℕ) → Bool → Ask Landing
resolve p follow = walk (along 40 follow) follow [] (map Normal p)

-- the landing of a path at a filestore, and the paths looked at on the way
abbrev pub lands : Store → List (List ℕ) → Bool → Landing
lands S p follow = answer S (resolve p follow)

abbrev pub looks : Store → List (List ℕ) → Bool → List (List (List ℕ))
looks S p follow = asked S (resolve p follow)
