-- What resolution means on a filestore: its rules one by one, and what a landing says of a whole filestore.
use Rattle.std.specs.Prelude.{◌≡◌, ℕ, zero, suc, Bool, true, false, List, [], ◌∷◌, ◌++◌, map, ◌↔◌, ⊤, Some, None, IsSome}
use Rattle.fx_store.specs.declared.node.Node.TheVariants.{File, Dir, Link}
use Rattle.fx_store.specs.declared.node.Landing.{Landing}
use Rattle.fx_store.specs.declared.node.Landing.TheVariants.{At, Absent, Blocked, TooManyLinks}
use Rattle.fx_store.specs.Whole.{Store, IsWhole}
use Rattle.fx_store.specs.Rule.{SameOn}
use Rattle.fx_store.specs.Resolve.{Component, CurDir, ParentDir, Normal, components_of, start, ◌/ₚ◌, parent, missing, goes_along, lands, looks}

-- `Resolves S follow links here rest landing`: from the directory `here` the rest of components leads to the landing, where
-- so many links may be followed yet
pub data Resolves (S : Store) (follow : Bool) : ℕ → List (List ℕ) → List Component → Landing → Type 0 where
  arrived : {links : ℕ} {here : List (List ℕ)} → Resolves S follow links here [] (At here)
  stays : {links : ℕ} {here : List (List ℕ)} {rest : List Component} {l : Landing} → Resolves S follow links here rest l → Resolves S follow links here (CurDir ∷ rest) l
  rises : {links : ℕ} {here : List (List ℕ)} {rest : List Component} {l : Landing} → Resolves S follow links (parent here) rest l → Resolves S follow links here (ParentDir ∷ rest) l
  lacks : {links : ℕ} {here : List (List ℕ)} {n : List ℕ} {rest : List Component} → S (here /ₚ n) ≡ None → Resolves S follow links here (Normal n ∷ rest) (missing here n rest)
  enters : {links : ℕ} {here : List (List ℕ)} {n : List ℕ} {rest : List Component} {names : List (List ℕ)} {l : Landing} → S (here /ₚ n) ≡ Some (Dir names) → Resolves S follow links (here /ₚ n) rest l → Resolves S follow links here (Normal n ∷ rest) l
  ends_at_file : {links : ℕ} {here : List (List ℕ)} {n bytes : List ℕ} {exec : Bool} → S (here /ₚ n) ≡ Some (File bytes exec) → Resolves S follow links here (Normal n ∷ []) (At (here /ₚ n))
  stops_at_file : {links : ℕ} {here : List (List ℕ)} {n bytes : List ℕ} {exec : Bool} {c : Component} {rest : List Component} → S (here /ₚ n) ≡ Some (File bytes exec) → Resolves S follow links here (Normal n ∷ c ∷ rest) (Blocked (here /ₚ n))
  ends_at_link : {links : ℕ} {here : List (List ℕ)} {n text : List ℕ} {rest : List Component} → S (here /ₚ n) ≡ Some (Link text) → goes_along follow rest ≡ false → Resolves S follow links here (Normal n ∷ rest) (At (here /ₚ n))
  follows : {links : ℕ} {here : List (List ℕ)} {n text : List ℕ} {rest : List Component} {l : Landing} → S (here /ₚ n) ≡ Some (Link text) → goes_along follow rest ≡ true → Resolves S follow links (start here text) (components_of text ++ rest) l → Resolves S follow (suc links) here (Normal n ∷ rest) l
  tires : {here : List (List ℕ)} {n text : List ℕ} {rest : List Component} → S (here /ₚ n) ≡ Some (Link text) → goes_along follow rest ≡ true → Resolves S follow zero here (Normal n ∷ rest) TooManyLinks

-- the landing of a path is the one to which the rules lead from the root with 40 links
abbrev pub LandsByTheRules : Type 0
LandsByTheRules =
    (S : Store) → IsWhole S → (p : List (List ℕ)) (follow : Bool) (l : Landing) → Resolves S follow 40 [] (map Normal p) l ↔ (lands S p follow ≡ l)

abbrev pub IsDir : Store → List (List ℕ) → Type 0
IsDir S p = (names : List (List ℕ)) × (S p ≡ Some (Dir names))

-- what is landed at or blocks the way is there; an absent landing's directory is there, and has no entry of the first name
abbrev pub IsTrueOf : Store → Landing → Type 0
IsTrueOf S (At q) = IsSome (S q)
IsTrueOf S (Absent here []) = ⊥
IsTrueOf S (Absent here (n ∷ names)) = IsDir S here × (S (here /ₚ n) ≡ None)
IsTrueOf S (Blocked q) = IsSome (S q)
IsTrueOf S TooManyLinks = ⊤

abbrev pub LandingsAreTrue : Type 0
LandingsAreTrue = (S : Store) → IsWhole S → (p : List (List ℕ)) (follow : Bool) → IsTrueOf S (lands S p follow)

-- the landing and the looks of a path depend on nothing but what is at the paths looked at
abbrev pub LandingDependsOnLooks : Type 0
LandingDependsOnLooks =
    (S T : Store) (p : List (List ℕ)) (follow : Bool) → SameOn (looks S p follow) S T → (lands T p follow ≡ lands S p follow) × (looks T p follow ≡ looks S p follow)
