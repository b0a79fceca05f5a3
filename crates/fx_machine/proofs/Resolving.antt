-- The rule of resolution looks at paths alone, and it lands at a path or at the missing names below one.
use Rattle.std.proofs.Common.{◌≡◌, ℕ, zero, suc, ◌-◌, Bool, true, false, cond, refl, List, [], ◌∷◌, ◌++◌, map, length, Option, Some, None, arith, length-append}
use Rattle.std.specs.List.{All}
use Rattle.std.specs.Option.{option_map}
use Rattle.std.proofs.lemmas.Bool.{ltb-false}
use Rattle.std.proofs.lemmas.List.{length-take-le}
use Rattle.std.proofs.lemmas.List.Elements.{All-nil, All-cons, All-append, All-take}
use Rattle.fx_store.specs.declared.node.Node.{Node}
use Rattle.fx_store.specs.declared.node.Node.TheVariants.{File, Dir, Link}
use Rattle.fx_store.specs.declared.node.Landing.{Landing}
use Rattle.fx_store.specs.Names.{IsName, IsPath, is_absolute}
use Rattle.fx_store.specs.Rule.{Ask, Answer, Look}
use Rattle.fx_store.specs.Resolve.{Component, CurDir, ParentDir, Normal, components_of, start, ◌/ₚ◌, parent, is_full, names_only, absent, missing, at_file, goes_along, at_link, Walk, at_name, walk, along, resolve}
use Rattle.fx_store.proofs.WholeStores.{IsPath-root}
use Rattle.fx_store.proofs.Components.{AreNamed, named_append, link_named, path_named}
use Rattle.fx_machine.specs.Asks.{MayStand, AsksPaths}
use Rattle.fx_machine.proofs.Asking.{IsLanding}

-- ------------------------------------------------------------------------------------------------------------- paths

-- the directory above a path is a path
pub IsPath-parent : (p : List (List ℕ)) → IsPath p → IsPath (parent p)
IsPath-parent p is =
    let short = is.short in
    record {
      names = All-take IsName (length p - 1) p is.names;
      short = let cut = length-take-le (length p - 1) p (omega arith) in omega (arith, cut, short);
    }

-- a path with one name more is one, unless it is full
pub IsPath-below : (p : List (List ℕ)) (n : List ℕ) → IsPath p → IsName n → is_full p ≡ false → IsPath (p /ₚ n)
IsPath-below p n is name room = record {
  names = All-append IsName p (n ∷ []) is.names (All-cons IsName n [] name (All-nil IsName));
  short = let few = ltb-false 63 (length p) room in omega (arith, length-append p (n ∷ []), few);
}

-- ------------------------------------------------------------------------------------------------------------- components

-- the names of a rest, where it has names alone
abbrev AreAll : Option (List (List ℕ)) → Type 0
AreAll None = Unit {0}
AreAll (Some names) = All IsName names

names_only_named : (rest : List Component) → AreNamed rest → AreAll (names_only rest)
names_only_named [] are = All-nil IsName
names_only_named (CurDir ∷ rest) are = tt
names_only_named (ParentDir ∷ rest) are = tt
names_only_named (Normal n ∷ rest) are = at (names_only rest) (names_only_named rest are.1)
  where
    at : (o : Option (List (List ℕ))) → AreAll o → AreAll (option_map (λ ns. n ∷ ns) o)
    at None h = tt
    at (Some names) h = All-cons IsName n names are.0 h

absent_lands : (here : List (List ℕ)) (o : Option (List (List ℕ))) → IsPath here → AreAll o → IsLanding (absent here o)
absent_lands here None is all = tt
absent_lands here (Some names) is all = (is, all)

missing_lands : (here : List (List ℕ)) (n : List ℕ) (rest : List Component) → IsPath here → IsName n → AreNamed rest → IsLanding (missing here n rest)
missing_lands here n rest is name are = absent_lands here (names_only (Normal n ∷ rest)) is (names_only_named (Normal n ∷ rest) (name, are))

-- ------------------------------------------------------------------------------------------------------------- walks

start_is_path : (here : List (List ℕ)) (text : List ℕ) → IsPath here → IsPath (start here text)
start_is_path here text is = at (is_absolute text)
  where
    at : (b : Bool) → IsPath (cond b [] here)
    at true = IsPath-root
    at false = is

at_file_lands : (q : List (List ℕ)) (rest : List Component) → IsPath q → IsLanding (at_file q rest)
at_file_lands q [] is = is
at_file_lands q (c ∷ rest) is = tt

-- from a path, a walk over a rest with names looks at paths alone
abbrev WalksPaths : Walk → Type 0
WalksPaths on = (here : List (List ℕ)) (rest : List Component) → IsPath here → AreNamed rest → AsksPaths IsLanding (on here rest)

link_asks : (b : Bool) (q : List (List ℕ)) (on : Ask Landing) → IsPath q → AsksPaths IsLanding on → AsksPaths IsLanding (at_link b q on)
link_asks false q on is asks = is
link_asks true q on is asks = asks

name_asks : (follow : Bool) (here : List (List ℕ)) (n : List ℕ) (rest : List Component) (inside : Ask Landing) (on : Walk) → IsPath here → IsName n → IsPath (here /ₚ n) → AreNamed rest → AsksPaths IsLanding inside → WalksPaths on
    → (found : Option Node) → MayStand (here /ₚ n) found → AsksPaths IsLanding (at_name follow here n rest inside on found)
name_asks follow here n rest inside on is name below are asks walks None may = missing_lands here n rest is name are
name_asks follow here n rest inside on is name below are asks walks (Some (File bytes exec)) may = at_file_lands (here /ₚ n) rest below
name_asks follow here n rest inside on is name below are asks walks (Some (Dir names)) may = asks
name_asks follow here n rest inside on is name below are asks walks (Some (Link text)) may =
    link_asks (goes_along follow rest) (here /ₚ n) (on (start here text) (components_of text ++ rest)) below
    (walks (start here text) (components_of text ++ rest) (start_is_path here text is) (named_append (components_of text) rest (link_named text may) are))

walk_asks : (on : Walk) (follow : Bool) → WalksPaths on → WalksPaths (walk on follow)
walk_asks on follow walks here [] is are = is
walk_asks on follow walks here (CurDir ∷ rest) is are = walk_asks on follow walks here rest is are
walk_asks on follow walks here (ParentDir ∷ rest) is are = walk_asks on follow walks (parent here) rest (IsPath-parent here is) are
walk_asks on follow walks here (Normal n ∷ rest) is are = at (is_full here) refl (λ below. walk_asks on follow walks (here /ₚ n) rest below are.1)
  where
    at : (b : Bool) → is_full here ≡ b → (IsPath (here /ₚ n) → AsksPaths IsLanding (walk on follow (here /ₚ n) rest))
        → AsksPaths IsLanding (cond b (Answer (missing here n rest)) (Look (here /ₚ n) (at_name follow here n rest (walk on follow (here /ₚ n) rest) on)))
    at true f inside = missing_lands here n rest is are.0 are.1
    at false f inside =
        let below = IsPath-below here n is are.0 f in
        (below, λ found may. name_asks follow here n rest (walk on follow (here /ₚ n) rest) on is are.0 below are.1 (inside below) walks found may)

along_asks : (links : ℕ) (follow : Bool) → WalksPaths (along links follow)
along_asks zero follow here rest is are = tt
along_asks (suc links) follow here rest is are = walk_asks (along links follow) follow (along_asks links follow) here rest is are

pub resolve_asks : (p : List (List ℕ)) (follow : Bool) → IsPath p → AsksPaths IsLanding (resolve p follow)
unfolding resolve
resolve_asks p follow is = walk_asks (along 40 follow) follow (along_asks 40 follow) [] (map Normal p) IsPath-root (path_named p is.names)
