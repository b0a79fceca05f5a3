-- Resolution evaluates nothing.
use Rattle.std.proofs.Common.{◌≡◌, ℕ, zero, suc, Bool, true, false, cond, List, [], ◌∷◌, ◌++◌, map, Option, Some, None, refl}
use Rattle.fx_store.specs.declared.node.Node.{Node}
use Rattle.fx_store.specs.declared.node.Node.TheVariants.{File, Dir, Link}
use Rattle.fx_store.specs.declared.node.Landing.{Landing}
use Rattle.fx_store.specs.Resolve.{CurDir, ParentDir, Normal, Component, components_of, start, ◌/ₚ◌, parent, is_full, missing, goes_along, at_link, at_name, Walk, walk, along, resolve}
use Rattle.fx_store.specs.Rule.{Ask, Answer, Look, ticks}
use Rattle.fx_store.specs.Whole.{Store}

ticks-walk : (S : Store) (on : Walk) (follow : Bool) → ((h : List (List ℕ)) (r : List Component) → ticks S (on h r) ≡ 0) → (here : List (List ℕ)) (rest : List Component) → ticks S (walk on follow here rest) ≡ 0
ticks-walk S on follow none here [] = refl
ticks-walk S on follow none here (CurDir ∷ rest) = ticks-walk S on follow none here rest
ticks-walk S on follow none here (ParentDir ∷ rest) = ticks-walk S on follow none (parent here) rest
ticks-walk S on follow none here (Normal n ∷ rest) = at (is_full here) (looked (S (here /ₚ n)) (ticks-walk S on follow none (here /ₚ n) rest))
  where
    linked : (b : Bool) (q : List (List ℕ)) (rule : Ask Landing) → ticks S rule ≡ 0 → ticks S (at_link b q rule) ≡ 0
    linked true q rule e = e
    linked false q rule e = refl

    looked : (o : Option Node) → ticks S (walk on follow (here /ₚ n) rest) ≡ 0 → ticks S (at_name follow here n rest (walk on follow (here /ₚ n) rest) on o) ≡ 0
    looked None h = refl
    looked (Some (File bytes exec)) h = refl
    looked (Some (Dir names)) h = h
    looked (Some (Link text)) h = linked (goes_along follow rest) (here /ₚ n) (on (start here text) (components_of text ++ rest)) (none (start here text) (components_of text ++ rest))

    at : (b : Bool) → ticks S (at_name follow here n rest (walk on follow (here /ₚ n) rest) on (S (here /ₚ n))) ≡ 0
        → ticks S (cond b (Answer (missing here n rest)) (Look (here /ₚ n) (at_name follow here n rest (walk on follow (here /ₚ n) rest) on))) ≡ 0
    at true h = refl
    at false h = h

ticks-along : (S : Store) (links : ℕ) (follow : Bool) (here : List (List ℕ)) (rest : List Component) → ticks S (along links follow here rest) ≡ 0
ticks-along S zero follow here rest = refl
ticks-along S (suc links) follow here rest = ticks-walk S (λ h r. along links follow h r) follow (λ h r. ticks-along S links follow h r) here rest

pub ticks-resolve : (S : Store) (p : List (List ℕ)) (follow : Bool) → ticks S (resolve p follow) ≡ 0
unfolding resolve
ticks-resolve S p follow = ticks-walk S (along 40 follow) follow (λ h r. ticks-along S 40 follow h r) [] (map Normal p)
