-- Where resolution leads on a filestore and on another that has much the same.
use Rattle.std.proofs.Common.{◌≡◌, ◌≢◌, ℕ, zero, suc, Bool, true, false, cond, refl, ap, sym, ◌∙◌, List, [], ◌∷◌, ◌++◌, map, length, Option, Some, None, arith, length-append}
use Rattle.std.specs.Prelude.{All}
use Rattle.std.proofs.lemmas.List.Elements.{All-head, All-tail}
use Rattle.fx_store.specs.declared.node.Node.{Node}
use Rattle.fx_store.specs.declared.node.Node.TheVariants.{File, Dir, Link}
use Rattle.fx_store.specs.declared.node.Landing.{Landing}
use Rattle.fx_store.specs.declared.node.Landing.TheVariants.{At}
use Rattle.fx_store.specs.Resolve.{Component, CurDir, ParentDir, Normal, components_of, start, ◌/ₚ◌, parent, is_full, names_only, absent, missing, goes_along, at_link, Walk, at_name, walk, along, resolve, lands, looks}
use Rattle.fx_store.specs.Rule.{Ask, Answer, Look, answer, asked}
use Rattle.fx_store.specs.Whole.{Store}
use Rattle.fx_laws.proofs.Among.{Path, Each}

-- ---- nodes on the way that resolution does not tell apart

-- the same stands there, or files, or directories
abbrev pub Alike : Option Node → Option Node → Type 0
Alike (Some (File a exec)) m = (b : List ℕ) × (was : Bool) × (m ≡ Some (File b was))
Alike (Some (Dir ns)) m = (names : Path) × (m ≡ Some (Dir names))
Alike n m = n ≡ m

pub alike_itself : (n : Option Node) → Alike n n
alike_itself None = refl
alike_itself (Some (File a exec)) = (a, exec, refl)
alike_itself (Some (Dir names)) = (names, refl)
alike_itself (Some (Link text)) = refl

-- resolution does not see what a file or a directory on its way holds
module _ (S T : Store) where
  abbrev pub AlikeAt : Path → Type 0
  AlikeAt p = Alike (S p) (T p)

  -- the rule gives the same where what it looks at is alike
  abbrev GivesSame : Ask Landing → Type 0
  GivesSame rule = Each AlikeAt (asked S rule) → answer T rule ≡ answer S rule

  name_alike : (follow : Bool) (here : Path) (n : List ℕ) (rest : List Component) (inside : Ask Landing) (on : Walk) → GivesSame inside → ((h : Path) (r : List Component) → GivesSame (on h r))
      → (a b : Option Node) → Alike a b → Each AlikeAt (asked S (at_name follow here n rest inside on a)) → answer T (at_name follow here n rest inside on b) ≡ answer S (at_name follow here n rest inside on a)
  name_alike follow here n rest inside on same each None b h all = ap (λ m. answer T (at_name follow here n rest inside on m)) (sym h)
  name_alike follow here n rest inside on same each (Some (File bytes exec)) b h all = ap (λ m. answer T (at_name follow here n rest inside on m)) h.2
  name_alike follow here n rest inside on same each (Some (Dir names)) b h all = ap (λ m. answer T (at_name follow here n rest inside on m)) h.1 ∙ same all
  name_alike follow here n rest inside on same each (Some (Link text)) b h all =
      ap (λ m. answer T (at_name follow here n rest inside on m)) (sym h) ∙ go (goes_along follow rest) all
    where
      go : (t : Bool) → Each AlikeAt (asked S (at_link t (here /ₚ n) (on (start here text) (components_of text ++ rest))))
          → answer T (at_link t (here /ₚ n) (on (start here text) (components_of text ++ rest))) ≡ answer S (at_link t (here /ₚ n) (on (start here text) (components_of text ++ rest)))
      go true all = each (start here text) (components_of text ++ rest) all
      go false all = refl

  walk_alike : (on : Walk) → ((h : Path) (r : List Component) → GivesSame (on h r)) → (follow : Bool) (rest : List Component) (here : Path) → GivesSame (walk on follow here rest)
  walk_alike on each follow [] here all = refl
  walk_alike on each follow (CurDir ∷ rest) here all = walk_alike on each follow rest here all
  walk_alike on each follow (ParentDir ∷ rest) here all = walk_alike on each follow rest (parent here) all
  walk_alike on each follow (Normal n ∷ rest) here all = go (is_full here) (walk_alike on each follow rest (here /ₚ n)) all
    where
      go : (t : Bool) → GivesSame (walk on follow (here /ₚ n) rest) → GivesSame (cond t (Answer (missing here n rest)) (Look (here /ₚ n) (at_name follow here n rest (walk on follow (here /ₚ n) rest) on)))
      go true inside all = refl
      go false inside all = name_alike follow here n rest (walk on follow (here /ₚ n) rest) on inside each (S (here /ₚ n)) (T (here /ₚ n)) all.0 all.1

  along_alike : (links : ℕ) (follow : Bool) (here : Path) (rest : List Component) → GivesSame (along links follow here rest)
  along_alike zero follow here rest all = refl
  along_alike (suc links) follow here rest all = walk_alike (λ h r. along links follow h r) (λ h r. along_alike links follow h r) follow rest here all

  pub lands_alike : (p : Path) (follow : Bool) → Each AlikeAt (looks S p follow) → lands T p follow ≡ lands S p follow
  unfolding resolve
  lands_alike p follow all = walk_alike (along 40 follow) (λ h r. along_alike 40 follow h r) follow (map Normal p) [] all

pub each_of_all : (P : Path → Type 0) → ((p : Path) → P p) → (ps : List Path) → Each P ps
each_of_all P all [] = tt
each_of_all P all (p ∷ ps) = (all p, each_of_all P all ps)

pub each_from_all : (P : Path → Type 0) (ps : List Path) → All P ps → Each P ps
each_from_all P [] all = tt
each_from_all P (p ∷ ps) all = (All-head P p ps all, each_from_all P ps (All-tail P p ps all))

-- ---- a link at the end of the way

-- no components, or the last one is a name
abbrev EndsInName : List Component → Type 0
EndsInName [] = Unit {0}
EndsInName (CurDir ∷ []) = ⊥
EndsInName (ParentDir ∷ []) = ⊥
EndsInName (Normal n ∷ []) = Unit {0}
EndsInName (c ∷ d ∷ rest) = EndsInName (d ∷ rest)

path_ends : (p : Path) → EndsInName (map Normal p)
path_ends [] = tt
path_ends (n ∷ []) = tt
path_ends (n ∷ m ∷ p) = path_ends (m ∷ p)

ends_behind : (c : Component) (rest : List Component) → EndsInName (c ∷ rest) → EndsInName rest
ends_behind c [] h = tt
ends_behind c (d ∷ rest) h = h

ends_before : (front : List Component) (c : Component) (rest : List Component) → EndsInName (c ∷ rest) → EndsInName (front ++ c ∷ rest)
ends_before [] c rest h = h
ends_before (d ∷ []) c rest h = h
ends_before (d ∷ e ∷ front) c rest h = ends_before (e ∷ front) c rest h

absent_not_at : (here : Path) (names : Option Path) (q : Path) → absent here names ≡ At q → ⊥
absent_not_at here None q e = cc
absent_not_at here (Some names) q e = cc

not_empty : (front : List Path) (q : Path) → ◌≡◌ {A = List Path} [] (front ++ q ∷ []) → ⊥
not_empty front q e = omega (arith, ap length e, length-append front (q ∷ []))

module _ (S T : Store) (q : Path) (old new : List ℕ) (was : S q ≡ Some (Link old)) (is : T q ≡ Some (Link new)) (others : (p : Path) → p ≢ q → T p ≡ S p) where
  -- a name at the end of the way is looked at where the landing is at something
  abbrev LooksAtName : Walk → Type 0
  LooksAtName on = (here : Path) (c : Component) (rest : List Component) → EndsInName (c ∷ rest) → asked S (on here (c ∷ rest)) ≡ [] → answer S (on here (c ∷ rest)) ≡ At q → ⊥

  walk_looks : (on : Walk) (follow : Bool) → LooksAtName (walk on follow)
  walk_looks on follow here CurDir [] ends none at = ends
  walk_looks on follow here ParentDir [] ends none at = ends
  walk_looks on follow here CurDir (d ∷ rest) ends none at = walk_looks on follow here d rest ends none at
  walk_looks on follow here ParentDir (d ∷ rest) ends none at = walk_looks on follow (parent here) d rest ends none at
  walk_looks on follow here (Normal n) rest ends none at = by (is_full here) none at
    where
      by : (b : Bool) → asked S (cond b (Answer (missing here n rest)) (Look (here /ₚ n) (at_name follow here n rest (walk on follow (here /ₚ n) rest) on))) ≡ []
          → answer S (cond b (Answer (missing here n rest)) (Look (here /ₚ n) (at_name follow here n rest (walk on follow (here /ₚ n) rest) on))) ≡ At q → ⊥
      by true none at = absent_not_at here (names_only (Normal n ∷ rest)) q at
      by false none at = cc

  along_looks : (links : ℕ) (follow : Bool) → LooksAtName (along links follow)
  along_looks zero follow here c rest ends none at = cc
  along_looks (suc links) follow here c rest ends none at = walk_looks (λ h r. along links follow h r) follow here c rest ends none at

  -- a rule whose last look is the only one at the link lands there still
  abbrev pub LandsStill : Ask Landing → Type 0
  LandsStill rule = (front : List Path) → asked S rule ≡ front ++ q ∷ [] → Each (λ r. r ≢ q) front → answer S rule ≡ At q → answer T rule ≡ At q

  abbrev WalksStill : Walk → Type 0
  WalksStill on = (here : Path) (rest : List Component) → EndsInName rest → LandsStill (on here rest)

  module _ (on : Walk) (looks_on : LooksAtName on) (on_still : WalksStill on) (here : Path) (n : List ℕ) (inside : Ask Landing) (inside_still : LandsStill inside) where
    -- the link itself
    at_last : (rest : List Component) → EndsInName (Normal n ∷ rest) → here /ₚ n ≡ q → asked S (at_name false here n rest inside on (Some (Link old))) ≡ [] → answer S (at_name false here n rest inside on (Some (Link old))) ≡ At q
        → answer T (at_name false here n rest inside on (Some (Link new))) ≡ At q
    at_last [] ends same none at = ap At same
    at_last (c ∷ rest) ends same none at = absurd (into (components_of old) none at)
      where
        into : (front : List Component) → asked S (on (start here old) (front ++ c ∷ rest)) ≡ [] → answer S (on (start here old) (front ++ c ∷ rest)) ≡ At q → ⊥
        into [] none at = looks_on (start here old) c rest ends none at
        into (d ∷ front) none at = looks_on (start here old) d (front ++ c ∷ rest) (ends_before (d ∷ front) c rest ends) none at

    -- what stands before it
    before : (rest : List Component) → EndsInName (Normal n ∷ rest) → (x : Option Node) → LandsStill (at_name false here n rest inside on x)
    before rest ends None front looked all at = absurd (not_empty front q looked)
    before rest ends (Some (File bytes exec)) front looked all at = absurd (not_empty front q looked)
    before rest ends (Some (Dir names)) front looked all at = inside_still front looked all at
    before [] ends (Some (Link text)) front looked all at = absurd (not_empty front q looked)
    before (c ∷ rest) ends (Some (Link text)) front looked all at = on_still (start here text) (components_of text ++ c ∷ rest) (ends_before (components_of text) c rest ends) front looked all at

    name_still : (rest : List Component) → EndsInName (Normal n ∷ rest) → LandsStill (Look (here /ₚ n) (at_name false here n rest inside on))
    name_still rest ends [] looked all at =
        let same : here /ₚ n ≡ q = cc in
        let none : asked S (at_name false here n rest inside on (S (here /ₚ n))) ≡ [] = cc in
        let stood : S (here /ₚ n) ≡ Some (Link old) = ap S same ∙ was in
        let stands : T (here /ₚ n) ≡ Some (Link new) = ap T same ∙ is in
        ap (λ x. answer T (at_name false here n rest inside on x)) stands
        ∙ at_last rest ends same (ap (λ x. asked S (at_name false here n rest inside on x)) (sym stood) ∙ none) (ap (λ x. answer S (at_name false here n rest inside on x)) (sym stood) ∙ at)
    name_still rest ends (r ∷ front) looked all at =
        let first : here /ₚ n ≡ r = cc in
        let behind : asked S (at_name false here n rest inside on (S (here /ₚ n))) ≡ front ++ q ∷ [] = cc in
        let same : T (here /ₚ n) ≡ S (here /ₚ n) = others (here /ₚ n) (λ e. all.0 (sym first ∙ e)) in
        ap (λ x. answer T (at_name false here n rest inside on x)) same ∙ before rest ends (S (here /ₚ n)) front behind all.1 at

  walk_still : (on : Walk) → LooksAtName on → WalksStill on → (rest : List Component) (here : Path) → EndsInName rest → LandsStill (walk on false here rest)
  walk_still on looks_on on_still [] here ends front looked all at = absurd (not_empty front q looked)
  walk_still on looks_on on_still (CurDir ∷ rest) here ends front looked all at = walk_still on looks_on on_still rest here (ends_behind CurDir rest ends) front looked all at
  walk_still on looks_on on_still (ParentDir ∷ rest) here ends front looked all at = walk_still on looks_on on_still rest (parent here) (ends_behind ParentDir rest ends) front looked all at
  walk_still on looks_on on_still (Normal n ∷ rest) here ends front looked all at = by (is_full here) (walk_still on looks_on on_still rest (here /ₚ n) (ends_behind (Normal n) rest ends)) front looked all at
    where
      by : (b : Bool) → LandsStill (walk on false (here /ₚ n) rest) → LandsStill (cond b (Answer (missing here n rest)) (Look (here /ₚ n) (at_name false here n rest (walk on false (here /ₚ n) rest) on)))
      by true inside front looked all at = absurd (not_empty front q looked)
      by false inside front looked all at = name_still on looks_on on_still here n (walk on false (here /ₚ n) rest) inside rest ends front looked all at

  along_still : (links : ℕ) → WalksStill (along links false)
  along_still zero here rest ends front looked all at = absurd (not_empty front q looked)
  along_still (suc links) here rest ends front looked all at = walk_still (λ h r. along links false h r) (along_looks links false) (along_still links) rest here ends front looked all at

  pub lands_still : (p : Path) → LandsStill (resolve p false)
  unfolding resolve
  lands_still p front looked all at = walk_still (along 40 false) (along_looks 40 false) (along_still 40) (map Normal p) [] (path_ends p) front looked all at
