-- The rule of resolution leads where the rules one by one lead, and its landings are true of a whole filestore.
use Rattle.std.proofs.Common.{◌≡◌, ℕ, zero, suc, ◌-◌, ◌≤◌, Bool, true, false, cond, refl, ap, subst, sym, ◌∙◌, ◌⊎◌, inl, inr, List, [], ◌∷◌, ◌++◌, map, length, Option, Some, None, is_some, IsSome, arith, length-append, option_map}
use borrow.Author.Tests.{ltb-true}
use Rattle.std.proofs.Math.Seq.{take-append_seam}
use Rattle.fx_store.specs.declared.node.Node.{Node}
use Rattle.fx_store.specs.declared.node.Node.TheVariants.{File, Dir, Link}
use Rattle.fx_store.specs.declared.node.Landing.{Landing}
use Rattle.fx_store.specs.Names.{is_absolute}
use Rattle.fx_store.specs.Whole.{Store, IsWhole, lists}
use Rattle.fx_store.specs.Rule.{Ask, Answer, Look, answer}
use Rattle.fx_store.specs.Resolve.{Component, CurDir, ParentDir, Normal, components_of, start, ◌/ₚ◌, parent, names_only, absent, missing, goes_along, at_link, at_name, is_full, Walk, walk, along, resolve}
use Rattle.fx_store.specs.Landings.{Resolves, arrived, stays, rises, lacks, enters, ends_at_file, stops_at_file, ends_at_link, follows, tires, IsDir, IsTrueOf, LandsByTheRules, LandingsAreTrue}

-- a list is empty, or has a last element
ends : {A : Type 0} (xs : List A) → (xs ≡ []) ⊎ ((ys : List A) × (y : A) × (xs ≡ ys ++ y ∷ []))
ends [] = inl refl
ends (x ∷ xs) = elim (ends xs) [ inl e ↦ inr ([], x, ap (λ t. x ∷ t) e) | inr w ↦ inr (x ∷ w.0, w.1, ap (λ t. x ∷ t) w.2) ]

parent-snoc : (p : List (List ℕ)) (n : List ℕ) → parent (p ++ n ∷ []) ≡ p
parent-snoc p n = let e : length (p ++ n ∷ []) - 1 ≡ length p = omega (arith, length-append p (n ∷ [])) in rw e (take-append_seam p (n ∷ []))

-- nothing is below a path of 64 names
none_below_full : (S : Store) → IsWhole S → (here : List (List ℕ)) (n : List ℕ) → is_full here ≡ true → S (here /ₚ n) ≡ None
none_below_full S whole here n full = at (S (here /ₚ n)) refl
  where
    at : (x : Option Node) → S (here /ₚ n) ≡ x → x ≡ None
    at None e = refl
    at (Some node) e =
        let some : IsSome (S (here /ₚ n)) = ap is_some e in
        let room : length (here /ₚ n) ≤ 64 = (whole.paths (here /ₚ n) some).short in
        absurd (omega (arith, length-append here (n ∷ []), ltb-true 63 (length here) full))

not_full : (S : Store) → IsWhole S → (here : List (List ℕ)) (n : List ℕ) (node : Node) → S (here /ₚ n) ≡ Some node → is_full here ≡ false
not_full S whole here n node e = at (is_full here) refl
  where
    at : (b : Bool) → is_full here ≡ b → b ≡ false
    at false f = refl
    at true f = let none : S (here /ₚ n) ≡ None = none_below_full S whole here n f in cc

-- what lists a name is a directory
pub listing_is_dir : (x : Option Node) (n : List ℕ) → lists x n ≡ true → (names : List (List ℕ)) × (x ≡ Some (Dir names))
listing_is_dir None n e = cc
listing_is_dir (Some (File b exec)) n e = cc
listing_is_dir (Some (Dir names)) n e = (names, refl)
listing_is_dir (Some (Link t)) n e = cc

parent_is_dir : (S : Store) → IsWhole S → (here : List (List ℕ)) → IsDir S here → IsDir S (parent here)
parent_is_dir S whole here d = elim (ends here) [
  | inl e ↦ rw e whole.root
  | inr w ↦ above w.0 w.1 w.2
]
  where
    above : (q : List (List ℕ)) (n : List ℕ) → here ≡ q ++ n ∷ [] → IsDir S (parent here)
    above q n e =
        let some : is_some (S (q ++ n ∷ [])) ≡ true = ap is_some (subst (λ h. S h ≡ Some (Dir d.0)) e d.1) in
        rw (e, parent-snoc q n) (listing_is_dir (S q) n (sym (whole.listed q n) ∙ some))

start_is_dir : (S : Store) → IsWhole S → (here : List (List ℕ)) (text : List ℕ) → IsDir S here → IsDir S (start here text)
start_is_dir S whole here text d = at (is_absolute text)
  where
    at : (b : Bool) → IsDir S (cond b [] here)
    at true = whole.root
    at false = d

-- the walk comes to where the rules lead
module _ (S : Store) (follow : Bool) (whole : IsWhole S) where
  abbrev Leads : ℕ → Walk → Type 0
  Leads links on = (here : List (List ℕ)) (rest : List Component) → Resolves S follow links here rest (answer S (on here rest))

  -- the step along a link
  abbrev StepsAlong : ℕ → Walk → Type 0
  StepsAlong links on =
      (here : List (List ℕ)) (n : List ℕ) (rest : List Component) (text : List ℕ) → S (here /ₚ n) ≡ Some (Link text) → goes_along follow rest ≡ true
      → Resolves S follow links here (Normal n ∷ rest) (answer S (on (start here text) (components_of text ++ rest)))

  named_at : (links : ℕ) (on : Walk) → StepsAlong links on → (here : List (List ℕ)) (n : List ℕ) (rest : List Component) (inside : Ask Landing) → Resolves S follow links (here /ₚ n) rest (answer S inside)
      → (x : Option Node) → S (here /ₚ n) ≡ x → Resolves S follow links here (Normal n ∷ rest) (answer S (at_name follow here n rest inside on x))
  named_at links on step here n rest inside h None e = lacks e
  named_at links on step here n [] inside h (Some (File b exec)) e = ends_at_file e
  named_at links on step here n (c ∷ rest) inside h (Some (File b exec)) e = stops_at_file e
  named_at links on step here n rest inside h (Some (Dir names)) e = enters e h
  named_at links on step here n rest inside h (Some (Link text)) e = at (goes_along follow rest) refl
    where
      at : (b : Bool) → goes_along follow rest ≡ b → Resolves S follow links here (Normal n ∷ rest) (answer S (at_link b (here /ₚ n) (on (start here text) (components_of text ++ rest))))
      at false g = ends_at_link e g
      at true g = step here n rest text e g

  walk-leads : (links : ℕ) (on : Walk) → StepsAlong links on → Leads links (walk on follow)
  walk-leads links on step here [] = arrived
  walk-leads links on step here (CurDir ∷ rest) = stays (walk-leads links on step here rest)
  walk-leads links on step here (ParentDir ∷ rest) = rises (walk-leads links on step (parent here) rest)
  walk-leads links on step here (Normal n ∷ rest) = at (is_full here) refl (walk-leads links on step (here /ₚ n) rest)
    where
      at : (b : Bool) → is_full here ≡ b → Resolves S follow links (here /ₚ n) rest (answer S (walk on follow (here /ₚ n) rest))
          → Resolves S follow links here (Normal n ∷ rest) (answer S (cond b (Answer (missing here n rest)) (Look (here /ₚ n) (at_name follow here n rest (walk on follow (here /ₚ n) rest) on))))
      at true f h = lacks (none_below_full S whole here n f)
      at false f h = named_at links on step here n rest _ h (S (here /ₚ n)) refl

  steps-along : (links : ℕ) → StepsAlong links (along links follow)
  steps-along zero here n rest text e g = tires e g
  steps-along (suc links) here n rest text e g = follows e g (walk-leads links (along links follow) (steps-along links) _ _)

  -- the rules lead to one landing alone
  same_named : (links : ℕ) (here : List (List ℕ)) (n : List ℕ) (rest : List Component) (node : Node) → S (here /ₚ n) ≡ Some node
      → answer S (walk (along links follow) follow here (Normal n ∷ rest)) ≡ answer S (at_name follow here n rest (walk (along links follow) follow (here /ₚ n) rest) (along links follow) (Some node))
  same_named links here n rest node e = rw (not_full S whole here n node e) (ap (λ x. answer S (at_name follow here n rest (walk (along links follow) follow (here /ₚ n) rest) (along links follow) x)) e)

  same_missing : (links : ℕ) (here : List (List ℕ)) (n : List ℕ) (rest : List Component) → S (here /ₚ n) ≡ None → answer S (walk (along links follow) follow here (Normal n ∷ rest)) ≡ missing here n rest
  same_missing links here n rest e = at (is_full here)
    where
      at : (b : Bool) → answer S (cond b (Answer (missing here n rest)) (Look (here /ₚ n) (at_name follow here n rest (walk (along links follow) follow (here /ₚ n) rest) (along links follow)))) ≡ missing here n rest
      at true = refl
      at false = ap (λ x. answer S (at_name follow here n rest (walk (along links follow) follow (here /ₚ n) rest) (along links follow) x)) e

  only : {links : ℕ} {here : List (List ℕ)} {rest : List Component} {l : Landing} → Resolves S follow links here rest l → answer S (walk (along links follow) follow here rest) ≡ l
  only arrived = refl
  only (stays r) = only r
  only (rises r) = only r
  only (lacks {links} {here} {n} {rest} e) = same_missing links here n rest e
  only (enters {links} {here} {n} {rest} {names} e r) = same_named links here n rest (Dir names) e ∙ only r
  only (ends_at_file {links} {here} {n} {bytes} {exec} e) = same_named links here n [] (File bytes exec) e
  only (stops_at_file {links} {here} {n} {bytes} {exec} {c} {rest} e) = same_named links here n (c ∷ rest) (File bytes exec) e
  only (ends_at_link {links} {here} {n} {text} {rest} e g) = same_named links here n rest (Link text) e ∙ rw g
  only (follows {links} {here} {n} {text} {rest} e g r) = same_named (suc links) here n rest (Link text) e ∙ rw g (only r)
  only (tires {here} {n} {text} {rest} e g) = same_named zero here n rest (Link text) e ∙ rw g

  true_of : {links : ℕ} {here : List (List ℕ)} {rest : List Component} {l : Landing} → Resolves S follow links here rest l → IsDir S here → IsTrueOf S l
  true_of arrived d = ap is_some d.1
  true_of (stays r) d = true_of r d
  true_of (rises {here = here} r) d = true_of r (parent_is_dir S whole here d)
  true_of (lacks {here = here} {n} {rest} e) d = at (names_only rest)
    where
      at : (x : Option (List (List ℕ))) → IsTrueOf S (absent here (option_map (λ ns. n ∷ ns) x))
      at None = ap is_some d.1
      at (Some ns) = (d, e)
  true_of (enters {names = names} e r) d = true_of r (names, e)
  true_of (ends_at_file e) d = ap is_some e
  true_of (stops_at_file e) d = ap is_some e
  true_of (ends_at_link e g) d = ap is_some e
  true_of (follows {here = here} {text = text} e g r) d = true_of r (start_is_dir S whole here text d)
  true_of (tires e g) d = tt

pub lands_by_the_rules : LandsByTheRules
unfolding resolve
lands_by_the_rules S whole p follow l = (λ r. only S follow whole r, λ e. subst (λ l. Resolves S follow 40 [] (map Normal p) l) e (walk-leads S follow whole 40 (along 40 follow) (steps-along S follow whole 40) [] (map Normal p)))

pub landings_are_true : LandingsAreTrue
unfolding resolve
landings_are_true S whole p follow = true_of S follow whole (walk-leads S follow whole 40 (along 40 follow) (steps-along S follow whole 40) [] (map Normal p)) whole.root
