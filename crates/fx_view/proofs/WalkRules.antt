-- What is left of the rule of resolution after each step of a walk.
use Rattle.std.proofs.Common.{◌≡◌, ℕ, suc, ◌+◌, Bool, true, false, cond, List, [], ◌∷◌, ◌++◌, map, length, Option, Some, None, Ok, Err, refl, sym, ap, ◌∙◌, arith, length-append, nat_lt}
use Rattle.std.proofs.lemmas.Bool.Decides.{nat_tests}
use Rattle.fx_store.specs.declared.node.Node.{Node}
use Rattle.fx_store.specs.declared.node.Node.TheVariants.{File, Dir, Link}
use Rattle.fx_store.specs.declared.node.Landing.{Landing}
use Rattle.fx_store.specs.declared.node.Landing.TheVariants.{At, TooManyLinks}
use Rattle.fx_store.specs.declared.name.PathFault.TheVariants.{TooDeep}
use Rattle.fx_store.specs.Faults.{joined}
use Rattle.fx_store.specs.Rule.{Answer, Look}
use Rattle.fx_store.specs.Resolve as rule
use Rattle.fx_store.specs.Resolve.{◌/ₚ◌, is_full, walk, along, at_name, at_link, goes_along, start, components_of, missing, resolve}
use Rattle.fx_view.specs.declared.walk.Walk.{Walk}
use Rattle.fx_view.specs.Walks.{rule_of, rule_named, rule_at, rule_linked}

abbrev Path : Type 0
Path = List (List ℕ)

-- ---- a path with one name more

joined-full : (here : Path) (n : List ℕ) → joined here n ≡ cond (is_full here) (Err TooDeep) (Ok (here /ₚ n))
joined-full here n =
    let same : nat_lt 64 (length (here ++ n ∷ [])) ≡ nat_lt 63 (length here) = rw (length-append here (n ∷ [])) (grind (arith, nat_tests)) in
    ap (λ b. cond b (Err TooDeep) (Ok (here /ₚ n))) same

walk_looks : (on : rule.Walk) (follow : Bool) (here : Path) (n : List ℕ) (rest : List rule.Component) (path : Path) → joined here n ≡ Ok path
    → walk on follow here (rule.Normal n ∷ rest) ≡ Look path (at_name follow here n rest (walk on follow (here /ₚ n) rest) on)
walk_looks on follow here n rest path e = at (is_full here) refl (sym (joined-full here n) ∙ e)
  where
    at : (b : Bool) → is_full here ≡ b → cond b (Err TooDeep) (Ok (here /ₚ n)) ≡ Ok path
        → cond b (Answer (missing here n rest)) (Look (here /ₚ n) (at_name follow here n rest (walk on follow (here /ₚ n) rest) on)) ≡ Look path (at_name follow here n rest (walk on follow (here /ₚ n) rest) on)
    at true f e = cc
    at false f e = let same : here /ₚ n ≡ path = cc in ap (λ p. Look p (at_name follow here n rest (walk on follow (here /ₚ n) rest) on)) same

walk_full : (on : rule.Walk) (follow : Bool) (here : Path) (n : List ℕ) (rest : List rule.Component) → joined here n ≡ Err TooDeep → walk on follow here (rule.Normal n ∷ rest) ≡ Answer (missing here n rest)
walk_full on follow here n rest e = at (is_full here) (sym (joined-full here n) ∙ e)
  where
    at : (b : Bool) → cond b (Err TooDeep) (Ok (here /ₚ n)) ≡ Err TooDeep
        → cond b (Answer (missing here n rest)) (Look (here /ₚ n) (at_name follow here n rest (walk on follow (here /ₚ n) rest) on)) ≡ Answer (missing here n rest)
    at true e = refl
    at false e = cc

-- ---- from the root

pub rule_of-start : (w : Walk) (path : Path) (follow : Bool) → w.here ≡ [] → w.rest ≡ map rule.Normal path → w.links ≡ 40 → w.follow ≡ follow → rule_of w ≡ resolve path follow
unfolding rule_of resolve
rule_of-start w path follow here rest links is =
    ap (λ h. walk (along w.links w.follow) w.follow h w.rest) here
    ∙ (ap (λ r. walk (along w.links w.follow) w.follow [] r) rest
    ∙ (ap (λ k. walk (along k w.follow) w.follow [] (map rule.Normal path)) links ∙ ap (λ f. walk (along 40 f) f [] (map rule.Normal path)) is))

-- ---- at the next component

module _ (w v : Walk) (links : w.links ≡ v.links) (follow : w.follow ≡ v.follow) where
  same_rule : (here : Path) (rest : List rule.Component) → v.here ≡ here → v.rest ≡ rest → walk (along w.links w.follow) w.follow here rest ≡ rule_of v
  unfolding rule_of
  same_rule here rest h r =
      ap (λ k. walk (along k w.follow) w.follow here rest) links
      ∙ (ap (λ f. walk (along v.links f) f here rest) follow
      ∙ (ap (λ h. walk (along v.links v.follow) v.follow h rest) (sym h) ∙ ap (λ r. walk (along v.links v.follow) v.follow v.here r) (sym r)))

  pub rule_of-stays : w.rest ≡ rule.CurDir ∷ v.rest → v.here ≡ w.here → rule_of w ≡ rule_of v
  unfolding rule_of
  rule_of-stays e h = ap (walk (along w.links w.follow) w.follow w.here) e ∙ same_rule w.here v.rest h refl

  pub rule_of-rises : w.rest ≡ rule.ParentDir ∷ v.rest → v.here ≡ rule.parent w.here → rule_of w ≡ rule_of v
  unfolding rule_of
  rule_of-rises e h = ap (walk (along w.links w.follow) w.follow w.here) e ∙ same_rule (rule.parent w.here) v.rest h refl

  pub rule_of-named : (n : List ℕ) → w.rest ≡ rule.Normal n ∷ v.rest → v.here ≡ w.here → rule_of w ≡ rule_named v n
  unfolding rule_of rule_named
  rule_of-named n e h =
      ap (walk (along w.links w.follow) w.follow w.here) e
      ∙ (ap (λ k. walk (along k w.follow) w.follow w.here (rule.Normal n ∷ v.rest)) links
      ∙ (ap (λ f. walk (along v.links f) f w.here (rule.Normal n ∷ v.rest)) follow
      ∙ ap (λ h. walk (along v.links v.follow) v.follow h (rule.Normal n ∷ v.rest)) (sym h)))

pub rule_of-ends : (w : Walk) (here : Path) → w.rest ≡ [] → here ≡ w.here → rule_of w ≡ Answer (At here)
unfolding rule_of
rule_of-ends w here e h = ap (walk (along w.links w.follow) w.follow w.here) e ∙ ap (λ h. Answer (At h)) (sym h)

pub rule_named-looks : (w : Walk) (n : List ℕ) (path : Path) → joined w.here n ≡ Ok path → rule_named w n ≡ Look path (rule_at w n)
unfolding rule_named rule_at
rule_named-looks w n path e = walk_looks (along w.links w.follow) w.follow w.here n w.rest path e

pub rule_named-full : (w : Walk) (n : List ℕ) (l : Landing) → joined w.here n ≡ Err TooDeep → l ≡ missing w.here n w.rest → rule_named w n ≡ Answer l
unfolding rule_named
rule_named-full w n l e is = walk_full (along w.links w.follow) w.follow w.here n w.rest e ∙ ap (λ l. Answer l) (sym is)

-- ---- after a look

pub rule_at-none : (w : Walk) (n : List ℕ) (o : Option Node) (l : Landing) → o ≡ None → l ≡ missing w.here n w.rest → rule_at w n o ≡ Answer l
unfolding rule_at
rule_at-none w n o l e is = ap (at_name w.follow w.here n w.rest (walk (along w.links w.follow) w.follow (w.here /ₚ n) w.rest) (along w.links w.follow)) e ∙ ap (λ l. Answer l) (sym is)

module _ (w : Walk) (n : List ℕ) (path : Path) (is : path ≡ w.here /ₚ n) (o : Option Node) where
  pub rule_at-file : (bytes : List ℕ) (exec : Bool) (l : Landing) → o ≡ Some (File bytes exec) → l ≡ rule.at_file path w.rest → rule_at w n o ≡ Answer l
  unfolding rule_at
  rule_at-file bytes exec l e lands =
      ap (at_name w.follow w.here n w.rest (walk (along w.links w.follow) w.follow (w.here /ₚ n) w.rest) (along w.links w.follow)) e
      ∙ (ap (λ p. Answer (rule.at_file p w.rest)) (sym is) ∙ ap (λ l. Answer l) (sym lands))

  pub rule_at-dir : (names : List (List ℕ)) (v : Walk) → o ≡ Some (Dir names) → v.here ≡ path → v.rest ≡ w.rest → w.links ≡ v.links → w.follow ≡ v.follow → rule_at w n o ≡ rule_of v
  unfolding rule_at
  rule_at-dir names v e here rest links follow =
      ap (at_name w.follow w.here n w.rest (walk (along w.links w.follow) w.follow (w.here /ₚ n) w.rest) (along w.links w.follow)) e
      ∙ same_rule w v links follow (w.here /ₚ n) w.rest (here ∙ is) rest

  pub rule_at-link : (text : List ℕ) → o ≡ Some (Link text) → rule_at w n o ≡ rule_linked w path text
  unfolding rule_at rule_linked
  rule_at-link text e =
      ap (at_name w.follow w.here n w.rest (walk (along w.links w.follow) w.follow (w.here /ₚ n) w.rest) (along w.links w.follow)) e
      ∙ ap (λ p. at_link (goes_along w.follow w.rest) p (along w.links w.follow (start w.here text) (components_of text ++ w.rest))) (sym is)

-- ---- at a link

module _ (w : Walk) (path : Path) (text : List ℕ) where
  pub rule_linked-lands : goes_along w.follow w.rest ≡ false → rule_linked w path text ≡ Answer (At path)
  unfolding rule_linked
  rule_linked-lands e = ap (λ b. at_link b path (along w.links w.follow (start w.here text) (components_of text ++ w.rest))) e

  pub rule_linked-tires : goes_along w.follow w.rest ≡ true → w.links ≡ 0 → rule_linked w path text ≡ Answer TooManyLinks
  unfolding rule_linked
  rule_linked-tires e z =
      ap (λ b. at_link b path (along w.links w.follow (start w.here text) (components_of text ++ w.rest))) e
      ∙ ap (λ k. along k w.follow (start w.here text) (components_of text ++ w.rest)) z

  pub rule_linked-goes : (v : Walk) → goes_along w.follow w.rest ≡ true → w.links ≡ suc v.links → w.follow ≡ v.follow → v.here ≡ start w.here text → v.rest ≡ components_of text ++ w.rest
      → rule_linked w path text ≡ rule_of v
  unfolding rule_linked rule_of
  rule_linked-goes v e links follow here rest =
      ap (λ b. at_link b path (along w.links w.follow (start w.here text) (components_of text ++ w.rest))) e
      ∙ (ap (λ k. along k w.follow (start w.here text) (components_of text ++ w.rest)) links
      ∙ (ap (λ f. along (suc v.links) f (start w.here text) (components_of text ++ w.rest)) follow
      ∙ (ap (λ h. along (suc v.links) v.follow h (components_of text ++ w.rest)) (sym here) ∙ ap (λ r. along (suc v.links) v.follow v.here r) (sym rest))))
