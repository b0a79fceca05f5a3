-- Where a node is made at missing names, its path lands.
use Rattle.std.proofs.Common.{◌≡◌, ◌≢◌, ℕ, Bool, true, false, refl, ap, sym, subst, ◌∙◌, List, [], ◌∷◌, ◌++◌, map, Option, Some, None, IsSome, is_some, option_map, append_assoc}
use Rattle.std.proofs.lemmas.Bool.{true≢false, false≢true}
use Rattle.std.specs.Ordering.{eq_by_cmp}
use Rattle.fx_base.proofs.Names.{path_itself}
use Rattle.fx_store.specs.declared.node.Node.{Node}
use Rattle.fx_store.specs.declared.node.Node.TheVariants.{File, Dir, Link}
use Rattle.fx_store.specs.declared.node.Landing.{Landing}
use Rattle.fx_store.specs.declared.node.Landing.TheVariants.{At, Absent}
use Rattle.fx_store.specs.Landings.{Resolves, arrived, stays, rises, lacks, enters, ends_at_file, stops_at_file, ends_at_link, follows, tires, IsDir}
use Rattle.fx_store.specs.Names.{path_cmp}
use Rattle.fx_store.specs.Orders.{path_eq_same}
use Rattle.fx_store.specs.Resolve.{Component, CurDir, ParentDir, Normal, ◌/ₚ◌, names_only, absent, missing, lands}
use Rattle.fx_store.specs.Whole.{Store, IsWhole}
use Rattle.fx_store.proofs.Landings.{lands_by_the_rules, listing_is_dir}
use Rattle.fx_expr.specs.Sets.{with_text}
use Rattle.fx_spec.proofs.EditsWhole.{nothing_below}
use Rattle.fx_laws.specs.Edited.{IsWithin, HasNodeMade}
use Rattle.fx_laws.proofs.Among.{Path}

-- ---- names that are missing

only_names : (rest : List Component) (ns : Path) → names_only rest ≡ Some ns → rest ≡ map Normal ns
only_names [] ns e = let none : [] ≡ ns = cc in ap (map Normal) none
only_names (CurDir ∷ rest) ns e = cc
only_names (ParentDir ∷ rest) ns e = cc
only_names (Normal n ∷ rest) ns e = by (names_only rest) refl e (only_names rest)
  where
    by : (o : Option Path) → names_only rest ≡ o → option_map (λ ns. n ∷ ns) o ≡ Some ns → ((ms : Path) → names_only rest ≡ Some ms → rest ≡ map Normal ms) → Normal n ∷ rest ≡ map Normal ns
    by None is f more = cc
    by (Some ms) is f more = let same : (n ∷ ms) ≡ ns = cc in ap (λ r. Normal n ∷ r) (more ms is) ∙ ap (map Normal) same

missing_is : (h here : Path) (m n : List ℕ) (rest : List Component) (names : Path) → missing h m rest ≡ Absent here (n ∷ names) → (h ≡ here) × (Normal m ∷ rest ≡ Normal n ∷ map Normal names)
missing_is h here m n rest names e = by (names_only rest) refl e
  where
    by : (o : Option Path) → names_only rest ≡ o → absent h (option_map (λ ns. m ∷ ns) o) ≡ Absent here (n ∷ names) → (h ≡ here) × (Normal m ∷ rest ≡ Normal n ∷ map Normal names)
    by None is f = cc
    by (Some ns) is f =
        let at : h ≡ here = cc in
        let first : m ≡ n = cc in
        let others : ns ≡ names = cc in
        let behind : rest ≡ map Normal names = only_names rest ns is ∙ ap (map Normal) others in
        (at, λ i. Normal (first i) ∷ behind i)

-- ---- a path that lands at missing names lands elsewhere where these lead on

module _ (S T : Store) (follow : Bool) (here : Path) (n : List ℕ) (names q : Path) (dirs : (p : Path) → IsDir S p → IsDir T p) (files : (p : Path) (bytes : List ℕ) (exec : Bool) → S p ≡ Some (File bytes exec) → T p ≡ Some (File bytes exec))
    (link : (p : Path) (text : List ℕ) → S p ≡ Some (Link text) → T p ≡ Some (Link text)) (below : (links : ℕ) → Resolves T follow links here (Normal n ∷ map Normal names) (At q)) where
  leads : {links : ℕ} {h : Path} {rest : List Component} {l : Landing} → Resolves S follow links h rest l → l ≡ Absent here (n ∷ names) → Resolves T follow links h rest (At q)
  leads arrived e = cc
  leads (stays r) e = stays (leads r e)
  leads (rises r) e = rises (leads r e)
  leads (lacks {links = links} {here = h} {n = m} {rest = rest} none) e =
      let same = missing_is h here m n rest names e in
      subst (λ rest. Resolves T follow links h rest (At q)) (sym same.1) (subst (λ h. Resolves T follow links h (Normal n ∷ map Normal names) (At q)) (sym same.0) (below links))
  leads (enters {here = h} {n = m} {names = ns} is r) e = enters (dirs (h /ₚ m) (ns, is)).1 (leads r e)
  leads (ends_at_file is) e = cc
  leads (stops_at_file is) e = cc
  leads (ends_at_link is g) e = cc
  leads (follows {here = h} {n = m} {text = text} is g r) e = follows (link (h /ₚ m) text is) g (leads r e)
  leads (tires is g) e = cc

-- ---- names that lead to a node

module _ (T : Store) (whole : IsWhole T) (follow : Bool) where
  above_dir : (p : Path) (m : List ℕ) (rest : Path) → IsSome (T (p ++ m ∷ rest)) → IsDir T p
  above_dir p m rest some = by (T (p /ₚ m)) refl
    where
      by : (o : Option Node) → T (p /ₚ m) ≡ o → IsDir T p
      by None e =
          let none : T (p ++ m ∷ rest) ≡ None = ap T (sym (append_assoc p (m ∷ []) rest)) ∙ nothing_below T whole rest (p /ₚ m) e in
          absurd (false≢true (sym (ap is_some none) ∙ some))
      by (Some x) e = listing_is_dir (T p) m (sym (whole.listed p m) ∙ ap is_some e)

  down : (links : ℕ) (names here : Path) (n : List ℕ) (node : Node) → T (here ++ n ∷ names) ≡ Some node → ((text : List ℕ) → node ≡ Link text → follow ≡ false) → Resolves T follow links here (Normal n ∷ map Normal names) (At (here ++ n ∷ names))
  down links [] here n (File bytes exec) is ends = ends_at_file is
  down links [] here n (Dir ns) is ends = enters is arrived
  down links [] here n (Link text) is ends = ends_at_link is (ends text refl)
  down links (m ∷ names) here n node is ends =
      let same : (here /ₚ n) ++ m ∷ names ≡ here ++ n ∷ m ∷ names = append_assoc here (n ∷ []) (m ∷ names) in
      let there : T ((here /ₚ n) ++ m ∷ names) ≡ Some node = ap T same ∙ is in
      enters (above_dir (here /ₚ n) m names (ap is_some there)).1 (subst (λ q. Resolves T follow links (here /ₚ n) (Normal m ∷ map Normal names) (At q)) same (down links names (here /ₚ n) m node there ends))

-- ---- a node that is made

module _ (S T : Store) (whole : IsWhole S) (kept : IsWhole T) (here : Path) (n : List ℕ) (names : Path) (node : Node) (made : HasNodeMade S T here n names node) (old : Path) (dir : S here ≡ Some (Dir old)) (none : S (here /ₚ n) ≡ None) where
  pub still : (p : Path) (x : Node) → S p ≡ Some x → p ≢ here → T p ≡ Some x
  still p x is apart = made.others p apart not_within ∙ is
    where
      not_within : IsWithin (here /ₚ n) p → ⊥
      not_within w = let gone : S p ≡ None = ap S w.1 ∙ nothing_below S whole w.0 (here /ₚ n) none in cc

  still_dir : (p : Path) → IsDir S p → IsDir T p
  still_dir p d = by (eq_by_cmp path_cmp p here) refl
    where
      by : (b : Bool) → eq_by_cmp path_cmp p here ≡ b → IsDir T p
      by true e = (with_text n old, ap T (path_eq_same p here e) ∙ made.above old dir)
      by false e = (d.0, still p (Dir d.0) d.1 (λ same. true≢false (sym (path_itself here) ∙ (ap (λ r. eq_by_cmp path_cmp r here) (sym same) ∙ e))))

  still_file : (p : Path) (bytes : List ℕ) (exec : Bool) → S p ≡ Some (File bytes exec) → T p ≡ Some (File bytes exec)
  still_file p bytes exec is = still p (File bytes exec) is (λ same. wrong (sym is ∙ (ap S same ∙ dir)))
    where
      wrong : ◌≡◌ {A = Option Node} (Some (File bytes exec)) (Some (Dir old)) → ⊥
      wrong e = cc

  still_link : (p : Path) (text : List ℕ) → S p ≡ Some (Link text) → T p ≡ Some (Link text)
  still_link p text is = still p (Link text) is (λ same. wrong (sym is ∙ (ap S same ∙ dir)))
    where
      wrong : ◌≡◌ {A = Option Node} (Some (Link text)) (Some (Dir old)) → ⊥
      wrong e = cc

  pub made_lands : (follow : Bool) → ((text : List ℕ) → node ≡ Link text → follow ≡ false) → (p : Path) → lands S p follow ≡ Absent here (n ∷ names) → lands T p follow ≡ At (here ++ n ∷ names)
  made_lands follow ends p e =
      (lands_by_the_rules T kept p follow (At (here ++ n ∷ names))).0 (
      leads S T follow here n names (here ++ n ∷ names) still_dir still_file still_link (λ links. down T kept follow links names here n node made.there ends) ((lands_by_the_rules S whole p follow (Absent here (n ∷ names))).1 e) refl)
