-- The nodes that an edit makes at missing names leave a whole filestore whole.
use Rattle.std.proofs.Common.{◌≡◌, ℕ, suc, ◌+◌, ◌≤◌, ◌<◌, Bool, true, false, ◌||◌, refl, ap, subst, sym, ◌∙◌, ◌⊎◌, List, [], ◌∷◌, ◌++◌, length, Some, None, is_some, Ok, arith, append_assoc}
use Rattle.std.proofs.lemmas.List.Elements.{All-tail, All-head}
use Rattle.std.proofs.lemmas.Map.Views.{All-from_any}
use Rattle.std.specs.Cmp.{eq_by_cmp_equiv}
use Rattle.std.specs.List.{All}
use Rattle.std.specs.Ordering.{eq_by_cmp}
use Rattle.fx_base.proofs.Names.{name_is}
use Rattle.fx_store.specs.declared.node.Node.{Node}
use Rattle.fx_store.specs.declared.node.Node.TheVariants.{File, Dir, Link}
use Rattle.fx_store.specs.declared.changes.Change.{Change}
use Rattle.fx_store.specs.Changes.{changed_paths}
use Rattle.fx_store.specs.Names.{name_cmp, IsName, IsNameSet, IsContent, IsLinkText, has}
use Rattle.fx_store.specs.Orders.{name_total}
use Rattle.fx_store.specs.Relisted.{IsLeaf, CanRelist}
use Rattle.fx_store.specs.Resolve.{◌/ₚ◌}
use Rattle.fx_store.specs.Rule.{Answer, answer, look_all}
use Rattle.fx_store.specs.Whole.{Store, IsWhole, lists, update, over}
use Rattle.fx_store.proofs.Relisted.{has-all}
use Rattle.fx_store.proofs.PathLists.{length_below}
use Rattle.fx_expr.specs.Sets.{IsAscending, set_of, with_text}
use Rattle.fx_text.proofs.Canon.{has_set, ascending_set, same_sets}
use Rattle.fx_spec.specs.Edit.{set_to, names_of, children, made, make}
use Rattle.fx_spec.proofs.EditsWhole.{update_here, overwritten, changes_of, Brings, IsWhole-brought, kept_target, made_target, made_away}
use Rattle.fx_spec.proofs.EditsClear.{has-set_of}
use Rattle.fx_spec.proofs.EditsKeep.{same_ok, empty_file, empty_dir, dir_node, one_has, one_lacks}

-- a set of names with one more
module _ (n : List ℕ) (old : List (List ℕ)) (set : IsNameSet old) where
  with-is : with_text n old ≡ set_of (n ∷ old)
  with-is = ap (with_text n) (sym (same_sets (set_of old) old (ascending_set old) set.ascending (λ z. has_set z old)))

  pub has-with : (m : List ℕ) → has (with_text n old) m ≡ (eq_by_cmp name_cmp m n || has old m)
  has-with m = ap (λ l. has l m) with-is ∙ has-set_of (n ∷ old) m

  pub IsNameSet-with : IsName n → IsNameSet (with_text n old)
  IsNameSet-with name = record {
    names = All-from_any (eq_by_cmp_equiv name_total) IsName (with_text n old) (λ m h. at m (eq_by_cmp name_cmp m n) refl (sym (has-with m) ∙ h));
    ascending = subst IsAscending (sym with-is) (ascending_set (n ∷ old));
  }
    where
      at : (m : List ℕ) (b : Bool) → eq_by_cmp name_cmp m n ≡ b → (b || has old m) ≡ true → IsName m
      at m true e h = subst IsName (sym (name_is m n e)) name
      at m false e h = has-all IsName old m set.names h

-- a node that lists nothing, at a name that the directory lacks
module _ (S : Store) (here : List (List ℕ)) (n : List ℕ) (old : List (List ℕ)) (node : Node) (whole : IsWhole S) (dir : S here ≡ Some (Dir old)) (lacks : has old n ≡ false) (name : IsName n) (short : length here < 64) (leaf : (path : List (List ℕ)) → IsLeaf path node) where
  set : IsNameSet old
  set = (dir_node S whole here old dir).0

  adding : CanRelist S here old (with_text n old) (λ m. node)
  adding = record {
    whole = whole;
    dir = dir;
    names = IsNameSet-with n old set name;
    room = λ full. absurd (omega (arith, full, short));
    leaves = λ m h. leaf (here /ₚ m);
  }

  added-brings : Brings S here old (with_text n old) (λ m. node) adding (λ m. set_to (here /ₚ m) node ∷ []) (n ∷ [])
  added-brings = record {
    own = λ m rest U h ok. own m rest U (one_has n m h) ok;
    other = λ m r U away. made_away S here old (with_text n old) (λ m. node) adding m r U away;
    kept = λ m rest h. kept_target S here old (with_text n old) (λ m. node) adding m rest (has-with n old set m ∙ ap (λ b. b || has old m) (one_lacks n m h));
  }
    where
      own : (m : List ℕ) (rest : List (List ℕ)) (U : Store) → m ≡ n → (U (here ++ m ∷ rest) ≡ S (here ++ m ∷ rest)) ⊎ (U (here ++ m ∷ rest) ≡ Rattle.fx_store.specs.Relisted.relist_at S old (with_text n old) (λ m. node) (here ++ m ∷ rest) (Some (m ∷ rest)))
          → over U (set_to (here /ₚ m) node ∷ []) (here ++ m ∷ rest) ≡ Rattle.fx_store.specs.Relisted.relist_at S old (with_text n old) (λ m. node) (here ++ m ∷ rest) (Some (m ∷ rest))
      own m rest U same ok =
          made_target S here old (with_text n old) (λ m. node) adding m rest U
          (has-with n old set m ∙ ap (λ b. b || has old m) (subst (λ k. eq_by_cmp name_cmp m k ≡ true) same ((eq_by_cmp_equiv name_total).refl m)))
          (subst (λ k. has old k ≡ false) (sym same) lacks) ok

  pub IsWhole-added : IsWhole (over S (set_to here (Dir (with_text n old)) ∷ set_to (here /ₚ n) node ∷ []))
  IsWhole-added = IsWhole-brought S here old (with_text n old) (λ m. node) adding (λ m. set_to (here /ₚ m) node ∷ []) (n ∷ []) added-brings

-- the files of a new directory
children-are : (q : List (List ℕ)) (names : List (List ℕ)) → changes_of (λ n. set_to (q /ₚ n) (File [] false) ∷ []) names ≡ children q (Dir names)
children-are q [] = refl
children-are q (n ∷ names) = ap (λ cs. set_to (q /ₚ n) (File [] false) ∷ cs) (children-are q names)

module _ (S : Store) (q names : List (List ℕ)) (whole : IsWhole S) (dir : S q ≡ Some (Dir [])) (set : IsNameSet names) (room : length q ≡ 64 → names ≡ []) where
  filling : CanRelist S q [] names (λ n. File [] false)
  filling = record { whole = whole; dir = dir; names = set; room = room; leaves = λ n h. empty_file (q /ₚ n) }

  filled-brings : Brings S q [] names (λ n. File [] false) filling (λ n. set_to (q /ₚ n) (File [] false) ∷ []) names
  filled-brings = record {
    own = λ n rest U h ok. made_target S q [] names (λ n. File [] false) filling n rest U h refl ok;
    other = λ n r U away. made_away S q [] names (λ n. File [] false) filling n r U away;
    kept = λ n rest h. kept_target S q [] names (λ n. File [] false) filling n rest h;
  }

  pub IsWhole-filled : IsWhole (over S (set_to q (Dir names) ∷ children q (Dir names)))
  IsWhole-filled = subst (λ cs. IsWhole (over S (set_to q (Dir names) ∷ cs))) (children-are q names) (IsWhole-brought S q [] names (λ n. File [] false) filling (λ n. set_to (q /ₚ n) (File [] false) ∷ []) names filled-brings)

-- a node that can be made at a path
abbrev pub CanMake : List (List ℕ) → Node → Type 0
CanMake q (File bytes exec) = IsContent bytes
CanMake q (Dir names) = IsNameSet names × (length q ≡ 64 → names ≡ [])
CanMake q (Link text) = IsLinkText text

pub made_keeps : (names : List (List ℕ)) (S : Store) (here : List (List ℕ)) (n : List ℕ) (old : List (List ℕ)) (node : Node) → IsWhole S → S here ≡ Some (Dir old) → has old n ≡ false → IsName n → All IsName names → length here + suc (length names) ≤ 64
    → CanMake (here ++ n ∷ names) node → IsWhole (over S (set_to here (Dir (with_text n old)) ∷ made here n names node))
made_keeps [] S here n old (File bytes exec) whole dir lacks name names short can =
    IsWhole-added S here n old (File bytes exec) whole dir lacks name (omega (arith, short)) (λ path. record { childless = λ m. refl; limits = can })
made_keeps [] S here n old (Link text) whole dir lacks name names short can =
    IsWhole-added S here n old (Link text) whole dir lacks name (omega (arith, short)) (λ path. record { childless = λ m. refl; limits = can })
made_keeps [] S here n old (Dir inside) whole dir lacks name names short can =
    let first : Store = over S (set_to here (Dir (with_text n old)) ∷ set_to (here /ₚ n) (Dir []) ∷ []) in
    let first-whole : IsWhole (over S (set_to here (Dir (with_text n old)) ∷ set_to (here /ₚ n) (Dir []) ∷ [])) = IsWhole-added S here n old (Dir []) whole dir lacks name (omega (arith, short)) (λ path. empty_dir path) in
    let there : over S (set_to here (Dir (with_text n old)) ∷ set_to (here /ₚ n) (Dir []) ∷ []) (here /ₚ n) ≡ Some (Dir []) = update_here (update S (set_to here (Dir (with_text n old)))) (set_to (here /ₚ n) (Dir [])) (here /ₚ n) refl in
    subst IsWhole (overwritten (update S (set_to here (Dir (with_text n old)))) (here /ₚ n) (Some (Dir [])) (Some (Dir inside)) (children (here /ₚ n) (Dir inside))) (
    IsWhole-filled (over S (set_to here (Dir (with_text n old)) ∷ set_to (here /ₚ n) (Dir []) ∷ [])) (here /ₚ n) inside first-whole there can.0 can.1)
made_keeps (m ∷ names) S here n old node whole dir lacks name more short can =
    let first-whole : IsWhole (over S (set_to here (Dir (with_text n old)) ∷ set_to (here /ₚ n) (Dir []) ∷ [])) = IsWhole-added S here n old (Dir []) whole dir lacks name (omega (arith, short)) (λ path. empty_dir path) in
    let there : over S (set_to here (Dir (with_text n old)) ∷ set_to (here /ₚ n) (Dir []) ∷ []) (here /ₚ n) ≡ Some (Dir []) = update_here (update S (set_to here (Dir (with_text n old)))) (set_to (here /ₚ n) (Dir [])) (here /ₚ n) refl in
    let can' : CanMake ((here /ₚ n) ++ m ∷ names) node = subst (λ q. CanMake q node) (sym (append_assoc here (n ∷ []) (m ∷ names))) can in
    subst IsWhole (overwritten (update S (set_to here (Dir (with_text n old)))) (here /ₚ n) (Some (Dir [])) (Some (Dir (m ∷ []))) (made (here /ₚ n) m names node)) (
    made_keeps names (over S (set_to here (Dir (with_text n old)) ∷ set_to (here /ₚ n) (Dir []) ∷ [])) (here /ₚ n) m [] node first-whole there refl (All-head IsName m names more) (All-tail IsName m names more) (omega (arith, short, length_below here n)) can')

answer-look_all : {A : Type 0} (S : Store) (ps : List (List (List ℕ))) (a : A) → answer S (look_all ps (Answer a)) ≡ a
answer-look_all S [] a = refl
answer-look_all S (p ∷ ps) a = answer-look_all S ps a

pub make_keeps : (S : Store) (here : List (List ℕ)) (n : List ℕ) (names : List (List ℕ)) (node : Node) → IsWhole S → (old : List (List ℕ)) → S here ≡ Some (Dir old) → S (here /ₚ n) ≡ None → All IsName (n ∷ names) → length here + suc (length names) ≤ 64
    → CanMake (here ++ n ∷ names) node → (cs : List Change) → answer S (make here (n ∷ names) node) ≡ Ok cs → IsWhole (over S cs)
make_keeps S here n names node whole old dir none ok short can cs e =
    let lacks : has old n ≡ false = sym (sym (ap is_some none) ∙ whole.listed here n ∙ ap (λ x. lists x n) dir) in
    let is : answer S (make here (n ∷ names) node) ≡ Ok (set_to here (Dir (with_text n (names_of (S here)))) ∷ made here n names node) = answer-look_all S (changed_paths (made here n names node)) _ in
    let listed : names_of (S here) ≡ old = ap names_of dir in
    let same : set_to here (Dir (with_text n old)) ∷ made here n names node ≡ cs = ap (λ l. set_to here (Dir (with_text n l)) ∷ made here n names node) (sym listed) ∙ same_ok _ _ (sym is ∙ e) in
    subst (λ cs. IsWhole (over S cs)) same (made_keeps names S here n old node whole dir lacks (All-head IsName n names ok) (All-tail IsName n names ok) short can)
