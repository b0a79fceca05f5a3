-- A whole filestore stays whole where a directory lists other names: new entries are childless nodes, and dropped ones go
-- with all that is below them.
use Rattle.std.proofs.Common.{◌≡◌, ℕ, suc, ◌+◌, ◌<◌, Bool, true, false, cond, refl, ap, subst, sym, ◌∙◌, ◌||◌, ◌⊎◌, inl, inr, List, [], ◌∷◌, ◌++◌, length, Option, Some, None, is_some, IsSome, nat_lt, arith, length-append, append_assoc}
use Rattle.std.proofs.lemmas.Bool.{ltb-true, ltb-false}
use Rattle.std.proofs.lemmas.List.{append-nil}
use Rattle.std.specs.Option.{IfSome}
use Rattle.std.specs.Ordering.{eq_by_cmp}
use Rattle.std.specs.List.{All}
use Rattle.fx_base.proofs.Names.{name_is}
use Rattle.fx_store.specs.declared.node.Node.{Node}
use Rattle.fx_store.specs.declared.node.Node.TheVariants.{Dir}
use Rattle.fx_store.specs.Names.{name_cmp, IsName, IsPath, has, rest_of}
use Rattle.fx_store.specs.Whole.{Store, IsWhole, IsNode, lists}
use Rattle.fx_store.specs.Resolve.{◌/ₚ◌}
use Rattle.fx_store.specs.Relisted.{fresh_at, relist_at, relisted, CanRelist}
use Rattle.fx_store.proofs.PathLists.{rest_append, rest_is, path_below}

pub rest_more : (q p t : List (List ℕ)) (n : List ℕ) → rest_of q p ≡ Some t → rest_of q (p /ₚ n) ≡ Some (t /ₚ n)
rest_more q p t n e = rw (rest_is q p t e, append_assoc) (rest_append q (t /ₚ n))

none_either : (c : Bool) → ◌≡◌ {A = Option (List (List ℕ))} (cond c None None) None
none_either true = refl
none_either false = refl

pub rest_none : (q p : List (List ℕ)) (n : List ℕ) → rest_of q p ≡ None → (rest_of q (p /ₚ n) ≡ None) ⊎ (p /ₚ n ≡ q)
rest_none [] p n e = cc
rest_none (a ∷ []) [] n e = at (eq_by_cmp name_cmp a n) refl
  where
    at : (c : Bool) → eq_by_cmp name_cmp a n ≡ c → (◌≡◌ {A = Option (List (List ℕ))} (cond c (Some []) None) None) ⊎ (n ∷ [] ≡ a ∷ [])
    at true f = inr (ap (λ x. x ∷ []) (sym (name_is a n f)))
    at false f = inl refl
rest_none (a ∷ b ∷ q) [] n e = inl (none_either (eq_by_cmp name_cmp a n))
rest_none (a ∷ q) (b ∷ p) n e = at (eq_by_cmp name_cmp a b) refl e (rest_none q p n)
  where
    at : (c : Bool) → eq_by_cmp name_cmp a b ≡ c → cond c (rest_of q p) None ≡ None → (rest_of q p ≡ None → (rest_of q (p /ₚ n) ≡ None) ⊎ (p /ₚ n ≡ q))
        → (cond c (rest_of q (p /ₚ n)) None ≡ None) ⊎ (b ∷ (p /ₚ n) ≡ a ∷ q)
    at true f h rest = elim (rest h) [ inl g ↦ inl g | inr g ↦ inr (let same : a ≡ b = name_is a b f in cc) ]
    at false f h rest = inl refl

-- what holds of all names holds of each one that is there
pub has-all : (P : List ℕ → Type 0) (names : List (List ℕ)) (n : List ℕ) → All P names → has names n ≡ true → P n
has-all P [] n all h = cc
has-all P (m ∷ names) n all h = at (eq_by_cmp name_cmp n m) refl h (has-all P names n (λ k d l. all (suc k) d (omega (arith, l))))
  where
    at : (b : Bool) → eq_by_cmp name_cmp n m ≡ b → (b || has names n) ≡ true → (has names n ≡ true → P n) → P n
    at true e h rest = subst P (sym (name_is n m e)) (all 0 m (omega arith))
    at false e h rest = rest h

module _ (S : Store) (q old new : List (List ℕ)) (fresh : List ℕ → Node) (can : CanRelist S q old new fresh) where
  pub has_old : (n : List ℕ) → is_some (S (q /ₚ n)) ≡ has old n
  has_old n = can.whole.listed q n ∙ ap (λ x. lists x n) can.dir

  abbrev At : List (List ℕ) → Option (List (List ℕ)) → Option Node
  At r t = relist_at S old new fresh r t

  -- an entry of the directory
  entry_listed : (n : List ℕ) → is_some (At (q /ₚ n) (Some (n ∷ []))) ≡ has new n
  entry_listed n = at (has new n)
    where
      old_at : (b : Bool) → has old n ≡ b → is_some (cond b (S (q /ₚ n)) (Some (fresh n))) ≡ true
      old_at true e = has_old n ∙ e
      old_at false e = refl

      at : (b : Bool) → is_some (cond b (cond (has old n) (S (q /ₚ n)) (Some (fresh n))) None) ≡ b
      at true = old_at (has old n) refl
      at false = refl

  -- what is below an entry
  below_listed : (p : List (List ℕ)) (m : List ℕ) (rest : List (List ℕ)) (n : List ℕ) → p ≡ q ++ m ∷ rest → is_some (At (p /ₚ n) (Some (m ∷ (rest /ₚ n)))) ≡ lists (At p (Some (m ∷ rest))) n
  below_listed p m rest n e = at (has new m) refl
    where
      fresh_below : (t : List (List ℕ)) → has new m ≡ true → is_some (fresh_at (fresh m) (t /ₚ n)) ≡ lists (fresh_at (fresh m) t) n
      fresh_below [] h = sym ((can.leaves m h).childless n)
      fresh_below (k ∷ t) h = refl

      old_at : (b : Bool) → has new m ≡ true → is_some (cond b (S (p /ₚ n)) (fresh_at (fresh m) (rest /ₚ n))) ≡ lists (cond b (S p) (fresh_at (fresh m) rest)) n
      old_at true h = can.whole.listed p n
      old_at false h = fresh_below rest h

      at : (b : Bool) → has new m ≡ b → is_some (cond b (cond (has old m) (S (p /ₚ n)) (fresh_at (fresh m) (rest /ₚ n))) None) ≡ lists (cond b (cond (has old m) (S p) (fresh_at (fresh m) rest)) None) n
      at true h = old_at (has old m) h
      at false h = refl

  -- the entry `q` of the directory above it
  above_listed : (p : List (List ℕ)) (n : List ℕ) → p /ₚ n ≡ q → true ≡ lists (S p) n
  above_listed p n f =
      let some : is_some (S (p /ₚ n)) ≡ true = subst (λ r. is_some (S r) ≡ true) (sym f) (ap is_some can.dir) in
      sym some ∙ can.whole.listed p n

  listed_in : (p : List (List ℕ)) (n : List ℕ) (t : Option (List (List ℕ))) → rest_of q p ≡ t → is_some (relisted S q old new fresh (p /ₚ n)) ≡ lists (At p t) n
  listed_in p n None e = outside (rest_none q p n e)
    where
      outside : (rest_of q (p /ₚ n) ≡ None) ⊎ (p /ₚ n ≡ q) → is_some (relisted S q old new fresh (p /ₚ n)) ≡ lists (S p) n
      outside (inl f) = ap (λ t. is_some (At (p /ₚ n) t)) f ∙ can.whole.listed p n
      outside (inr f) =
          let here : rest_of q (p /ₚ n) ≡ Some [] = subst (λ r. rest_of q r ≡ Some []) (append-nil q ∙ sym f) (rest_append q []) in
          ap (λ t. is_some (At (p /ₚ n) t)) here ∙ above_listed p n f
  listed_in p n (Some []) e =
      let same : p ≡ q = rest_is q p [] e ∙ append-nil q in
      ap (λ t. is_some (At (p /ₚ n) t)) (rest_more q p [] n e) ∙ subst (λ r. is_some (At (r /ₚ n) (Some (n ∷ []))) ≡ has new n) (sym same) (entry_listed n)
  listed_in p n (Some (m ∷ rest)) e =
      ap (λ t. is_some (At (p /ₚ n) t)) (rest_more q p (m ∷ rest) n e) ∙ below_listed p m rest n (rest_is q p (m ∷ rest) e)

  root_in : (t : Option (List (List ℕ))) → rest_of q [] ≡ t → (names : List (List ℕ)) × (At [] t ≡ Some (Dir names))
  root_in None e = can.whole.root
  root_in (Some []) e = (new, refl)
  root_in (Some (m ∷ rest)) e = absurd (long (rest_is q [] (m ∷ rest) e))
    where
      long : [] ≡ q ++ m ∷ rest → ⊥
      long f = let n : length q + suc (length rest) ≡ 0 = sym (length-append q (m ∷ rest)) ∙ ap length (sym f) in omega (arith, n)

  q_path : IsPath q
  q_path = can.whole.paths q (ap is_some can.dir)

  room_for : (m : List ℕ) → has new m ≡ true → length q < 64
  room_for m h = at (nat_lt (length q) 64) refl
    where
      at : (b : Bool) → nat_lt (length q) 64 ≡ b → length q < 64
      at true e = ltb-true (length q) 64 e
      at false e =
          let full : length q ≡ 64 = omega (arith, q_path.short, ltb-false (length q) 64 e) in
          let none : has new m ≡ false = ap (λ l. has l m) (can.room full) in
          cc

  paths_in : (r : List (List ℕ)) (t : Option (List (List ℕ))) → rest_of q r ≡ t → IsSome (At r t) → IsPath r
  paths_in r None e h = can.whole.paths r h
  paths_in r (Some []) e h = subst IsPath (sym (rest_is q r [] e ∙ append-nil q)) q_path
  paths_in r (Some (m ∷ rest)) e h = at (has new m) refl h
    where
      fresh_path : (t : List (List ℕ)) → r ≡ q ++ m ∷ t → has new m ≡ true → is_some (fresh_at (fresh m) t) ≡ true → IsPath r
      fresh_path [] f h i = rw f (path_below q m q_path (has-all IsName new m can.names.names h) (room_for m h))
      fresh_path (k ∷ t) f h i = cc

      old_at : (b : Bool) → has new m ≡ true → is_some (cond b (S r) (fresh_at (fresh m) rest)) ≡ true → IsPath r
      old_at true h i = can.whole.paths r i
      old_at false h i = fresh_path rest (rest_is q r (m ∷ rest) e) h i

      at : (b : Bool) → has new m ≡ b → is_some (cond b (cond (has old m) (S r) (fresh_at (fresh m) rest)) None) ≡ true → IsPath r
      at true h i = old_at (has old m) h i
      at false h i = cc

  nodes_in : (r : List (List ℕ)) (t : Option (List (List ℕ))) → rest_of q r ≡ t → IfSome (At r t) (IsNode r)
  nodes_in r None e = can.whole.nodes r
  nodes_in r (Some []) e = rw (rest_is q r [] e ∙ append-nil q) (can.names, can.room)
  nodes_in r (Some (m ∷ rest)) e = at (has new m) refl
    where
      fresh_node : (t : List (List ℕ)) → r ≡ q ++ m ∷ t → has new m ≡ true → IfSome (fresh_at (fresh m) t) (IsNode r)
      fresh_node [] f h = rw f (can.leaves m h).limits
      fresh_node (k ∷ t) f h = tt

      old_at : (b : Bool) → has new m ≡ true → IfSome (cond b (S r) (fresh_at (fresh m) rest)) (IsNode r)
      old_at true h = can.whole.nodes r
      old_at false h = fresh_node rest (rest_is q r (m ∷ rest) e) h

      at : (b : Bool) → has new m ≡ b → IfSome (cond b (cond (has old m) (S r) (fresh_at (fresh m) rest)) None) (IsNode r)
      at true h = old_at (has old m) h
      at false h = tt

  pub IsWhole-relisted : IsWhole (relisted S q old new fresh)
  IsWhole-relisted = record {
    root = root_in (rest_of q []) refl;
    listed = λ p n. listed_in p n (rest_of q p) refl;
    paths = λ r. paths_in r (rest_of q r) refl;
    nodes = λ r. nodes_in r (rest_of q r) refl;
  }
