-- Own changes against what was read: what is left of them, in order.
use Rattle.std.proofs.Common.{◌≡◌, ◌≢◌, ℕ, suc, ◌+◌, Bool, true, false, cond, List, [], ◌∷◌, ◌++◌, get_or, Option, Some, refl, sym, ap, subst, ◌∙◌, inl, inr, arith}
use Rattle.std.specs.declared.cmp.Ordering.{Ordering}
use Rattle.std.specs.declared.cmp.Ordering.TheVariants.{Less, Equal, Greater}
use Rattle.std.specs.Cmp.{IsTotalOrder}
use Rattle.std.specs.List.{AllByRecursion, IsDistinct}
use Rattle.std.specs.List.Sorted.{IsSorted, IsStrictlySortedBy}
use Rattle.std.specs.Map.{keys_of}
use Rattle.std.specs.Ordering.{eq_by_cmp, is_eq, is_lt, ordering_reverse}
use Rattle.std.proofs.lemmas.Bool.{true≢false}
use Rattle.fx_store.specs.declared.node.Node.{Node}
use Rattle.fx_store.specs.declared.changes.Change.{Change}
use Rattle.fx_store.specs.Changes.{change_at, changed_paths, IsChanges}
use Rattle.fx_store.specs.Names.{path_cmp}
use Rattle.fx_store.specs.Orders.{path_eq_same}
use Rattle.fx_store.proofs.Tables.{path_symm}
use Rattle.fx_view.specs.OwnList.{OwnList}
use Rattle.fx_view.specs.ReadList.{ReadList}
use Rattle.fx_view.specs.Reads.{known_of}
use Rattle.fx_view.specs.Own.{own_at, IsNet}
use Rattle.fx_view.specs.Net.{Differs, change_of, IsNetOf, none, sets, drops, Adds}

abbrev Path : Type 0
Path = List (List ℕ)

-- ---- one entry after another

module _ (reads : ReadList) where
  net_sets : (es : OwnList) (cs : List Change) (e : Path × Option Node) → IsNetOf reads es cs → Differs reads e → IsNetOf reads (es ++ e ∷ []) (cs ++ change_of e ∷ [])
  net_sets es cs e none d = sets d none
  net_sets es cs e (sets {e = f} {es = fs} {cs = ds} g h) d = sets g (net_sets fs ds e h d)
  net_sets es cs e (drops {e = f} {es = fs} {cs = ds} g h) d = drops g (net_sets fs ds e h d)

  net_drops : (es : OwnList) (cs : List Change) (e : Path × Option Node) → IsNetOf reads es cs → (Differs reads e → ⊥) → IsNetOf reads (es ++ e ∷ []) cs
  net_drops es cs e none d = drops d none
  net_drops es cs e (sets {e = f} {es = fs} {cs = ds} g h) d = sets g (net_drops fs ds e h d)
  net_drops es cs e (drops {e = f} {es = fs} {cs = ds} g h) d = drops g (net_drops fs ds e h d)

  pub net_more : (es : OwnList) (cs ds : List Change) (e : Path × Option Node) → IsNetOf reads es cs → Adds reads e cs ds → IsNetOf reads (es ++ e ∷ []) ds
  net_more es cs ds e h (inl a) = subst (IsNetOf reads (es ++ e ∷ [])) (sym a.1) (net_sets es cs e h a.0)
  net_more es cs ds e h (inr a) = subst (IsNetOf reads (es ++ e ∷ [])) (sym a.1) (net_drops es cs e h a.0)

  -- ---- what they say of a path

  -- a path that is changed among later entries is not that of an earlier one
  apart : (es : OwnList) (k path : Path) (now : Option Node) → AllByRecursion (λ y. eq_by_cmp path_cmp k y ≡ false) (keys_of es) → own_at es path ≡ Some now → eq_by_cmp path_cmp path k ≡ false
  apart [] k path now all e = cc
  apart (x ∷ xs) k path now all e = at (eq_by_cmp path_cmp path x.0) refl e (apart xs k path now all.1)
    where
      at : (b : Bool) → eq_by_cmp path_cmp path x.0 ≡ b → cond b (Some x.1) (own_at xs path) ≡ Some now → (own_at xs path ≡ Some now → eq_by_cmp path_cmp path k ≡ false) → eq_by_cmp path_cmp path k ≡ false
      at true t e rest = ap (λ p. eq_by_cmp path_cmp p k) (path_eq_same path x.0 t) ∙ (path_symm x.0 k ∙ all.0)
      at false t e rest = rest e

  abbrev Changed : Path → Option Node → Type 0
  Changed path now = (was : Option Node) × (known_of reads path ≡ Some was) × (now ≢ was)

  own_first : (f : Path × Option Node) (fs : OwnList) (ds : List Change) (path : Path) (now : Option Node) → Differs reads f → (b : Bool) → eq_by_cmp path_cmp path f.0 ≡ b → cond b (Some f.1) (change_at ds path) ≡ Some now
      → (change_at ds path ≡ Some now → (own_at fs path ≡ Some now) × Changed path now) → (cond b (Some f.1) (own_at fs path) ≡ Some now) × Changed path now
  own_first f fs ds path now d true t e rest =
      let same : f.1 ≡ now = cc in
      (e, (d.0, ap (known_of reads) (path_eq_same path f.0 t) ∙ d.1, λ w. d.2 (same ∙ w)))
  own_first f fs ds path now d false t e rest = rest e

  net-sets : (es : OwnList) (cs : List Change) → IsNetOf reads es cs → IsDistinct (eq_by_cmp path_cmp) (keys_of es) → (path : Path) (now : Option Node) → change_at cs path ≡ Some now → (own_at es path ≡ Some now) × Changed path now
  unfolding IsDistinct
  net-sets es cs none distinct path now e = cc
  net-sets es cs (sets {e = f} {es = fs} {cs = ds} d h) distinct path now e =
      own_first f fs ds path now d (eq_by_cmp path_cmp path f.0) refl e (net-sets fs ds h distinct.1 path now)
  net-sets es cs (drops {e = f} {es = fs} {cs = ds} d h) distinct path now e =
      let rest = net-sets fs ds h distinct.1 path now e in
      (ap (λ b. cond b (Some f.1) (own_at fs path)) (apart fs f.0 path now distinct.0 rest.0) ∙ rest.0, rest.1)

  net-keeps : (es : OwnList) (cs : List Change) → IsNetOf reads es cs → (path : Path) (now was : Option Node) → own_at es path ≡ Some now → known_of reads path ≡ Some was → now ≢ was → change_at cs path ≡ Some now
  net-keeps es cs none path now was e known differs = cc
  net-keeps es cs (sets {e = f} {es = fs} {cs = ds} d h) path now was e known differs = at (eq_by_cmp path_cmp path f.0) e (λ e. net-keeps fs ds h path now was e known differs)
    where
      at : (b : Bool) → cond b (Some f.1) (own_at fs path) ≡ Some now → (own_at fs path ≡ Some now → change_at ds path ≡ Some now) → cond b (Some f.1) (change_at ds path) ≡ Some now
      at true e rest = e
      at false e rest = rest e
  net-keeps es cs (drops {e = f} {es = fs} {cs = ds} d h) path now was e known differs = at (eq_by_cmp path_cmp path f.0) refl e (λ e. net-keeps fs ds h path now was e known differs)
    where
      at : (b : Bool) → eq_by_cmp path_cmp path f.0 ≡ b → cond b (Some f.1) (own_at fs path) ≡ Some now → (own_at fs path ≡ Some now → change_at ds path ≡ Some now) → change_at ds path ≡ Some now
      at true t e rest =
          let same : f.1 ≡ now = cc in
          absurd (d (was, ap (known_of reads) (sym (path_eq_same path f.0 t)) ∙ known, λ w. differs (sym same ∙ w)))
      at false t e rest = rest e

  pub IsNet-of : (own es : OwnList) (cs : List Change) → ((path : Path) → own_at es path ≡ own_at own path) → IsDistinct (eq_by_cmp path_cmp) (keys_of es) → IsNetOf reads es cs → IsNet own reads cs
  IsNet-of own es cs same distinct h = record {
    sets = λ path now e. let net = net-sets es cs h distinct path now e in (sym (same path) ∙ net.0, net.1);
    keeps = λ path now was e known differs. net-keeps es cs h path now was (same path ∙ e) known differs;
  }

  -- ---- their order

  all_net : (P : Path → Type 0) (es : OwnList) (cs : List Change) → IsNetOf reads es cs → AllByRecursion P (keys_of es) → AllByRecursion P (changed_paths cs)
  all_net P es cs none all = tt
  all_net P es cs (sets {e = f} {es = fs} {cs = ds} d h) all = (all.0, all_net P fs ds h all.1)
  all_net P es cs (drops {e = f} {es = fs} {cs = ds} d h) all = all_net P fs ds h all.1

  pub IsChanges-net : (es : OwnList) (cs : List Change) → IsNetOf reads es cs → IsStrictlySortedBy path_cmp (keys_of es) → IsChanges cs
  unfolding IsStrictlySortedBy
  IsChanges-net es cs none up = tt
  IsChanges-net es cs (sets {e = f} {es = fs} {cs = ds} d h) up = (all_net (λ y. path_cmp f.0 y ≡ Less) fs ds h up.0, IsChanges-net fs ds h up.1)
  IsChanges-net es cs (drops {e = f} {es = fs} {cs = ds} d h) up = IsChanges-net fs ds h up.1

-- ---- keys that are sorted, and of which no two are equal, ascend

module _ {K : Type 0} {R : K → K → Ordering} (o : IsTotalOrder R) where
  below_rest : (k l : K) (ks : List K) → R k l ≡ Less → AllByRecursion (λ y. R l y ≡ Less) ks → AllByRecursion (λ y. R k y ≡ Less) ks
  below_rest k l [] e all = tt
  below_rest k l (m ∷ ks) e all = (o.trans k l m e all.0, below_rest k l ks e all.1)

  less : (k l : K) → is_lt (R l k) ≡ false → eq_by_cmp R k l ≡ false → R k l ≡ Less
  less k l above differ = at (R k l) refl
    where
      at : (r : Ordering) → R k l ≡ r → r ≡ Less
      at Less e = refl
      at Equal e = absurd (true≢false (sym (ap is_eq e) ∙ differ))
      at Greater e = absurd (true≢false (sym (ap is_lt (o.antisymm l k ∙ ap ordering_reverse e)) ∙ above))

  pub ascending_from_sorted : (ks : List K) → IsSorted R ks → IsDistinct (eq_by_cmp R) ks → IsStrictlySortedBy R ks
  unfolding IsDistinct IsStrictlySortedBy
  ascending_from_sorted [] sorted distinct = tt
  ascending_from_sorted (k ∷ []) sorted distinct = (tt, tt)
  ascending_from_sorted (k ∷ l ∷ ks) sorted distinct =
      let rest = ascending_from_sorted (l ∷ ks) (λ i d low high. let next : suc i + 1 ≡ suc (i + 1) = omega arith in subst (λ (n : ℕ). is_lt (R (get_or (k ∷ l ∷ ks) n d) (get_or (l ∷ ks) i d)) ≡ false) next (sorted (suc i) d (omega arith) (omega arith))) distinct.1 in
      let first = less k l (sorted 0 k (omega arith) (omega arith)) distinct.0.0 in
      ((first, below_rest k l ks first rest.0), rest)
