-- Zippers whose frames are found: what is known of their place, with more reads, one frame more, and one step less.
use Rattle.fx_zip.proofs.Prelude.{ReadList, ◌≡◌, ℕ, zero, suc, ◌<◌, true, false, cond, List, [], ◌∷◌, ◌++◌, length, take, drop, Option, Some, None, refl, sym, ap, ◌∙◌, subst, arith, length-append, take-append-drop, nat_eq, IfSome}
use Rattle.fx_zip.proofs.Prelude.{unwrap_or, append-nil, eq-eqb, Node, Known, Found, follow, AgreesWith, answer, changed, Store, Bindings, with_some, Step, First, Second, Inside, Down, Body, Elem, Address}
use Rattle.fx_zip.proofs.Prelude.{placed, lead, place, IsDescribedPlace, SpecTree, IsDescription, known_of, follow-bind, found_more, found_answer, HasScope, Frame, Spot, around, around_last, IsHeldSet, IsSetOf, AreFound, IsFresh, Stands}
use Rattle.fx_zip.proofs.Prelude.{left, last_step, last_set, last_caller, is_element, set_behind, child, part, grown, framed, LeadsToSpot, entered, ZipTree, path_of, is_settled, IsSettled, here}
use Rattle.std.proofs.lemmas.Bool.Decides.{nat_tests}
use Rattle.fx_spec.proofs.Shaped.{places_are_described}
use Rattle.fx_view.proofs.Growing.{Grows, Grows-reads}

-- ---- reads

-- more reads, after the earlier ones
abbrev pub IsMore : ReadList → ReadList → Type 0
IsMore old new = (rest : ReadList) × (new ≡ old ++ rest)

-- what the first reads say, all say
pub grows_first : (k : ℕ) (reads : ReadList) → Grows (known_of (take k reads)) (known_of reads)
grows_first k reads = subst (λ rs. Grows (known_of (take k reads)) (known_of rs)) (take-append-drop k reads) (Grows-reads (take k reads) (drop k reads))

front_more : (k : ℕ) (reads rest : ReadList) → IsMore (take k reads) (take k (reads ++ rest))
front_more zero reads rest = ([], refl)
front_more (suc k) [] rest = (take (suc k) rest, refl)
front_more (suc k) (r ∷ reads) rest = let more = front_more k reads rest in (more.0, ap (λ rs. r ∷ rs) more.1)

pub first_grows : (k : ℕ) (reads more : ReadList) → IsMore reads more → Grows (known_of (take k reads)) (known_of (take k more))
first_grows k reads more grows =
    let front = front_more k reads grows.0 in
    subst (λ rs. Grows (known_of (take k reads)) (known_of (take k rs))) (sym grows.1)
    (subst (λ rs. Grows (known_of (take k reads)) (known_of rs)) (sym front.1) (Grows-reads (take k reads) front.0))

module _ (known : ReadList) (own : Known) (root : SpecTree) where
  pub found_length : (a : Address) (fs : List Frame) (env : Bindings) → AreFound known own root a fs env → length fs ≡ length a
  found_length [] [] env h = refl
  found_length [] (f ∷ fs) env h = absurd h
  found_length (step ∷ a) [] env h = absurd h
  found_length (step ∷ a) (f ∷ fs) env h = ap suc (found_length a fs (around step f.caller env) h.2)

  -- the place of the steps
  pub found_place : (a : Address) (fs : List Frame) (env : Bindings) → AreFound known own root a fs env → follow (known_of known) own (place root a) ≡ Found (Some (placed (path_of fs) env (part root a)))
  unfolding place
  found_place [] [] env h = ap (λ e. Found (Some (placed [] e root))) (sym h)
  found_place [] (f ∷ fs) env h = absurd h
  found_place (step ∷ a) [] env h = absurd h
  found_place (step ∷ a) (f ∷ fs) env h =
      follow-bind (known_of known) own (place root a) (with_some λ at. lead step at.path at.env at.spec) (Some (placed (path_of fs) (around step f.caller env) (part root a))) (found_place a fs (around step f.caller env) h.2)
      ∙ found_more (known_of (take f.reads known)) (known_of known) own (grows_first f.reads known) (lead step (path_of fs) (around step f.caller env) (part root a)) (Some (placed f.path env (child step (part root a)))) h.0

  pub found_grows : (more : ReadList) → IsMore known more → (a : Address) (fs : List Frame) (env : Bindings) → AreFound known own root a fs env → AreFound more own root a fs env
  found_grows more grows [] [] env h = h
  found_grows more grows [] (f ∷ fs) env h = absurd h
  found_grows more grows (step ∷ a) [] env h = absurd h
  found_grows more grows (step ∷ a) (f ∷ fs) env h =
      (found_more (known_of (take f.reads known)) (known_of (take f.reads more)) own (first_grows f.reads known more grows) (lead step (path_of fs) (around step f.caller env) (part root a)) (Some (placed f.path env (child step (part root a)))) h.0, h.1, found_grows more grows a fs (around step f.caller env) h.2)

  -- it is described
  pub found_described : IsDescription [] root → (a : Address) (fs : List Frame) (env : Bindings) → AreFound known own root a fs env → IsDescribedPlace (placed (path_of fs) env (part root a))
  found_described d a fs env h =
      let S : Store = λ q. unwrap_or (known_of known q) None in
      let agrees : AgreesWith (known_of known) S = λ q n e. ap (λ (o : Option (Option Node)). unwrap_or o None) e in
      let is : answer (changed own S) (place root a) ≡ Some (placed (path_of fs) env (part root a)) = found_answer (known_of known) own S agrees (place root a) (Some (placed (path_of fs) env (part root a))) (found_place a fs env h) in
      subst (λ o. IfSome o IsDescribedPlace) is (places_are_described root d (changed own S) a)

  pub found_scope : IsDescription [] root → (a : Address) (fs : List Frame) (env : Bindings) → AreFound known own root a fs env → HasScope env (part root a)
  found_scope d a fs env h = let at = found_described d a fs env h in record { scope = at.0; described = at.1 }

  -- one frame more
  pub found_entered : (a : Address) (fs : List Frame) (env : Bindings) (step : Step) (spot : Spot) → AreFound known own root a fs env → LeadsToSpot known own step (path_of fs) env (part root a) spot → AreFound known own root (step ∷ a) (framed env spot ∷ fs) (grown env spot.bound)
  found_entered a fs env step spot h leads =
      subst (λ e. (follow (known_of (take spot.reads known)) own (lead step (path_of fs) e (part root a)) ≡ Found (Some (placed spot.path (grown env spot.bound) (child step (part root a))))) × IsHeldSet step spot.set e (part root a) × AreFound known own root a fs e)
      (sym leads.fits.back) (leads.found, leads.fits.held, h)

module _ (known : ReadList) (own : Known) (z : ZipTree) where
  pub stands_settled : Stands known own z → IsSettled z
  stands_settled h = eq-eqb (length z.frames) (length z.address) (found_length known own z.root z.address z.frames z.env h.found)

  pub stands_fresh : Stands known own z → IsFresh known own z
  stands_fresh h = record { ahead = []; kept = z.address; whole = refl; found = h.found; set = h.set }

  pub stands_grows : (more : ReadList) → IsMore known more → Stands known own z → Stands more own z
  stands_grows more grows h = record { found = found_grows known own z.root more grows z.address z.frames z.env h.found; set = h.set }

  pub stands_here : Stands known own z → follow (known_of known) own (place z.root z.address) ≡ Found (Some (here z))
  stands_here h = found_place known own z.root z.address z.frames z.env h.found

  pub stands_described : IsDescription [] z.root → Stands known own z → IsDescribedPlace (here z)
  stands_described d h = found_described known own z.root d z.address z.frames z.env h.found

  pub stands_scope : IsDescription [] z.root → Stands known own z → HasScope z.env (part z.root z.address)
  stands_scope d h = found_scope known own z.root d z.address z.frames z.env h.found

  pub fresh_grows : (more : ReadList) → IsMore known more → IsFresh known own z → IsFresh more own z
  fresh_grows more grows h = record { ahead = h.ahead; kept = h.kept; whole = h.whole; found = found_grows known own z.root more grows h.kept z.frames z.env h.found; set = h.set }

  none_ahead : IsSetOf z.set z.env (part z.root z.address) → (ahead kept : Address) → z.address ≡ ahead ++ kept → length ahead ≡ 0 → AreFound known own z.root kept z.frames z.env → Stands known own z
  none_ahead set [] kept whole none found = record { found = subst (λ a. AreFound known own z.root a z.frames z.env) (sym whole) found; set = set }
  none_ahead set (s ∷ ahead) kept whole none found = absurd (omega arith)

  pub fresh_stands : IsFresh known own z → is_settled z ≡ true → Stands known own z
  fresh_stands h settled =
      let same : length z.frames ≡ length z.address = grind (arith, nat_tests) in
      let frames = found_length known own z.root h.kept z.frames z.env h.found in
      let long = ap length h.whole in
      let both = length-append h.ahead h.kept in
      none_ahead h.set h.ahead h.kept h.whole (omega (arith, same, frames, long, both)) h.found

  pub stands_entered : (step : Step) (spot : Spot) → Stands known own z → LeadsToSpot known own step (path_of z.frames) z.env (part z.root z.address) spot → Stands known own (entered z step spot)
  stands_entered step spot h leads = record { found = found_entered known own z.root z.address z.frames z.env step spot h.found leads; set = tt }

-- ---- one step less

is_below : (m n : ℕ) → m < n → nat_eq m n ≡ false
is_below m n e = grind (arith, nat_tests)

-- what is left of a settled zipper
abbrev pub without_last : ZipTree → ZipTree
without_last z = record { root = z.root; address = drop 1 z.address; frames = drop 1 z.frames; env = around_last z.address (last_caller z.frames) z.env; set = set_behind z }

abbrev pub without_step : ZipTree → ZipTree
without_step z = record { root = z.root; address = drop 1 z.address; frames = z.frames; env = z.env; set = None }

pub left_settled : (z : ZipTree) → is_settled z ≡ true → left z ≡ without_last z
left_settled z e = ap (λ b. record { root = z.root; address = drop 1 z.address; frames = cond b (drop 1 z.frames) z.frames; env = cond b (around_last z.address (last_caller z.frames) z.env) z.env; set = cond b (set_behind z) None }) e

pub left_unsettled : (z : ZipTree) → is_settled z ≡ false → left z ≡ without_step z
left_unsettled z e = ap (λ b. record { root = z.root; address = drop 1 z.address; frames = cond b (drop 1 z.frames) z.frames; env = cond b (around_last z.address (last_caller z.frames) z.env) z.env; set = cond b (set_behind z) None }) e

found_without : (known : ReadList) (own : Known) (root : SpecTree) (a : Address) (fs : List Frame) (env : Bindings) → AreFound known own root a fs env → AreFound known own root (drop 1 a) (drop 1 fs) (around_last a (last_caller fs) env)
found_without known own root [] [] env h = h
found_without known own root [] (f ∷ fs) env h = absurd h
found_without known own root (step ∷ a) [] env h = absurd h
found_without known own root (step ∷ a) (f ∷ fs) env h = h.2

held_is : (set : Option (List (List ℕ))) (t : List ℕ) (env : Bindings) (s : SpecTree) → IsHeldSet (Elem t) set env s → IsSetOf set env s
held_is None t env s h = tt
held_is (Some set) t env SpecTree.file h = tt
held_is (Some set) t env SpecTree.dir h = tt
held_is (Some set) t env SpecTree.link h = tt
held_is (Some set) t env (SpecTree.focus e s) h = tt
held_is (Some set) t env (SpecTree.pair x a b) h = tt
held_is (Some set) t env (SpecTree.comp s x e) h = h
held_is (Some set) t env (SpecTree.opt s) h = tt
held_is (Some set) t env (SpecTree.pred e) h = tt
held_is (Some set) t env (SpecTree.call args params s) h = tt
held_is (Some set) t env (SpecTree.last args params) h = tt

-- the set that an element's frame keeps is that of the comprehension around
set_without : (known : ReadList) (own : Known) (root : SpecTree) (a : Address) (fs : List Frame) (env : Bindings) → AreFound known own root a fs env → IsSetOf (cond (is_element (last_step a)) (last_set fs) None) (around_last a (last_caller fs) env) (part root (drop 1 a))
set_without known own root [] fs env h = tt
set_without known own root (First ∷ a) fs env h = tt
set_without known own root (Second ∷ a) fs env h = tt
set_without known own root (Inside ∷ a) fs env h = tt
set_without known own root (Down ∷ a) fs env h = tt
set_without known own root (Body ∷ a) fs env h = tt
set_without known own root (Elem t ∷ a) [] env h = tt
set_without known own root (Elem t ∷ a) (f ∷ fs) env h = held_is f.set t (around (Elem t) f.caller env) (part root a) h.1

module _ (known : ReadList) (own : Known) (z : ZipTree) where
  pub stands_left : Stands known own z → Stands known own (left z)
  stands_left h =
      subst (Stands known own) (sym (left_settled z (stands_settled known own z h)))
      (record { found = found_without known own z.root z.address z.frames z.env h.found; set = set_without known own z.root z.address z.frames z.env h.found })

  left_ahead : IsSetOf z.set z.env (part z.root z.address) → (ahead kept : Address) → z.address ≡ ahead ++ kept → AreFound known own z.root kept z.frames z.env → IsFresh known own (left z)
  left_ahead set [] kept whole found = stands_fresh known own (left z) (stands_left (record { found = subst (λ a. AreFound known own z.root a z.frames z.env) (sym whole) found; set = set }))
  left_ahead set (s ∷ ahead) kept whole found =
      let frames = found_length known own z.root kept z.frames z.env found in
      let both = length-append ahead kept in
      let long = ap length whole in
      let unsettled : is_settled z ≡ false = is_below (length z.frames) (length z.address) (omega (arith, frames, both, long)) in
      subst (IsFresh known own) (sym (left_unsettled z unsettled)) (record { ahead = ahead; kept = kept; whole = ap (drop 1) whole; found = found; set = tt })

  pub fresh_left : IsFresh known own z → IsFresh known own (left z)
  fresh_left h = left_ahead h.set h.ahead h.kept h.whole h.found

as_long : (a : Address) (fs : List Frame) → length fs ≡ length a → length (drop 1 fs) ≡ length (drop 1 a)
as_long [] [] e = refl
as_long [] (f ∷ fs) e = absurd (omega (arith, e))
as_long (step ∷ a) [] e = absurd (omega (arith, e))
as_long (step ∷ a) (f ∷ fs) e = omega (arith, e)

-- a step less, with its frame
pub left_kept : (z : ZipTree) → IsSettled z → IsSettled (left z)
left_kept z e =
    let same : length z.frames ≡ length z.address = grind (arith, nat_tests) in
    subst IsSettled (sym (left_settled z e)) (eq-eqb (length (drop 1 z.frames)) (length (drop 1 z.address)) (as_long z.address z.frames same))

-- without frames, nothing is kept
pub fresh_none : (known : ReadList) (own : Known) (z : ZipTree) → z.frames ≡ [] → z.env ≡ [] → z.set ≡ None → IsFresh known own z
fresh_none known own z frames env none = record {
  ahead = z.address;
  kept = [];
  whole = sym (append-nil z.address);
  found = subst (λ fs. AreFound known own z.root [] fs z.env) (sym frames) env;
  set = subst (λ set. IsSetOf set z.env (part z.root z.address)) (sym none) tt;
}
