-- What holds of every state that a run from the start reaches.
use Rattle.std.proofs.Common.{◌≡◌, ◌≢◌, ◌⊎◌, inl, inr, ⊎_elim, ℕ, zero, suc, ◌<◌, ◌≤◌, Bool, true, false, cond, ◌||◌, List, [], ◌∷◌, ◌++◌, map, length, get_or, set, replicate, slice_get, Some, None, refl, sym, ap, subst, ◌∙◌, arith}
use Rattle.std.specs.List.{All, IsDistinct, list_any}
use Rattle.std.specs.Ordering.{eq_by_cmp}
use Rattle.std.proofs.lemmas.Bool.{cases_eq, cases_lt}
use Rattle.std.proofs.lemmas.Cmp.{eq_by_cmp_equiv}
use Rattle.std.proofs.lemmas.List.{map-append, get_or-set_same, get_or-set_other, get_or_past, length-set, length-replicate}
use Rattle.std.proofs.lemmas.List.Elements.{All-nil, All-push, All-head, All-tail}
use Rattle.std.proofs.lemmas.Map.Keys.{IsDistinct-push}
use Rattle.std.proofs.lemmas.Option.{slice_get_within, same_Some, none-some}
use Rattle.fx_store.specs.Names.{path_cmp, IsPath}
use Rattle.fx_store.specs.Orders.{path_total, path_eq_same}
use Rattle.fx_spec.specs.Plans.{Turn, count_of}
use Rattle.fx_spec.specs.Order.{BaseTree, IsLegal}
use Rattle.fx_spec.proofs.Orders.{legal_none, legal-next}
use Rattle.fx_machine.specs.declared.event.Event.{Event}
use Rattle.fx_machine.specs.declared.event.Event.TheVariants as event
use Rattle.fx_machine.specs.Machine.{Machine, Look, looks_of, position_at, next_number, Looks, Settles, Restarts, Step, Run, resting}
use Rattle.fx_machine.specs.Laws.{IsReached}
use Rattle.fx_machine.proofs.Legal.{fewer_settled}

-- the paths of a shell's looks are paths and differ, and each look is later than the shell's own entries
pub record AreLooks (o : List Turn) (shell : ℕ) (looks : List Look) : Type 0 where
  pub paths : All (λ (l : Look). IsPath l.0) looks
  pub apart : IsDistinct (eq_by_cmp path_cmp) (map (λ (l : Look). l.0) looks)
  pub later : (entry txn : ℕ) → slice_get o entry ≡ Some (shell, txn) → All (λ (l : Look). entry < l.1) looks

pub record IsSound (base : BaseTree) (m : Machine) : Type 0 where
  pub legal : IsLegal base m.order
  pub shells : All (λ (t : Turn). t.0 < length base.plan) m.order
  pub wide : length m.looks ≡ length base.plan
  pub looks : (shell : ℕ) → AreLooks m.order shell (looks_of m shell)

-- ---- lists

-- what holds of no looks, of the new ones and of a shell's old ones holds after one shell's are set
pub set_looks : (P : List Look → Type 0) (ls : List (List Look)) (shell k : ℕ) (x : List Look) → P [] → (k ≡ shell → P x) → (k ≢ shell → P (get_or ls k [])) → P (get_or (set ls shell x) k [])
set_looks P ls shell k x none here other =
    ⊎_elim (λ (e : k ≡ shell). subst (λ k. P (get_or (set ls shell x) k [])) (sym e) (own e (cases_lt shell (length ls)))) (λ (n : k ≢ shell). subst P (sym (get_or-set_other ls shell k x [] n)) (other n)) (cases_eq k shell)
  where
    own : k ≡ shell → (shell < length ls) ⊎ (length ls ≤ shell) → P (get_or (set ls shell x) shell [])
    own e (inl h) = subst P (sym (get_or-set_same ls shell x [] h)) (here e)
    own e (inr h) = subst P (sym (get_or_past (set ls shell x) shell [] (omega (arith, length-set ls shell x)))) none

pub none_looked : (n k : ℕ) → get_or (replicate n (let none : List Look = [] in none)) k [] ≡ []
none_looked zero k = refl
none_looked (suc n) zero = refl
none_looked (suc n) (suc k) = none_looked n k

pub slice_get_push : {X : Type 0} (xs : List X) (y : X) (i : ℕ) (x : X) → slice_get (xs ++ y ∷ []) i ≡ Some x → (slice_get xs i ≡ Some x) ⊎ (y ≡ x)
slice_get_push [] y zero x e = inr (same_Some y x e)
slice_get_push [] y (suc i) x e = absurd (none-some x e)
slice_get_push (z ∷ zs) y zero x e = inl e
slice_get_push (z ∷ zs) y (suc i) x e = slice_get_push zs y i x e

-- a position is that of a look at the path
pub position_in : (P : Look → Type 0) (looks : List Look) (path : List (List ℕ)) (i : ℕ) → All P looks → position_at looks path ≡ Some i → P (path, i)
position_in P [] path i all e = absurd (none-some i e)
position_in P (l ∷ ls) path i all e = go (eq_by_cmp path_cmp path l.0) refl e (position_in P ls path i (All-tail P l ls all))
  where
    go : (b : Bool) → eq_by_cmp path_cmp path l.0 ≡ b → cond b (Some l.1) (position_at ls path) ≡ Some i → (position_at ls path ≡ Some i → P (path, i)) → P (path, i)
    go true is e rest =
        let same : path ≡ l.0 = path_eq_same path l.0 is in
        let at : l.1 ≡ i = same_Some l.1 i e in
        subst (λ i. P (path, i)) at (subst (λ path. P (path, l.1)) (sym same) (All-head P l ls all))
    go false is e rest = rest e

none_same : (looks : List Look) (path : List (List ℕ)) → position_at looks path ≡ None → list_any (eq_by_cmp path_cmp path) (map (λ (l : Look). l.0) looks) ≡ false
none_same [] path e = refl
none_same (l ∷ ls) path e = go (eq_by_cmp path_cmp path l.0) e (none_same ls path)
  where
    go : (b : Bool) → cond b (Some l.1) (position_at ls path) ≡ None → (position_at ls path ≡ None → list_any (eq_by_cmp path_cmp path) (map (λ (l : Look). l.0) ls) ≡ false) → (b || list_any (eq_by_cmp path_cmp path) (map (λ (l : Look). l.0) ls)) ≡ false
    go true e rest = absurd (none-some l.1 (sym e))
    go false e rest = rest e

-- ---- the looks of one shell

pub no_looks : (o : List Turn) (shell : ℕ) → AreLooks o shell []
unfolding IsDistinct
no_looks o shell = record { paths = All-nil (λ (l : Look). IsPath l.0); apart = tt; later = λ entry txn e. All-nil (λ (l : Look). entry < l.1) }

one_more : (o : List Turn) (shell : ℕ) (looks : List Look) (path : List (List ℕ)) (position : ℕ) → AreLooks o shell looks → IsPath path → position_at looks path ≡ None → position ≡ length o → AreLooks o shell (looks ++ (path, position) ∷ [])
one_more o shell looks path position a valid unseen now = record {
  paths = All-push (λ (l : Look). IsPath l.0) looks (path, position) a.paths valid;
  apart = subst (IsDistinct (eq_by_cmp path_cmp)) (sym (map-append (λ (l : Look). l.0) looks ((path, position) ∷ []))) (IsDistinct-push (eq_by_cmp_equiv path_total) (map (λ (l : Look). l.0) looks) path a.apart (none_same looks path unseen));
  later = λ entry txn e. All-push (λ (l : Look). entry < l.1) looks (path, position) (a.later entry txn e) (let within : entry < length o = slice_get_within o entry (shell, txn) e in omega arith);
}

-- another shell's entry
grown : (o : List Turn) (shell txn k : ℕ) (looks : List Look) → k ≢ shell → AreLooks o k looks → AreLooks (o ++ (shell, txn) ∷ []) k looks
grown o shell txn k looks other a = record { paths = a.paths; apart = a.apart; later = λ entry t e. at entry t (slice_get_push o (shell, txn) entry (k, t) e) }
  where
    at : (entry t : ℕ) → (slice_get o entry ≡ Some (k, t)) ⊎ (◌≡◌ {A = Turn} (shell, txn) (k, t)) → All (λ (l : Look). entry < l.1) looks
    at entry t (inl e) = a.later entry t e
    at entry t (inr e) = absurd (other (sym (ap (λ (t : Turn). t.0) e)))

-- ---- steps

pub sound_look : (base : BaseTree) (m m' : Machine) (shell : ℕ) (path : List (List ℕ)) (position : ℕ) → IsSound base m → Looks base m shell path position m' → IsSound base m'
sound_look base m m' shell path position s l = subst (IsSound base) (sym l.after) (record {
  legal = s.legal;
  shells = s.shells;
  wide = length-set m.looks shell (looks_of m shell ++ (path, position) ∷ []) ∙ s.wide;
  looks = λ k. set_looks (AreLooks m.order k) m.looks shell k (looks_of m shell ++ (path, position) ∷ []) (no_looks m.order k)
      (λ e. subst (λ k. AreLooks m.order k (looks_of m shell ++ (path, position) ∷ [])) (sym e) (one_more m.order shell (looks_of m shell) path position (s.looks shell) l.valid l.unseen l.now))
      (λ n. s.looks k);
})

pub shell_within : (base : BaseTree) (shell n : ℕ) → n < count_of base.plan shell → shell < length base.plan
shell_within base shell n h = ⊎_elim (λ (l : shell < length base.plan). l) (λ (g : length base.plan ≤ shell). absurd (let past : count_of base.plan shell ≡ 0 = ap length (get_or_past base.plan shell [] g) in omega arith)) (cases_lt shell (length base.plan))

pub sound_settle : (base : BaseTree) (m m' : Machine) (shell entry : ℕ) → IsSound base m → Settles base m shell entry m' → IsSound base m'
sound_settle base m m' shell entry s t =
    let room : next_number m.order shell < count_of base.plan shell = fewer_settled base m.order shell t.txn t.next in
    subst (IsSound base) (sym t.after) (record {
      legal = legal-next base m.order shell s.legal room;
      shells = All-push (λ (t : Turn). t.0 < length base.plan) m.order (shell, next_number m.order shell) s.shells (shell_within base shell (next_number m.order shell) room);
      wide = length-set m.looks shell [] ∙ s.wide;
      looks = λ k. set_looks (AreLooks (m.order ++ (shell, next_number m.order shell) ∷ []) k) m.looks shell k [] (no_looks (m.order ++ (shell, next_number m.order shell) ∷ []) k)
          (λ e. no_looks (m.order ++ (shell, next_number m.order shell) ∷ []) k)
          (λ n. grown m.order shell (next_number m.order shell) k (looks_of m k) n (s.looks k));
    })

pub sound_restart : (base : BaseTree) (m m' : Machine) (shell entry : ℕ) (path : List (List ℕ)) → IsSound base m → Restarts base m shell entry path m' → IsSound base m'
sound_restart base m m' shell entry path s t = subst (IsSound base) (sym t.after) (record {
  legal = s.legal;
  shells = s.shells;
  wide = length-set m.looks shell [] ∙ s.wide;
  looks = λ k. set_looks (AreLooks m.order k) m.looks shell k [] (no_looks m.order k) (λ e. no_looks m.order k) (λ n. s.looks k);
})

pub sound_step : (base : BaseTree) (m : Machine) (e : Event) (m' : Machine) → IsSound base m → Step base m e m' → IsSound base m'
sound_step base m (event.Look shell path position) m' s t = sound_look base m m' shell path position s t
sound_step base m (event.Settled shell entry) m' s t = sound_settle base m m' shell entry s t
sound_step base m (event.Conflict shell entry path) m' s t = sound_restart base m m' shell entry path s t

pub sound_run : (base : BaseTree) (m : Machine) (events : List Event) (m' : Machine) → IsSound base m → Run base m events m' → IsSound base m'
sound_run base m [] m' s r = subst (IsSound base) r s
sound_run base m (e ∷ events) m' s r = sound_run base r.0 events m' (sound_step base m e r.0 s r.1) r.2

pub sound_start : (base : BaseTree) → IsSound base (resting base [])
sound_start base = record {
  legal = legal_none base;
  shells = All-nil (λ (t : Turn). t.0 < length base.plan);
  wide = length-replicate (length base.plan) [];
  looks = λ shell. subst (AreLooks [] shell) (sym (none_looked (length base.plan) shell)) (no_looks [] shell);
}

pub reached_sound : (base : BaseTree) (m : Machine) → IsReached base m → IsSound base m
reached_sound base m r = sound_run base (resting base []) r.events m (sound_start base) r.run
