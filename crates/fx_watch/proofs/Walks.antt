-- What a walk consults, and that nothing else decides what it finds.
use Rattle.std.proofs.Common.{◌≡◌, ℕ, ◌&&◌, ◌≤◌, ◌+◌, Bool, true, false, cond, not, List, [], ◌∷◌, ◌++◌, Contains, All, Option, Some, None, IsSome, is_some, Result, Ok, refl, sym, ap, subst, ◌∙◌, arith}
use Rattle.std.specs.Prelude.{◌↔◌, IsSomeAnd, MatchOption}
use Rattle.std.specs.Bool.{then_some}
use Rattle.std.specs.List.{list_all}
use Rattle.std.specs.Map.{keys_of}
use Rattle.std.specs.Ordering.{eq_by_cmp}
use Rattle.std.proofs.lemmas.Bool.{false≢true}
use Rattle.std.proofs.lemmas.List.Elements.{All-contains, All-head, All-tail, All-nil, All-cons, All-contains_itself, Contains-append_right}
use Rattle.fx_store.specs.Names.{path_cmp}
use Rattle.fx_store.specs.Orders.{path_eq_same}
use Rattle.fx_store.specs.Rule.{Ask, Answer, Look, Tick, asked, ticks, ◌>>=◌, changed, SameOn}
use Rattle.fx_store.specs.Whole.{Store}
use Rattle.fx_store.proofs.Asks.{depends, answer-bind, all_known}
use Rattle.fx_expr.specs.Tree.{Tree}
use Rattle.fx_spec.specs.SpecTree.{SpecTree}
use Rattle.fx_view.specs.Follows.{walked, Follows}
use Rattle.fx_view.specs.Meaning.{Meaning}
use Rattle.fx_view.specs.Own.{no_own, own_at}
use Rattle.fx_view.specs.OwnList.{OwnList}
use Rattle.fx_view.specs.declared.reader.Stop.{Stop}
use Rattle.fx_view.proofs.Wholes.{whole_vouched}
use Rattle.fx_view.specs.ReadList.{ReadList}
use Rattle.fx_view.specs.Reads.{known_of, read_at, IsRead, Agrees}
use Rattle.fx_view.proofs.Growing.{read_known}
use Rattle.fx_view.proofs.Rules.{walked_known, found_answer, found_asked}
use Rattle.fx_watch.specs.Validity.{IsWalked, IsFound, DiffersAt, Spares, has_value, root_rule, root_consulted}
use Rattle.fx_watch.specs.WatchView.{WatchView, AnswersFor}

abbrev Path : Type 0
Path = List (List ℕ)

-- what was read has its key
read_key : (reads : ReadList) (path : Path) → IsRead reads path → Contains (keys_of reads) path
read_key [] path h = absurd (false≢true h)
read_key (e ∷ es) path h = at (eq_by_cmp path_cmp path e.0) refl h (λ k. read_key es path k)
  where
    at : (b : Bool) → eq_by_cmp path_cmp path e.0 ≡ b → IsSome (cond b (Some e.1) (read_at es path)) → (IsRead es path → Contains (keys_of es) path) → Contains (e.0 ∷ keys_of es) path
    at true is k rest = subst (Contains (e.0 ∷ keys_of es)) (sym (path_eq_same path e.0 is)) (All-head (Contains (e.0 ∷ keys_of es)) e.0 (keys_of es) (All-contains_itself (e.0 ∷ keys_of es)))
    at false is k rest = Contains-append_right (e.0 ∷ []) (keys_of es) path (rest k)

-- whether there is a value is the rule's answer, mapped: it consults and evaluates the same
asked_mapped : {A B : Type 0} (S : Store) (rule : Ask A) (f : A → B) → asked S (rule >>= λ a. Answer (f a)) ≡ asked S rule
asked_mapped S (Answer a) f = refl
asked_mapped S (Look p next) f = ap (λ ps. p ∷ ps) (asked_mapped S (next (S p)) f)
asked_mapped S (Tick rule) f = asked_mapped S rule f

ticks_mapped : {A B : Type 0} (S : Store) (rule : Ask A) (f : A → B) → ticks S (rule >>= λ a. Answer (f a)) ≡ ticks S rule
ticks_mapped S (Answer a) f = refl
ticks_mapped S (Look p next) f = ticks_mapped S (next (S p)) f
ticks_mapped S (Tick rule) f = ap (λ n. 1 + n) (ticks_mapped S rule f)

module _ {R : Type 0} (m : Meaning R) (old new : R × ℕ) (rule : Ask (Option Tree)) (none : m.reads old.0 ≡ []) (S : Store) (agrees : Agrees (m.reads new.0) S) where
  -- a walk over a whole filestore
  pub is_walked : (valid : Bool) → Follows {A = Bool} {X = Bool} m (λ b. b) no_own old new (rule >>= λ v. Answer (is_some v)) (Ok valid) → IsWalked S rule (m.reads new.0) valid
  is_walked valid h =
      let mapped : Ask Bool = rule >>= λ v. Answer (is_some v) in
      let found = h.goes.0 in
      let went = h.goes.1 in
      let same : walked (known_of (m.reads new.0)) no_own mapped ≡ asked S rule = found_asked (known_of (m.reads new.0)) no_own S agrees mapped valid found ∙ asked_mapped S rule is_some in
      let kept : m.reads new.0 ≡ went.more = went.kept ∙ ap (λ l. l ++ went.more) none in
      record {
        valid_is = sym (found_answer (known_of (m.reads new.0)) no_own S agrees mapped valid found) ∙ answer-bind S rule (λ v. Answer (is_some v));
        asked_is = λ path. (
          (λ read. subst (λ ps. Contains ps path) same (All-contains (Contains (walked (known_of (m.reads new.0)) no_own mapped)) (keys_of went.more) path went.only (read_key went.more path (subst (λ l. IsRead l path) kept read)))),
          (λ has. read_known (m.reads new.0) path (All-contains (λ p. IsSome (known_of (m.reads new.0) p)) (walked (known_of (m.reads new.0)) no_own mapped) path (all_known (known_of (m.reads new.0)) (walked (known_of (m.reads new.0)) no_own mapped) (walked_known (known_of (m.reads new.0)) no_own mapped)) (subst (λ ps. Contains ps path) (sym same) has))),
        );
      }

  pub walked_most : (result : Result Bool Stop) → Follows {A = Bool} {X = Bool} m (λ b. b) no_own old new (rule >>= λ v. Answer (is_some v)) result → new.1 ≤ old.1 + ticks S rule
  walked_most result h = let most = h.most S agrees in let same = ticks_mapped S rule is_some in omega (arith, most, same)

-- ---- a step that changes nothing that was consulted

same_on : (ps : List Path) (S T : Store) → All (λ p. S p ≡ T p) ps → SameOn ps S T
same_on [] S T all = tt
same_on (p ∷ ps) S T all = (All-head (λ p. S p ≡ T p) p ps all, same_on ps S T (All-tail (λ p. S p ≡ T p) p ps all))

all_of : {X : Type 0} (P : X → Type 0) (xs : List X) → ((x : X) → Contains xs x → P x) → All P xs
all_of P [] each = All-nil P
all_of P (x ∷ xs) each = All-cons P x xs (each x (All-head (Contains (x ∷ xs)) x xs (All-contains_itself (x ∷ xs)))) (all_of P xs (λ y h. each y (Contains-append_right (x ∷ []) xs y h)))

pub spared : (root : SpecTree) (S T : Store) (changed : List Path) → DiffersAt changed S T → Spares root S changed → SameOn (root_consulted root S) S T
spared root S T changed differs spares =
    same_on (root_consulted root S) S T (all_of (λ p. S p ≡ T p) (root_consulted root S) (λ p has. differs p (λ in_changed. All-contains (λ path. Contains (root_consulted root S) path → ⊥) changed p spares in_changed has)))

pub spared_found : (root : SpecTree) (old new : Store) (changed : List Path) (reads : ReadList) (valid : Bool) → DiffersAt changed old new → Spares root old changed → IsFound root old reads valid → IsFound root new reads valid
spared_found root old new changed reads valid differs spares seen =
    let same = depends (root_rule root) old new (spared root old new changed differs spares) in
    record {
      valid_is = seen.valid_is ∙ ap is_some (sym same.0);
      asked_is = λ path. subst (λ ps. IsRead reads path ↔ Contains ps path) (sym same.1) (seen.asked_is path);
    }

-- what the code tests: that none of the changed paths was read
pub unread_spares : (root : SpecTree) (S : Store) (reads : ReadList) (valid : Bool) (changed : List Path) → IsFound root S reads valid → list_all (λ path. not (is_some (read_at reads path))) changed ≡ true → Spares root S changed
unread_spares root S reads valid [] seen e = All-nil (λ path. Contains (root_consulted root S) path → ⊥)
unread_spares root S reads valid (p ∷ ps) seen e = at (is_some (read_at reads p)) refl e (unread_spares root S reads valid ps seen)
  where
    at : (b : Bool) → is_some (read_at reads p) ≡ b → list_all (λ path. not (is_some (read_at reads path))) (p ∷ ps) ≡ true → (list_all (λ path. not (is_some (read_at reads path))) ps ≡ true → Spares root S ps) → Spares root S (p ∷ ps)
    at true is all rest = absurd (false≢true (subst (λ b. (not b && list_all (λ path. not (is_some (read_at reads path))) ps) ≡ true) is all))
    at false is all rest =
        All-cons (λ path. Contains (root_consulted root S) path → ⊥) p ps (λ has. let read : is_some (read_at reads p) ≡ true = (seen.asked_is p).1 has in false≢true (sym is ∙ read))
        (rest (subst (λ b. (not b && list_all (λ path. not (is_some (read_at reads path))) ps) ≡ true) is all))

pub spares_unread : (root : SpecTree) (S : Store) (reads : ReadList) (valid : Bool) (changed : List Path) → IsFound root S reads valid → Spares root S changed → list_all (λ path. not (is_some (read_at reads path))) changed ≡ true
spares_unread root S reads valid [] seen spares = refl
spares_unread root S reads valid (p ∷ ps) seen spares = at (is_some (read_at reads p)) refl (spares_unread root S reads valid ps seen (All-tail (λ path. Contains (root_consulted root S) path → ⊥) p ps spares))
  where
    at : (b : Bool) → is_some (read_at reads p) ≡ b → list_all (λ path. not (is_some (read_at reads path))) ps ≡ true → list_all (λ path. not (is_some (read_at reads path))) (p ∷ ps) ≡ true
    at true is rest = absurd (All-head (λ path. Contains (root_consulted root S) path → ⊥) p ps spares ((seen.asked_is p).0 is))
    at false is rest = subst (λ b. (not b && list_all (λ path. not (is_some (read_at reads path))) ps) ≡ true) (sym is) rest

-- whether there is a value stays
pub valid_stays : (root : SpecTree) (S T : Store) (changed : List Path) → DiffersAt changed S T → Spares root S changed → has_value root S ≡ has_value root T
valid_stays root S T changed differs spares =
    let same = depends (root_rule root) S T (spared root S T changed differs spares) in
    ap is_some (sym same.0)

found_stays : (root : SpecTree) (S T : Store) (changed : List Path) → DiffersAt changed S T → Spares root S changed → (found : Option (ReadList × Bool)) → IsSomeAnd found (λ f. IsFound root S f.0 f.1) → IsSomeAnd found (λ f. IsFound root T f.0 f.1)
found_stays root S T changed differs spares None h = h
found_stays root S T changed differs spares (Some f) h = spared_found root S T changed f.0 f.1 differs spares h

pub answers_stay : (watch : WatchView) (S T : Store) (changed : List Path) → DiffersAt changed S T → Spares watch.root S changed → AnswersFor watch S → AnswersFor watch T
answers_stay watch S T changed differs spares h = found_stays watch.root S T changed differs spares watch.found h

-- the answer is kept exactly where none of the changed paths was read
kept_found : (root : SpecTree) (S : Store) (reads : ReadList) (valid : Bool) (changed : List Path) (unread : Bool) → IsFound root S reads valid → unread ≡ list_all (λ path. not (is_some (read_at reads path))) changed → MatchOption (then_some unread valid) (Spares root S changed → ⊥) (λ v. Spares root S changed × (v ≡ has_value root S))
kept_found root S reads valid changed true found is = (unread_spares root S reads valid changed found (sym is), found.valid_is)
kept_found root S reads valid changed false found is = λ spares. false≢true (is ∙ spares_unread root S reads valid changed found spares)

pub kept_as : (watch : WatchView) (S : Store) (reads : ReadList) (valid : Bool) (changed : List Path) (unread : Bool) (kept : Option Bool) → watch.found ≡ Some (reads, valid) → unread ≡ list_all (λ path. not (is_some (read_at reads path))) changed → kept ≡ then_some unread valid → AnswersFor watch S → MatchOption kept (Spares watch.root S changed → ⊥) (λ v. Spares watch.root S changed × (v ≡ has_value watch.root S))
kept_as watch S reads valid changed unread kept there is kept_is answers =
    subst (λ k. MatchOption k (Spares watch.root S changed → ⊥) (λ v. Spares watch.root S changed × (v ≡ has_value watch.root S))) (sym kept_is)
    (kept_found watch.root S reads valid changed unread (subst (λ found. IsSomeAnd found (λ f. IsFound watch.root S f.0 f.1)) there answers) is)

-- a walk over a reader that has read nothing yet of a whole filestore
module _ {R : Type 0} (m : Meaning R) (own : OwnList) (old new : R × ℕ) (rule : Ask (Option Tree)) (none : own ≡ []) (unread : m.reads old.0 ≡ []) (begins : m.vouches old.0 old.0 (m.reads old.0)) (S : Store) (agrees : m.vouches old.0 new.0 (m.reads new.0) → Agrees (m.reads new.0) S) where
  abbrev mapped : Ask Bool
  mapped = rule >>= λ v. Answer (is_some v)

  bare : (result : Result Bool Stop) → Follows {A = Bool} {X = Bool} m (λ b. b) (own_at own) old new mapped result → Follows {A = Bool} {X = Bool} m (λ b. b) no_own old new mapped result
  bare result h = subst (λ o. Follows {A = Bool} {X = Bool} m (λ b. b) (own_at o) old new mapped result) none h

  agreed : (result : Result Bool Stop) → Follows {A = Bool} {X = Bool} m (λ b. b) no_own old new mapped result → Agrees (m.reads new.0) S
  agreed result h = agrees (whole_vouched m (λ b. b) old new mapped no_own result h old.0 begins)

  pub walked_alone : (valid : Bool) → Follows {A = Bool} {X = Bool} m (λ b. b) (own_at own) old new mapped (Ok valid) → IsWalked S rule (m.reads new.0) valid
  walked_alone valid h = is_walked m old new rule unread S (agreed (Ok valid) (bare (Ok valid) h)) valid (bare (Ok valid) h)

  pub most_alone : (result : Result Bool Stop) → Follows {A = Bool} {X = Bool} m (λ b. b) (own_at own) old new mapped result → new.1 ≤ old.1 + ticks S rule
  most_alone result h = walked_most m old new rule unread S (agreed result (bare result h)) result (bare result h)
