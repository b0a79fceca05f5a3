-- Readers of a whole filestore: their reads agree with it, so that a call over them answers what the rule answers there.
use Rattle.std.proofs.Common.{◌≡◌, ℕ, true, List, [], ◌∷◌, ◌++◌, Option, Some, None, Result, Ok, Err, ◌⊎◌, inl, inr, refl, ap, ◌∙◌, sym, subst}
use Rattle.std.specs.Prelude.{OnOk, OnErr}
use Rattle.std.specs.Option.{option_map}
use Rattle.std.proofs.lemmas.Bool.{true≢false}
use Rattle.std.proofs.lemmas.Option.{none-some, same_Some}
use Rattle.fx_store.specs.declared.node.Node.{Node}
use Rattle.fx_store.specs.Rule.{Known, Ask, answer}
use Rattle.fx_store.specs.Whole.{Store}
use Rattle.fx_view.specs.declared.reader.Stop.{Stop}
use Rattle.fx_view.specs.declared.reader.Stop.TheVariants as stop
use Rattle.fx_view.specs.Follows.{Follows}
use Rattle.fx_view.specs.Meaning.{Meaning}
use Rattle.fx_view.specs.Own.{no_own}
use Rattle.fx_view.specs.ReadList.{ReadList}
use Rattle.fx_view.specs.Reads.{read_at, known_of, Agrees}
use Rattle.fx_view.specs.Wholes.{AreOf}
use Rattle.fx_view.proofs.Calls.{went_by}
use Rattle.fx_view.proofs.Lists.{read_more_cases}
use Rattle.fx_view.proofs.Rules.{found_answer}

abbrev Path : Type 0
Path = List (List ℕ)

abbrev Read : Type 0
Read = Option Node × ℕ

-- one more read of a node of the filestore
pub of_more : (reads : ReadList) (path : Path) (S : Store) (n : Option Node) → S path ≡ n → AreOf S reads → AreOf S (reads ++ (path, (n, 0)) ∷ [])
of_more reads path S n there of q m position e = by (read_more_cases reads path (n, 0) q (m, position) e)
  where
    by : (read_at reads q ≡ Some (m, position)) ⊎ ((q ≡ path) × (◌≡◌ {A = Read} (n, 0) (m, position))) → (S q ≡ m) × (position ≡ 0)
    by (inl h) = of q m position h
    by (inr h) = (ap S h.0 ∙ there ∙ ap (λ (r : Read). r.0) h.1, sym (ap (λ (r : Read). r.1) h.1))

-- after a call that adds such a read, or leaves the reads
pub of_added : {X E : Type 0} (old new : ReadList) (path : Path) (S : Store) (n : Option Node) (result : Result X E) → OnOk result (new ≡ old ++ (path, (n, 0)) ∷ []) → OnErr result (new ≡ old) → S path ≡ n → AreOf S old → AreOf S new
of_added old new path S n (Ok x) ok err there of = subst (AreOf S) (sym ok) (of_more old path S n there of)
of_added old new path S n (Err e) ok err there of = subst (AreOf S) (sym err) of

-- a filestore agrees with reads of its own nodes
pub of_agrees : (S : Store) (reads : ReadList) → AreOf S reads → Agrees reads S
of_agrees S reads of q m e = at (read_at reads q) refl e
  where
    at : (found : Option Read) → read_at reads q ≡ found → option_map (λ (r : Read). r.0) found ≡ Some m → S q ≡ m
    at None is known = absurd (none-some m known)
    at (Some r) is known = (of q r.0 r.1 is).0 ∙ same_Some r.0 m known

module _ {R A X : Type 0} (m : Meaning R) (view : X → A) (old new : R × ℕ) (rule : Ask A) where
  -- what a reader has vouched for it still vouches for
  pub whole_vouched : (own : Known) (result : Result X Stop) → Follows m view own old new rule result → (start : R) → m.vouches start old.0 (m.reads old.0) → m.vouches start new.0 (m.reads new.0)
  whole_vouched own result h = (went_by m view own old.0 new.0 rule result h.goes).vouched

  -- with no own changes, the answer is the rule's at each filestore that agrees with the reads
  pub whole_answer : (x : X) → Follows m view no_own old new rule (Ok x) → (S : Store) → Agrees (m.reads new.0) S → answer S rule ≡ view x
  whole_answer x h S agrees = found_answer (known_of (m.reads new.0)) no_own S agrees rule (view x) h.goes.0

  -- a reader that can read every path needs none
  pub whole_needs : (own : Known) (path : Path) → m.complete old.0 ≡ true → Follows {A = A} {X = X} m view own old new rule (Err (stop.Needs path)) → ⊥
  whole_needs own path complete h = true≢false (sym complete ∙ h.goes.1)
