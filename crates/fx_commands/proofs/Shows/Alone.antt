-- A call over a reader that has read nothing yet of a whole filestore answers what its rule answers there.
use Rattle.std.proofs.Common.{◌≡◌, ℕ, true, List, [], Ok, Err, subst}
use Rattle.fx_store.specs.Rule.{Ask, Known, answer}
use Rattle.fx_store.specs.Whole.{Store}
use Rattle.fx_view.specs.declared.reader.Stop.{Stop}
use Rattle.fx_view.specs.declared.reader.Stop.TheVariants as stop
use Rattle.fx_view.specs.Follows.{Follows}
use Rattle.fx_view.specs.Meaning.{Meaning}
use Rattle.fx_view.specs.Own.{own_at}
use Rattle.fx_view.specs.OwnList.{OwnList}
use Rattle.fx_view.specs.Reads.{Agrees}
use Rattle.fx_view.proofs.Wholes.{whole_vouched, whole_answer, whole_needs}

pub alone_answer : {R A X : Type 0} (m : Meaning R) (view : X → A) (own : OwnList) (old new : R × ℕ) (rule : Ask A) (x : X) → own ≡ [] → Follows m view (own_at own) old new rule (Ok x) → m.vouches old.0 old.0 (m.reads old.0) → (S : Store) → (m.vouches old.0 new.0 (m.reads new.0) → Agrees (m.reads new.0) S) → answer S rule ≡ view x
alone_answer {X = X} m view own old new rule x none h begins S agrees =
    let bare = subst (λ o. Follows {X = X} m view (own_at o) old new rule (Ok x)) none h in
    whole_answer m view old new rule x bare S (agrees (whole_vouched m view old new rule (own_at []) (Ok x) bare old.0 begins))

pub alone_needs : {R A X : Type 0} (m : Meaning R) (view : X → A) (own : Known) (old new : R × ℕ) (rule : Ask A) (why : Stop) (path : List (List ℕ)) → Follows {X = X} m view own old new rule (Err why) → m.complete old.0 ≡ true → why ≡ stop.Needs path → ⊥
alone_needs {X = X} m view own old new rule why path h complete is =
    let needs = subst (λ why. Follows {X = X} m view own old new rule (Err why)) is h in
    whole_needs m view old new rule own path complete needs
