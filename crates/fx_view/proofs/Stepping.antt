-- Steps of a walk through a reader.
use Rattle.std.proofs.Common.{◌≡◌, ℕ, List, Option, Some, None, Result, Ok, Err, sym, subst}
use Rattle.fx_store.specs.declared.node.Node.{Node}
use Rattle.fx_store.specs.declared.node.Landing.{Landing}
use Rattle.fx_store.specs.Rule.{Known, Ask, Look, look}
use Rattle.fx_view.specs.declared.reader.Stop.{Stop}
use Rattle.fx_view.specs.declared.reader.Stop.TheVariants as stop
use Rattle.fx_view.specs.declared.walk.Walk.{Walk}
use Rattle.fx_view.specs.Meaning.{Meaning}
use Rattle.fx_view.specs.Follows.{Follows}
use Rattle.fx_view.specs.Steps.{StepsFrom}
use Rattle.fx_view.specs.Walks.{rule_of, rule_after}
use Rattle.fx_view.proofs.Calls.{follows_then, follows_stop, follows_then_answer, follows_then_refused}

module _ {R : Type 0} (m : Meaning R) (own : Known) (old new : R × ℕ) where
  module _ (path : List (List ℕ)) (next : Option Node → Ask Landing) where
    -- a look, and then the step by what is there
    pub steps_after_look : (seen : Option Node) (after : Walk) (landing : Option Landing) → Follows m (λ n. n) own old new (look path) (Ok seen) → next seen ≡ rule_after after landing
        → StepsFrom m own old new (Look path next) after (Ok landing)
    steps_after_look seen after (Some l) first e = follows_then_answer m (λ n. n) (λ l. l) own old new (look path) next seen l first e
    steps_after_look seen after None first e =
        λ last result h. follows_then m (λ n. n) (λ l. l) own old new (look path) next last seen result first (subst (λ (rule : Ask Landing). Follows m (λ l. l) own new last rule result) (sym e) h)

    pub look_stops : (why : Stop) → Follows {A = Option Node} {X = Option Node} m (λ n. n) own old new (look path) (Err why) → Follows {A = Landing} {X = Landing} m (λ l. l) own old new (Look path next) (Err why)
    look_stops why first = follows_stop m (λ n. n) (λ l. l) own old new (look path) next why first

    pub look_refused : (seen : Option Node) → Follows m (λ n. n) own old new (look path) (Ok seen) → Follows {A = Landing} {X = Landing} m (λ l. l) own old new (Look path next) (Err stop.NoMemory)
    look_refused seen first = follows_then_refused m (λ n. n) (λ l. l) own old new (look path) next seen first

  pub steps_landed : (rule : Ask Landing) (after : Walk) (landing : Option Landing) (l : Landing) → landing ≡ Some l → StepsFrom m own old new rule after (Ok landing) → Follows m (λ l. l) own old new rule (Ok l)
  steps_landed rule after landing l e steps = subst (λ o. StepsFrom m own old new rule after (Ok o)) e steps

  pub steps_on : (rule : Ask Landing) (after : Walk) (landing : Option Landing) (last : R × ℕ) (result : Result Landing Stop) → landing ≡ None → StepsFrom m own old new rule after (Ok landing) → Follows m (λ l. l) own new last (rule_of after) result → Follows m (λ l. l) own old last rule result
  steps_on rule after landing last result e steps h = (subst (λ o. StepsFrom m own old new rule after (Ok o)) e steps) last result h
