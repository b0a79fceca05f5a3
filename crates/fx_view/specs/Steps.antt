-- One step of a walk through a reader.
use Rattle.std.specs.Prelude.{ℕ, Option, Some, None, Result, Ok, Err}
use Rattle.fx_store.specs.declared.node.Landing.{Landing}
use Rattle.fx_store.specs.Rule.{Known, Ask}
use Rattle.fx_view.specs.declared.reader.Stop.{Stop}
use Rattle.fx_view.specs.declared.walk.Walk.{Walk}
use Rattle.fx_view.specs.Meaning.{Meaning}
use Rattle.fx_view.specs.Follows.{Follows}
use Rattle.fx_view.specs.Walks.{rule_of}

-- the step ends as the rule says, or leaves a walk: what follows the rule of that walk then follows the rule
abbrev pub StepsFrom : {R : Type 0} → Meaning R → Known → R × ℕ → R × ℕ → Ask Landing → Walk → Result (Option Landing) Stop → Type 0
StepsFrom m own old new rule after (Ok (Some l)) = Follows m (λ l. l) own old new rule (Ok l)
StepsFrom {R} m own old new rule after (Ok None) =
    (last : R × ℕ) (result : Result Landing Stop) → Follows m (λ l. l) own new last (rule_of after) result → Follows m (λ l. l) own old last rule result
StepsFrom m own old new rule after (Err why) = Follows {A = Landing} {X = Landing} m (λ l. l) own old new rule (Err why)
