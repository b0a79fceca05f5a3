-- The names bound around a step, and the sets of comprehensions.
use Rattle.std.specs.Prelude.{◌≡◌, ℕ, ◌-◌, List, length, take, Option, Some, None, Ok}
use Rattle.std.specs.Option.{unwrap_or}
use Rattle.fx_expr.specs.Eval.{Outcome, eval_of}
use Rattle.fx_spec.specs.Describe.{Bindings}
use Rattle.fx_spec.specs.Place.{Step, Second, Body, Elem}
use Rattle.fx_spec.specs.SpecTree.{SpecTree}
use Rattle.fx_steps.specs.Telling.{set_answer}

-- the names bound around a step: to a second part and to an element it binds one more, and in a body the parameters alone are
-- bound, so that its frame keeps the caller's names
abbrev pub around : Step → Option Bindings → Bindings → Bindings
around Second caller env = take (length env - 1) env
around (Elem t) caller env = take (length env - 1) env
around Body caller env = unwrap_or caller env
around _ caller env = env

-- at an element, the set that the comprehension around it has
abbrev pub HasSet : Option (List (List ℕ)) → Outcome → Type 0
HasSet None o = ⊥
HasSet (Some set) o = set_answer o ≡ Ok set

abbrev pub IsHeldSet : Step → Option (List (List ℕ)) → Bindings → SpecTree → Type 0
IsHeldSet (Elem t) set env (SpecTree.comp s x e) = HasSet set (eval_of env e)
IsHeldSet _ set env spec = Unit {0}

-- a set that is kept at a comprehension is its set
abbrev pub IsSetOf : Option (List (List ℕ)) → Bindings → SpecTree → Type 0
IsSetOf None env spec = Unit {0}
IsSetOf (Some set) env (SpecTree.comp s x e) = set_answer (eval_of env e) ≡ Ok set
IsSetOf (Some set) env spec = Unit {0}
