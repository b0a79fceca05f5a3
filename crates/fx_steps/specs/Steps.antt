-- The steps that the program keeps, as the steps of an address.
use Rattle.std.specs.Prelude.{List, [], ◌∷◌}
use Rattle.fx_spec.specs.Place as place
use Rattle.fx_steps.specs.declared.step.Step.{Step}
use Rattle.fx_steps.specs.declared.step.Step.TheVariants as step

abbrev pub step_tree : Step → place.Step
step_tree step.First = place.First
step_tree step.Second = place.Second
step_tree step.Inside = place.Inside
step_tree step.Down = place.Down
step_tree step.Body = place.Body
step_tree (step.Elem text) = place.Elem text

-- these in front of others, the last one first
abbrev pub turned_onto : {A B : Type 0} → (A → B) → List B → List A → List B
turned_onto f others [] = others
turned_onto f others (x ∷ xs) = turned_onto f (f x ∷ others) xs

-- the last one first, each seen by the function
abbrev pub turned : {A B : Type 0} → (A → B) → List A → List B
turned f xs = turned_onto f [] xs
