-- The frames and the steps of an address, the last one first.
use Rattle.std.specs.Prelude.{ℕ, Bool, true, false, List, [], ◌∷◌, Option, Some, None, ◌&&◌, nat_le}
use Rattle.fx_spec.specs.Describe.{Bindings}
use Rattle.fx_spec.specs.Place.{Step, Elem, Address}
use Rattle.fx_steps.specs.declared.frame.Frame.{Frame}
use Rattle.fx_steps.specs.Around.{around}

-- the path of the last frame, or the root path
abbrev pub path_of : List Frame → List (List ℕ)
path_of [] = []
path_of (f ∷ fs) = f.path

abbrev pub last_step : Address → Option Step
last_step [] = None
last_step (step ∷ above) = Some step

abbrev pub is_element : Option Step → Bool
is_element (Some (Elem t)) = true
is_element _ = false

abbrev pub last_set : List Frame → Option (List (List ℕ))
last_set [] = None
last_set (f ∷ fs) = f.set

abbrev pub last_caller : List Frame → Option Bindings
last_caller [] = None
last_caller (f ∷ fs) = f.caller

abbrev pub around_last : Address → Option Bindings → Bindings → Bindings
around_last [] caller env = env
around_last (step ∷ above) caller env = around step caller env

-- each frame's place is told by as many reads at most
abbrev pub are_told : ℕ → List Frame → Bool
are_told n [] = true
are_told n (f ∷ fs) = nat_le f.reads n && are_told n fs
