-- What contracts see of a zipper.
use Rattle.std.specs.Prelude.{◌≡◌, ℕ, zero, suc, Bool, true, List, [], length, Option, nat_eq, refl}
use Rattle.std.specs.Coded.{Coded, code_by, coded×, coded_ℕ, coded_list, coded_option}
use Rattle.fx_expr.specs.Codes.{coded_bytes, coded_bindings}
use Rattle.fx_spec.specs.Codes.{coded_spec}
use Rattle.fx_spec.specs.Describe.{Bindings}
use Rattle.fx_spec.specs.Place.{Step, First, Second, Inside, Down, Body, Elem, Address, PlaceTree, placed}
use Rattle.fx_spec.specs.SpecTree.{SpecTree}
use Rattle.fx_steps.specs.contracts.frame.Frame as frame
use Rattle.fx_steps.specs.declared.frame.Frame.{Frame}
use Rattle.fx_steps.specs.Frames.{path_of}
use Rattle.fx_steps.specs.Parts.{part}

-- the root description, the address, the frames of its first steps, both with the last first, the names bound at the last
-- frame, and the set of the comprehension at which the zipper stands, where it's kept
pub record ZipTree : Type 0 where
  pub root : SpecTree
  pub address : Address
  pub frames : List Frame
  pub env : Bindings
  pub set : Option (List (List ℕ))

-- each step has its frame
abbrev pub is_settled : ZipTree → Bool
is_settled z = nat_eq (length z.frames) (length z.address)

abbrev pub IsSettled : ZipTree → Type 0
IsSettled z = is_settled z ≡ true

-- the place at which a settled zipper stands
abbrev pub here : ZipTree → PlaceTree
here z = placed (path_of z.frames) z.env (part z.root z.address)

-- ---- how the logic stores it

abbrev pub step_number : Step → ℕ
step_number First = 0
step_number Second = 1
step_number Inside = 2
step_number Down = 3
step_number Body = 4
step_number (Elem t) = 5

abbrev pub step_text : Step → List ℕ
step_text (Elem t) = t
step_text _ = []

abbrev pub step_from : ℕ → List ℕ → Step
step_from zero t = First
step_from (suc zero) t = Second
step_from (suc (suc zero)) t = Inside
step_from (suc (suc (suc zero))) t = Down
step_from (suc (suc (suc (suc zero)))) t = Body
step_from (suc (suc (suc (suc (suc n))))) t = Elem t

pub step_back : (s : Step) → step_from (step_number s) (step_text s) ≡ s
step_back First = refl
step_back Second = refl
step_back Inside = refl
step_back Down = refl
step_back Body = refl
step_back (Elem t) = refl

abbrev pub coded_step : Coded Step
coded_step = code_by (ℕ × List ℕ) (coded× coded_ℕ coded_bytes) (λ s. (step_number s, step_text s)) (λ p. step_from p.0 p.1) step_back

abbrev pub coded_zip : Coded ZipTree
coded_zip =
    code_by (SpecTree × (Address × (List Frame × (Bindings × Option (List (List ℕ))))))
    (coded× coded_spec (coded× (coded_list coded_step) (coded× (coded_list frame.the_row.coded) (coded× coded_bindings (coded_option (coded_list coded_bytes))))))
    (λ z. (z.root, (z.address, (z.frames, (z.env, z.set))))) (λ p. record { root = p.0; address = p.1.0; frames = p.1.1.0; env = p.1.1.1.0; set = p.1.1.1.1 }) (λ _. refl)
