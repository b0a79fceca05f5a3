-- Where a step leads, and what is kept of it.
use Rattle.fx_view.specs.ReadList.{ReadList}
use Rattle.std.specs.Prelude.{◌≡◌, ℕ, List, [], ◌∷◌, ◌++◌, take, Option, Some, None, Result, Ok, Err, IfOk}
use Rattle.std.specs.Option.{IfSome, option_map, unwrap_or}
use Rattle.fx_store.specs.Rule.{Known, Ask, Found, follow}
use Rattle.fx_expr.specs.Tree.{Tree}
use Rattle.fx_expr.specs.Views.{tree_of}
use Rattle.fx_spec.specs.Describe.{Bindings}
use Rattle.fx_spec.specs.Move.{Answered, element}
use Rattle.fx_spec.specs.Place.{Step, Elem, Address, PlaceTree, placed, lead}
use Rattle.fx_spec.specs.SpecTree.{SpecTree}
use Rattle.fx_view.specs.declared.reader.Stop.{Stop}
use Rattle.fx_view.specs.Meaning.{Meaning}
use Rattle.fx_view.specs.Own.{own_at}
use Rattle.fx_view.specs.Reads.{known_of}
use Rattle.fx_session.specs.declared.halt.Halt.{Halt}
use Rattle.fx_session.specs.Answering.{answered}
use Rattle.fx_session.specs.declared.session.Session.{Session}
use Rattle.fx_session.specs.Implements.{Implements, Answers}
use Rattle.fx_session.specs.Halts.{split}
use Rattle.fx_steps.specs.declared.frame.Bound.{Bound}
use Rattle.fx_steps.specs.declared.frame.Bound.TheVariants as bounds
use Rattle.fx_steps.specs.declared.frame.Frame.{Frame}
use Rattle.fx_steps.specs.declared.frame.Spot.{Spot}
use Rattle.fx_steps.specs.declared.frame.Chosen.{Chosen}
use Rattle.fx_steps.specs.declared.frame.Entry.{Entry}
use Rattle.fx_steps.specs.declared.frame.Inner.{Inner}
use Rattle.fx_steps.specs.declared.frame.Inner.TheVariants as inner
use Rattle.fx_steps.specs.declared.step.Step.TheVariants as steps
use Rattle.fx_expr.specs.declared.value.Value.TheVariants as values
use Rattle.fx_steps.specs.Around.{around, IsHeldSet}
use Rattle.fx_steps.specs.Parts.{child}
use Rattle.fx_steps.specs.Steps.{step_tree}
use Rattle.fx_steps.specs.Telling.{Says, TellsWithin}

-- the names after a step: those before it, one more, or others
abbrev pub grown : Bindings → Bound → Bindings
grown env bounds.Nothing = env
grown env (bounds.Name x v) = env ++ (x, tree_of v) ∷ []
grown env (bounds.Names names) = names

-- the one name more
abbrev pub bound_name : Bound → Option (List ℕ × Tree)
bound_name bounds.Nothing = None
bound_name (bounds.Name x v) = Some (x, tree_of v)
bound_name (bounds.Names names) = None

-- the names before the step, where it binds others
abbrev pub caller_in : Bindings → Bound → Option Bindings
caller_in env bounds.Nothing = None
caller_in env (bounds.Name x v) = None
caller_in env (bounds.Names names) = Some env

-- the frame of a spot
abbrev pub framed : Bindings → Spot → Frame
framed env spot = record { path = spot.path; set = spot.set; reads = spot.reads; caller = caller_in env spot.bound }

-- the place of a spot
abbrev pub spot_place : Bindings → SpecTree → Spot → PlaceTree
spot_place env spec spot = placed spot.path (grown env spot.bound) spec

-- the spot keeps the set of the comprehension, and from its names those before it come back
pub record IsSpot (step : Step) (env : Bindings) (spec : SpecTree) (spot : Spot) : Type 0 where
  pub held : IsHeldSet step spot.set env spec
  pub back : around step (caller_in env spot.bound) (grown env spot.bound) ≡ env

-- the step leads from a place to the spot
pub record LeadsToSpot (reads : ReadList) (own : Known) (step : Step) (p : List (List ℕ)) (env : Bindings) (spec : SpecTree) (spot : Spot) : Type 0 where
  pub found : follow (known_of (take spot.reads reads)) own (lead step p env spec) ≡ Found (Some (spot_place env (child step spec) spot))
  pub fits : IsSpot step env spec spot

-- a spot at the path that binds the name to the text, with the set
pub record BindsText (p : List (List ℕ)) (x t : List ℕ) (set : List (List ℕ)) (spot : Spot) : Type 0 where
  pub path : spot.path ≡ p
  pub held : spot.set ≡ Some set
  pub bound : bound_name spot.bound ≡ Some (x, Tree.str t)

-- one that binds the name to the value
pub record BindsValue (p : List (List ℕ)) (x : List ℕ) (v : Tree) (spot : Spot) : Type 0 where
  pub path : spot.path ≡ p
  pub bound : bound_name spot.bound ≡ Some (x, v)

-- one that binds these names alone
pub record BindsNames (p : List (List ℕ)) (names : Bindings) (spot : Spot) : Type 0 where
  pub path : spot.path ≡ p
  pub bound : spot.bound ≡ bounds.Names names

-- the value that a spot binds
abbrev pub bound_value : Spot → Tree
bound_value spot = unwrap_or (option_map (λ (b : List ℕ × Tree). b.1) (bound_name spot.bound)) Tree.nothing

-- the call answers the spot to which the step leads, where it leads to one
pub record LeadsTo {R L : Type 0} (m : Meaning R) (step : Step) (p : List (List ℕ)) (env : Bindings) (spec : SpecTree) (was now : Session R L) (result : Result (Option Spot) Stop) : Type 0 where
  pub follows : Implements m (option_map (spot_place env (child step spec))) was now (lead step p env spec) result
  pub spot : IfOk result (λ o. IfSome o (LeadsToSpot (m.reads now.reader.now) (own_at now.own) step p env spec))

-- and consults nothing
pub record LeadsAt (step : Step) (p : List (List ℕ)) (env : Bindings) (spec : SpecTree) (was now : ℕ) (result : Result (Option Spot) Stop) : Type 0 where
  pub tells : TellsWithin (option_map (spot_place env (child step spec))) was now (lead step p env spec) result
  pub spot : IfOk result (λ o. IfSome o (IsSpot step env spec))

-- the spot at a path, for a step that binds nothing
abbrev pub bare_spot : List (List ℕ) → ℕ → Spot
bare_spot p reads = record { path = p; set = None; reads = reads; bound = bounds.Nothing }

-- the spot at a chosen element
abbrev pub chosen_spot : List (List ℕ) → Chosen → Spot
chosen_spot p chosen = record { path = p; set = Some chosen.set; reads = 0; bound = bounds.Name chosen.name (values.Str chosen.text) }

-- the spot in a body, where these names are bound
abbrev pub body_spot : List (List ℕ) → Bindings → Spot
body_spot p names = record { path = p; set = None; reads = 0; bound = bounds.Names names }

-- the entry at the path of a focus
abbrev pub down_entry : List (List ℕ) → Entry
down_entry p = record { step = steps.Down; spot = bare_spot p 0 }

-- the entry at a chosen element of the place at a path
abbrev pub chosen_entry : List (List ℕ) → Chosen → Entry
chosen_entry p chosen = record { step = steps.Elem chosen.text; spot = chosen_spot p chosen }

-- the entry at what stands inside the place at a path
abbrev pub inner_entry : List (List ℕ) → Inner → Entry
inner_entry p inner.First = record { step = steps.First; spot = bare_spot p 0 }
inner_entry p (inner.Element chosen) = chosen_entry p chosen
inner_entry p (inner.Inside reads) = record { step = steps.Inside; spot = bare_spot p reads }
inner_entry p (inner.Body names) = record { step = steps.Body; spot = body_spot p names }

-- what a move finds, as its entry
abbrev pub as_entry : {X : Type 0} → (X → Entry) → Result X Halt → Result Entry Halt
as_entry entry (Ok x) = Ok (entry x)
as_entry entry (Err e) = Err e

-- the call answers the entry of the step that the rule of a move adds
pub record Enters {R L : Type 0} (m : Meaning R) (rule : Address → Ask (Answered Address)) (p : List (List ℕ)) (env : Bindings) (spec : SpecTree) (was now : Session R L) (result : Result Entry Halt) : Type 0 where
  pub follows : (a : Address) → Answers m (λ e. step_tree e.step ∷ a) was now (rule a) result
  pub leads : IfOk result (λ e. LeadsToSpot (m.reads now.reader.now) (own_at now.own) (step_tree e.step) p env spec e.spot)

-- and consults nothing
pub record EntersAt (rule : Address → Ask (Answered Address)) (p : List (List ℕ)) (env : Bindings) (spec : SpecTree) (was now : ℕ) (result : Result Entry Halt) : Type 0 where
  pub tells : (a : Address) → TellsWithin (answered (λ e. step_tree e.step ∷ a)) was now (rule a) (split result)
  pub leads : (reads : ReadList) (own : Known) → IfOk result (λ e. LeadsToSpot reads own (step_tree e.step) p env spec e.spot)

-- the call answers the entry of the step that a move from the place adds
abbrev pub EntersBy : {R L : Type 0} → Meaning R → (Address → List (List ℕ) → Bindings → SpecTree → Ask (Answered Address)) → List (List ℕ) → Bindings → SpecTree → Session R L → Session R L → Result Entry Halt → Type 0
EntersBy m move p env spec was now result = Enters m (λ a. move a p env spec) p env spec was now result

abbrev pub StepsBy : (Address → List (List ℕ) → Bindings → SpecTree → Ask (Answered Address)) → List (List ℕ) → Bindings → SpecTree → ℕ → ℕ → Result Entry Halt → Type 0
StepsBy move p env spec was now result = EntersAt (λ a. move a p env spec) p env spec was now result

-- the call answers the entry of the chosen element, where there is one
pub record Chooses (p : List (List ℕ)) (x : List ℕ) (set : List (List ℕ)) (choice : Option (List ℕ)) (result : Result Entry Halt) : Type 0 where
  pub says : (a : Address) → Says (answered (λ e. step_tree e.step ∷ a)) (Some (element a choice)) (split result)
  pub spot : IfOk result (λ e. (t : List ℕ) → choice ≡ Some t → (step_tree e.step ≡ Elem t) × BindsText p x t set e.spot)
