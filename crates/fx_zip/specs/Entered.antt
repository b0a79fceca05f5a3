-- The zipper that has gone where a step leads, and where steps lead from its place.
use Rattle.fx_view.specs.ReadList.{ReadList}
use Rattle.std.specs.Prelude.{◌≡◌, ℕ, List, ◌∷◌, ◌++◌, length, drop, Option, None, Result, IfOk}
use Rattle.std.specs.Option.{IfSome, option_map}
use Rattle.fx_store.specs.Rule.{Known}
use Rattle.fx_spec.specs.Describe.{value}
use Rattle.fx_spec.specs.Place.{Step, Address}
use Rattle.fx_spec.specs.SpecTree.{SpecTree}
use Rattle.fx_view.specs.declared.reader.Stop.{Stop}
use Rattle.fx_view.specs.Meaning.{Meaning}
use Rattle.fx_session.specs.declared.session.Session.{Session}
use Rattle.fx_session.specs.Implements.{Implements}
use Rattle.fx_steps.specs.declared.frame.Spot.{Spot}
use Rattle.fx_steps.specs.declared.frame.Entry.{Entry}
use Rattle.fx_steps.specs.Frames.{path_of}
use Rattle.fx_steps.specs.Parts.{part}
use Rattle.fx_steps.specs.Spots.{framed, grown, bound_value, BindsValue, LeadsTo, LeadsToSpot}
use Rattle.fx_steps.specs.Steps.{step_tree}
use Rattle.fx_zip.specs.Trees.{ZipTree}

-- one frame more
abbrev pub kept_too : ZipTree → Spot → ZipTree
kept_too z spot = record { root = z.root; address = z.address; frames = framed z.env spot ∷ z.frames; env = grown z.env spot.bound; set = None }

-- one step more, with its frame
abbrev pub entered : ZipTree → Step → Spot → ZipTree
entered z step spot = record { root = z.root; address = step ∷ z.address; frames = framed z.env spot ∷ z.frames; env = grown z.env spot.bound; set = None }

-- the call answers the spot to which the first step without a frame leads, where it leads to one
pub record LeadsNext {R L : Type 0} (m : Meaning R) (z : ZipTree) (was now : Session R L) (result : Result (Option Spot) Stop) : Type 0 where
  pub ahead : Address
  pub step : Step
  pub kept : Address
  pub whole : z.address ≡ ahead ++ (step ∷ kept)
  pub long : length kept ≡ length z.frames
  pub leads : LeadsTo m step (path_of z.frames) z.env (part z.root kept) was now result

-- the call answers where the second part of the pair around a first part is, where the first part has a value
pub record FirstLeads {R L : Type 0} (m : Meaning R) (z : ZipTree) (was now : Session R L) (result : Result (Option Spot) Stop) : Type 0 where
  pub name : List ℕ
  pub first : SpecTree
  pub second : SpecTree
  pub form : part z.root (drop 1 z.address) ≡ SpecTree.pair name first second
  pub follows : Implements m (option_map bound_value) was now (value (path_of (drop 1 z.frames)) z.env first) result
  pub spot : IfOk result (λ o. IfSome o (λ spot. BindsValue (path_of (drop 1 z.frames)) name (bound_value spot) spot × (spot.reads ≡ length (m.reads now.reader.now))))

-- the entry's step leads from the place at which a zipper stands
abbrev pub LeadsFrom : ReadList → Known → ZipTree → Entry → Type 0
LeadsFrom reads own z e = LeadsToSpot reads own (step_tree e.step) (path_of z.frames) z.env (part z.root z.address) e.spot
