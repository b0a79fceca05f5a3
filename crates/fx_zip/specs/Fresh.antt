-- A zipper whose frames are those of the places that its steps have over what is known, with the own changes on top.
use Rattle.fx_view.specs.ReadList.{ReadList}
use Rattle.fx_view.specs.Meaning.{Meaning}
use Rattle.fx_view.specs.Own.{own_at}
use Rattle.fx_view.specs.Reads.{known_of}
use Rattle.std.specs.Prelude.{◌≡◌, ℕ, ◌-◌, Bool, true, false, cond, List, [], ◌∷◌, ◌++◌, length, take, drop, Option, Some, None}
use Rattle.fx_store.specs.Rule.{Known, Found, follow}
use Rattle.fx_spec.specs.Describe.{Bindings}
use Rattle.fx_spec.specs.Place.{Step, First, Second, Elem, Address, placed, lead}
use Rattle.fx_spec.specs.SpecTree.{SpecTree}
use Rattle.fx_session.specs.declared.session.Session.{Session}
use Rattle.fx_steps.specs.declared.frame.Frame.{Frame}
use Rattle.fx_steps.specs.Around.{around, IsHeldSet, IsSetOf}
use Rattle.fx_steps.specs.Frames.{path_of, last_step, is_element, last_set, last_caller, around_last, are_told}
use Rattle.fx_steps.specs.Parts.{child, part}
use Rattle.fx_zip.specs.Trees.{ZipTree, is_settled}

-- each step leads from the frame before it to its own, by what the first reads say, as many as the frame tells
abbrev pub AreFound : ReadList → Known → SpecTree → Address → List Frame → Bindings → Type 0
AreFound reads own root [] [] env = env ≡ []
AreFound reads own root [] (f ∷ fs) env = ⊥
AreFound reads own root (step ∷ above) [] env = ⊥
AreFound reads own root (step ∷ above) (f ∷ fs) env =
    (follow (known_of (take f.reads reads)) own (lead step (path_of fs) (around step f.caller env) (part root above)) ≡ Found (Some (placed f.path env (child step (part root above)))))
    × IsHeldSet step f.set (around step f.caller env) (part root above)
    × AreFound reads own root above fs (around step f.caller env)

-- the frames are those of the first steps; those of the others are not kept
pub record IsFresh (reads : ReadList) (own : Known) (z : ZipTree) : Type 0 where
  pub ahead : Address
  pub kept : Address
  pub whole : z.address ≡ ahead ++ kept
  pub found : AreFound reads own z.root kept z.frames z.env
  pub set : IsSetOf z.set z.env (part z.root z.address)

-- they are those of all steps
pub record Stands (reads : ReadList) (own : Known) (z : ZipTree) : Type 0 where
  pub found : AreFound reads own z.root z.address z.frames z.env
  pub set : IsSetOf z.set z.env (part z.root z.address)

-- the frames are found over what a session's reader knows, with its own changes on top
abbrev pub IsFreshIn : {R L : Type 0} → Meaning R → Session R L → ZipTree → Type 0
IsFreshIn m s z = IsFresh (m.reads s.reader.now) (own_at s.own) z

abbrev pub StandsIn : {R L : Type 0} → Meaning R → Session R L → ZipTree → Type 0
StandsIn m s z = Stands (m.reads s.reader.now) (own_at s.own) z

-- the step is that to a first part, or to a second
abbrev pub is_first : Option Step → Bool
is_first (Some First) = true
is_first _ = false

abbrev pub is_second_step : Option Step → Bool
is_second_step (Some Second) = true
is_second_step _ = false

-- at an element, the set around it, which its frame keeps
abbrev pub set_behind : ZipTree → Option (List (List ℕ))
set_behind z = cond (is_element (last_step z.address)) (last_set z.frames) None

-- without the last step's frame
abbrev pub unframed : ZipTree → ZipTree
unframed z = record { root = z.root; address = z.address; frames = drop 1 z.frames; env = around_last z.address (last_caller z.frames) z.env; set = set_behind z }

-- without any frame
abbrev pub unkept : ZipTree → ZipTree
unkept z = record { root = z.root; address = z.address; frames = []; env = []; set = None }

-- back by one step
abbrev pub left : ZipTree → ZipTree
left z =
    record {
      root = z.root;
      address = drop 1 z.address;
      frames = cond (is_settled z) (drop 1 z.frames) z.frames;
      env = cond (is_settled z) (around_last z.address (last_caller z.frames) z.env) z.env;
      set = cond (is_settled z) (set_behind z) None;
    }

-- the zipper does not stand at an element whose set is kept
abbrev pub IsNoElement : ZipTree → Type 0
IsNoElement z = (t : List ℕ) → last_step z.address ≡ Some (Elem t) → last_set z.frames ≡ None

-- the names bound before the last of so many steps
abbrev pub around_frame : Address → List Frame → Bindings → Bindings
around_frame a fs env = around_last (drop (length a - length fs) a) (last_caller fs) env

-- without the last frame
abbrev pub shorter : ZipTree → ZipTree
shorter z = record { root = z.root; address = z.address; frames = drop 1 z.frames; env = around_frame z.address z.frames z.env; set = None }

-- without the frames from the first on whose place is told by more reads: these are the frames
abbrev pub told_of : ℕ → List Frame → ZipTree → ZipTree
told_of n [] z = z
told_of n (f ∷ fs) z = cond (are_told n (f ∷ fs)) z (told_of n fs (shorter z))

abbrev pub told_by : ℕ → ZipTree → ZipTree
told_by n z = told_of n z.frames z
