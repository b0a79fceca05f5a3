-- The part of a description to which an address leads, whatever a filestore has.
use Rattle.std.specs.Prelude.{ℕ, List, [], ◌∷◌, Option, Some, None}
use Rattle.fx_spec.specs.Place.{Step, First, Second, Inside, Down, Body, Elem, Address}
use Rattle.fx_spec.specs.SpecTree.{SpecTree}

-- a step that the form lacks leads back to it
abbrev pub child : Step → SpecTree → SpecTree
child First (SpecTree.pair x a b) = a
child Second (SpecTree.pair x a b) = b
child (Elem t) (SpecTree.comp s x e) = s
child Inside (SpecTree.opt s) = s
child Down (SpecTree.focus e s) = s
child Body (SpecTree.call args params s) = s
child _ spec = spec

abbrev pub part : SpecTree → Address → SpecTree
part root [] = root
part root (step ∷ above) = child step (part root above)

-- the description has another form
abbrev pub IsNoPair : SpecTree → Type 0
IsNoPair (SpecTree.pair x a b) = ⊥
IsNoPair _ = Unit {0}

abbrev pub IsNoComp : SpecTree → Type 0
IsNoComp (SpecTree.comp s x e) = ⊥
IsNoComp _ = Unit {0}

abbrev pub IsNoFocus : SpecTree → Type 0
IsNoFocus (SpecTree.focus e s) = ⊥
IsNoFocus _ = Unit {0}

abbrev pub IsNoOption : SpecTree → Type 0
IsNoOption (SpecTree.opt s) = ⊥
IsNoOption _ = Unit {0}

abbrev pub IsNoCall : SpecTree → Type 0
IsNoCall (SpecTree.call args params s) = ⊥
IsNoCall _ = Unit {0}

-- the name of a comprehension
abbrev pub comp_name : SpecTree → Option (List ℕ)
comp_name (SpecTree.comp s x e) = Some x
comp_name _ = None
