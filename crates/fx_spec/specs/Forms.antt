-- The form of what a part means.
use Rattle.std.specs.Prelude.{◌≡◌, ℕ, List}
use Rattle.fx_expr.specs.ShapeTree.{ShapeTree}
use Rattle.fx_spec.specs.declared.part.Form.{Form}
use Rattle.fx_spec.specs.declared.part.Form.TheVariants as form
use Rattle.fx_spec.specs.Parts.{part_of}
use Rattle.fx_spec.specs.SpecTree.{SpecTree}
use Rattle.fx_spec.specs.Written.{DefTree}

abbrev pub IsForm : SpecTree → Form → Type 0
IsForm s form.File = s ≡ SpecTree.file
IsForm s form.Dir = s ≡ SpecTree.dir
IsForm s form.Link = s ≡ SpecTree.link
IsForm s (form.Focus e part) = s ≡ SpecTree.focus e.now (part_of part)
IsForm s (form.Pair x a b) = s ≡ SpecTree.pair x.now (part_of a) (part_of b)
IsForm s (form.Comp part x e) = s ≡ SpecTree.comp (part_of part) x.now e.now
IsForm s (form.Opt part) = s ≡ SpecTree.opt (part_of part)
IsForm s (form.Pred e) = s ≡ SpecTree.pred e.now
IsForm s (form.Call args params body) = s ≡ SpecTree.call args.now params.now (part_of body)
IsForm s (form.Last args) = (params : List (List ℕ × ShapeTree)) × (s ≡ SpecTree.last args.now params)

-- the parts of a form see these definitions
abbrev pub HasDefs : List DefTree → Form → Type 0
HasDefs defs (form.Focus e part) = part.defs.now ≡ defs
HasDefs defs (form.Pair x a b) = (a.defs.now ≡ defs) × (b.defs.now ≡ defs)
HasDefs defs (form.Comp part x e) = part.defs.now ≡ defs
HasDefs defs (form.Opt part) = part.defs.now ≡ defs
HasDefs defs (form.Call args params body) = body.defs.now ≡ defs
HasDefs defs _ = Unit {0}
