use Rattle.fx_table.proofs.Prelude.{◌≡◌, ◌++◌, ◌∷◌, [], rules, arith, ◌∙◌, common_steps}
use Rattle.fx_table.specs.Places.{place_of}
use Rattle.fx_table.proofs.PlaceTexts.{place_in}
use Rattle.fx_table.proofs.parent.Parent.place_below.Goals as goal

pub returns-clause-place : goal.returns-clause-place
returns-clause-place c =
    let spelled : 47 ∷ c.as_str-front.result.now ≡ place_of c.args.self.now ++ 47 ∷ [] = rw (c.as_str-front.ensures.value, c.deref.ensures, ← c.self.view_is) c.self.invariant in
    let text : c.from_string.result ≡ ((c.args.folder.now ++ 47 ∷ []) ++ c.as_str-front.result.now) ++ c.last_name-name.result.now = first_of (search rules, grind (arith, common_steps)) in
    text ∙ place_in c.args.folder.now c.as_str-front.result.now c.last_name-name.result.now c.args.self.now c.args.path.now spelled (c.last_name-name.ensures.name c.args.self.now c.requires)
