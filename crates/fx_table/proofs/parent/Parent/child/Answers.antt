use Rattle.fx_table.proofs.Prelude.{◌≡◌, ◌++◌, ◌∷◌, [], rules, arith, ap, ◌∙◌, common_steps}
use Rattle.std.specs.Prelude.{string_bytes}
use Rattle.fx_table.specs.Places.{place_of}
use Rattle.fx_table.proofs.PlaceTexts.{front_behind}
use Rattle.fx_table.proofs.parent.Parent.child.Goals as goal

pub of-requires : goal.of-requires
of-requires c =
    let spelled : 47 ∷ c.as_str.result.now ≡ place_of c.args.self.now ++ 47 ∷ [] = rw (c.as_str.ensures.value, c.deref.ensures, ← c.self.view_is) c.self.invariant in
    let text : string_bytes c.push.new.self ≡ (c.as_str.result.now ++ c.last_name.result.now) ++ 47 ∷ [] = first_of (search rules, grind (arith, common_steps)) in
    ap (λ l. 47 ∷ l) text ∙ front_behind c.args.self.now c.args.path.now c.as_str.result.now c.last_name.result.now spelled (c.last_name.ensures.name c.args.self.now c.requires)
