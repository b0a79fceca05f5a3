use Rattle.std.proofs.Common.{◌≡◌, ◌++◌, ◌∷◌, [], Some, ap, ◌∙◌}
use Rattle.fx_table.proofs.Parents.{vec_added}
use Rattle.fx_table.proofs.listing.add_name.Goals as goal

pub returns : goal.returns
returns c name last =
    let it : Some c.in-Some.name.now ≡ Some name = c.in-Some.ensures.name ∙ last in
    let same : c.in-Some.name.now ≡ name = cc in
    vec_added c.args.lists.now.items c.args.i c.index_mut.result.now c.push.new.self name c.requires.within c.index_mut.ensures.value
    (c.in_ok-push.ensures.items ∙ ap (λ n. c.index_mut.result.now.items ++ n ∷ []) (c.in_ok-name.ensures.copied ∙ same))
