use Rattle.std.proofs.Common.{◌≡◌, ◌++◌, ◌∷◌, [], map, ap, sym, subst, ◌∙◌, codes, arith}
use Rattle.std.specs.List.{range_with_len}
use Rattle.fx_store.specs.Names.{IsName, IsNameSet}
use Rattle.fx_gen.specs.Notes.{project}
use Rattle.fx_gen.proofs.Placing.{project_named, config_named, current_named, top_set}
use Rattle.fx_gen.proofs.Ranges.{map_more}
use Rattle.fx_gen.proofs.files.top_names.Goals as goal

pub add_name-requires : goal.add_name-requires
add_name-requires c = config_named

pub add_name-requires-2 : goal.add_name-requires-2
add_name-requires-2 c = current_named

pub add_name-requires-in-loop-number : goal.add_name-requires-in-loop-number
add_name-requires-in-loop-number c = subst IsName (sym c.project.ensures) (project_named c.loop-number.number (omega arith))

pub from_vec-requires : goal.from_vec-requires
from_vec-requires c =
    let end : c.loop-number.number ≡ 16 = omega arith in
    subst IsNameSet (sym (c.loop-number.invariant ∙ ap (λ n. codes "config" ∷ codes "current" ∷ map project (range_with_len 0 n)) end)) top_set

pub loop-number-init : goal.loop-number-init
loop-number-init c =
    c.in_ok-add_name-2.ensures ∙ ap (λ l. l ++ codes "current" ∷ []) (c.in_ok-add_name.ensures ∙ ap (λ l. l ++ codes "config" ∷ []) c.new-names.ensures.items)

pub loop-number-preserved : goal.loop-number-preserved
loop-number-preserved c =
    c.in_ok-add_name-3.ensures
    ∙ ap (λ l. l ++ c.project.result ∷ []) c.loop-number.invariant
    ∙ ap (λ n. codes "config" ∷ codes "current" ∷ (map project (range_with_len 0 c.loop-number.number) ++ n ∷ [])) c.project.ensures
    ∙ ap (λ l. codes "config" ∷ codes "current" ∷ l) (sym (map_more project c.loop-number.number))
