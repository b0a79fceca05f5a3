use Rattle.std.proofs.Common.{◌++◌, ◌∷◌, [], ap, sym, subst, ◌∙◌, codes}
use Rattle.fx_store.specs.Names.{IsNameSet}
use Rattle.fx_gen.proofs.Placing.{count_named, log_named, notes_named, part_set}
use Rattle.fx_gen.proofs.files.parts.Goals as goal

pub add_name-requires : goal.add_name-requires
add_name-requires c = count_named

pub add_name-requires-2 : goal.add_name-requires-2
add_name-requires-2 c = log_named

pub add_name-requires-3 : goal.add_name-requires-3
add_name-requires-3 c = notes_named

pub from_vec-requires : goal.from_vec-requires
from_vec-requires c =
    subst IsNameSet
    (sym (c.in_ok-add_name-3.ensures ∙ ap (λ l. l ++ codes "notes" ∷ []) (c.in_ok-add_name-2.ensures ∙ ap (λ l. l ++ codes "log" ∷ []) (c.in_ok-add_name.ensures ∙ ap (λ l. l ++ codes "count" ∷ []) c.new-names.ensures.items))))
    part_set
