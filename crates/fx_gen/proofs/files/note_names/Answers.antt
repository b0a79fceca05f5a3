use Rattle.std.proofs.Common.{◌≡◌, ◌++◌, ◌∷◌, [], map, ap, sym, subst, ◌∙◌, arith}
use Rattle.std.specs.List.{range_with_len}
use Rattle.fx_store.specs.Names.{IsName, IsNameSet}
use Rattle.fx_gen.specs.Notes.{note_name}
use Rattle.fx_gen.proofs.Placing.{note_named, note_set}
use Rattle.fx_gen.proofs.Ranges.{map_more}
use Rattle.fx_gen.proofs.files.note_names.Goals as goal

pub add_name-requires : goal.add_name-requires
add_name-requires c = subst IsName (sym c.note_name.ensures) (note_named c.loop-note.note (omega arith))

pub from_vec-requires : goal.from_vec-requires
from_vec-requires c =
    let end : c.loop-note.note ≡ 8 = omega arith in
    subst IsNameSet (sym (c.loop-note.invariant ∙ ap (λ n. map note_name (range_with_len 0 n)) end)) note_set

pub loop-note-preserved : goal.loop-note-preserved
loop-note-preserved c =
    c.in_ok-add_name.ensures
    ∙ ap (λ l. l ++ c.note_name.result ∷ []) c.loop-note.invariant
    ∙ ap (λ n. map note_name (range_with_len 0 c.loop-note.note) ++ n ∷ []) c.note_name.ensures
    ∙ sym (map_more note_name c.loop-note.note)
