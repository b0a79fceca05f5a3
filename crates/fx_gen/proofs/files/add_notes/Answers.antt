use Rattle.std.proofs.Common.{◌++◌, ◌∷◌, [], ap, sym, ◌∙◌, arith}
use Rattle.fx_store.specs.declared.node.Node.TheVariants.{Dir}
use Rattle.fx_gen.specs.Draws.{Drawn}
use Rattle.fx_gen.specs.Notes.{made, placed_note, note_changes_to, note_names}
use Rattle.fx_gen.proofs.Placing.{notes_more, notes_none}
use Rattle.fx_gen.proofs.files.add_notes.Goals as goal

pub loop-note-init : goal.loop-note-init
loop-note-init c = record {
  number = cc;
  drawn = omega arith;
  changes =
      c.in_ok-add.ensures
      ∙ ap (λ x. c.args.changes.now.items ++ made (x, Dir c.in_ok-note_names.field-0) ∷ []) c.in_ok-copy.ensures.copied
      ∙ ap (λ x. c.args.changes.now.items ++ made (c.args.dir.now, Dir x) ∷ []) c.in_ok-note_names.ensures
      ∙ ap (λ l. c.args.changes.now.items ++ made (c.args.dir.now, Dir note_names) ∷ l) (sym (notes_none c.args.draws.now.number c.args.number));
}

pub loop-note-preserved : goal.loop-note-preserved
loop-note-preserved c =
    let inv = c.loop-note.invariant in
    let said = c.in_ok-add_note.ensures in
    let n = c.loop-note.note in
    let p = c.args.number in
    record {
      number = ap (λ (d : Drawn). d.number) said.made ∙ inv.number;
      drawn = omega (arith, ap (λ (d : Drawn). d.made) said.made, inv.drawn);
      changes =
          said.added
          ∙ ap (λ l. l ++ made (placed_note c.loop-note.draws.number p n) ∷ []) inv.changes
          ∙ ap (λ m. (c.args.changes.now.items ++ (made (c.args.dir.now, Dir note_names) ∷ note_changes_to c.args.draws.now.number p n)) ++ made (placed_note m p n) ∷ []) inv.number
          ∙ notes_more c.args.changes.now.items (made (c.args.dir.now, Dir note_names)) c.args.draws.now.number p n;
    }
