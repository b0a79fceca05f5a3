use Rattle.std.proofs.Common.{◌≡◌, ◌+◌, ◌*◌, ◌++◌, ◌∷◌}
use Rattle.fx_store.specs.declared.node.Node.TheVariants.{Dir}
use Rattle.fx_gen.specs.Notes.{made, note_changes_to, note_names}
use Rattle.fx_gen.proofs.files.add_notes.Given as goal

abbrev pub invariant-loop-note : goal.invariant-loop-note
invariant-loop-note l = record {
  number : l.draws.number ≡ l.fn.draws.number;
  drawn : l.draws.made ≡ 1 + 2 * (8 * l.number + l.note);
  changes : l.changes.items ≡ l.fn.changes.items ++ (made (l.dir, Dir note_names) ∷ note_changes_to l.fn.draws.number l.number l.note);
}
