use Rattle.std.proofs.Common.{◌≡◌, ◌∙◌, ◌++◌, ◌∷◌, [], codes, OnOk, ap, sym, subst}
use Rattle.fx_store.specs.Names.{IsName}
use Rattle.fx_store.specs.declared.node.Node.TheVariants.{Dir}
use Rattle.fx_gen.specs.Notes.{project, made, note_names, note_changes_to}
use Rattle.fx_gen.proofs.Placing.{project_named, notes_named, project_made}
use Rattle.fx_gen.proofs.files.add_project.Goals as goal

pub below-requires-clause-name : goal.below-requires-clause-name
below-requires-clause-name c = subst IsName (sym c.project.ensures) (project_named c.args.number c.requires.number)

pub below-requires-2-clause-name : goal.below-requires-2-clause-name
below-requires-2-clause-name c = notes_named

pub returns-clause-added : goal.returns-clause-added
returns-clause-added c =
    let dir : c.in_ok-dir.dir ≡ project c.args.number ∷ [] = c.in_ok-dir.ensures ∙ ap (λ l. l ++ c.project.result ∷ []) c.root.ensures ∙ ap (λ n. n ∷ []) c.project.ensures in
    subst (λ l. OnOk c.add_notes.result (c.add_notes.new.changes.items ≡ l))
    (ap (λ l. l ++ made (c.in_ok-notes.notes, Dir note_names) ∷ note_changes_to c.args.draws.now.number c.args.number 8) c.in_ok-add_parts.ensures
    ∙ project_made c.args.changes.now.items c.args.draws.now.number c.args.number c.in_ok-dir.dir c.in_ok-notes.notes dir (c.in_ok-notes.ensures ∙ ap (λ l. l ++ codes "notes" ∷ []) dir))
    c.add_notes.ensures.added
