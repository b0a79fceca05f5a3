use Rattle.std.proofs.Common.{◌≡◌, ◌∙◌, ◌++◌, ◌∷◌, [], codes, OnOk, false, ap, subst}
use Rattle.fx_store.specs.declared.node.Node.TheVariants.{File, Dir, Link}
use Rattle.fx_gen.specs.Notes.{made}
use Rattle.fx_gen.proofs.Placing.{current_named, config_named, top_made}
use Rattle.fx_gen.proofs.files.add_top.Goals as goal

pub below-requires-clause-name : goal.below-requires-clause-name
below-requires-clause-name c = current_named

pub add_file-requires-clause-name : goal.add_file-requires-clause-name
add_file-requires-clause-name c = config_named

pub returns-clause-added : goal.returns-clause-added
returns-clause-added c =
    let chain : c.add_file.new.changes.items ≡ (c.args.changes.now.items ++ made ([], Dir c.in_ok-top_names.field-0) ∷ []) ++ made (codes "config" ∷ [], File c.in_ok-config.field-0.items false) ∷ [] =
    c.in_ok-add_file.ensures
    ∙ ap (λ l. l ++ made (c.root-root.result ++ codes "config" ∷ [], File c.in_ok-config.field-0.items false) ∷ []) (c.in_ok-add.ensures ∙ ap (λ x. c.args.changes.now.items ++ made (x, Dir c.in_ok-top_names.field-0) ∷ []) c.root.ensures)
    ∙ ap (λ x. (c.args.changes.now.items ++ made ([], Dir c.in_ok-top_names.field-0) ∷ []) ++ made (x ++ codes "config" ∷ [], File c.in_ok-config.field-0.items false) ∷ []) c.root-root.ensures
    in
    subst (λ l. OnOk c.add-2.result (c.add-2.new.changes.items ≡ l))
    (ap (λ l. l ++ made (c.in_ok-current.current, Link c.in_ok-target.target) ∷ []) chain
    ∙ top_made c.args.changes.now.items c.args.draws.now.number c.in_ok-current.current c.in_ok-top_names.field-0 c.in_ok-config.field-0.items c.in_ok-target.target (c.in_ok-current.ensures ∙ ap (λ x. x ++ codes "current" ∷ []) c.root-root.ensures) c.in_ok-top_names.ensures c.in_ok-config.ensures c.in_ok-target.ensures.link)
    c.add-2.ensures
