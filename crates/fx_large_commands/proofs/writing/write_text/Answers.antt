use Rattle.std.proofs.Common.{◌≡◌, ◌++◌, ◌∷◌, [], true, Some, refl, ap, sym, subst, ◌∙◌}
use Rattle.fx_outside.specs.Path.{parts}
use Rattle.fx_outside.specs.Tree.{file}
use Rattle.fx_folder.proofs.Texts.{parts_below, fit_alone}
use Rattle.fx_folder.proofs.Writes.{wrote_at, part_at}
use Rattle.fx_large_commands.proofs.writing.write_text.Goals as goal

pub returns-clause-written : goal.returns-clause-written
returns-clause-written g c =
    wrote_at c.write_file.result _ _ (parts c.in_ok-place.place) (parts c.args.folder.now ++ c.args.name.now ∷ []) (Some (file c.args.text.now)) (Some (file c.args.text.now)) (ap parts c.in_ok-place.ensures ∙ parts_below c.args.folder.now c.args.name.now c.requires.name) refl c.write_file.ensures.written

pub returns-clause-partly : goal.returns-clause-partly
returns-clause-partly g c =
    part_at c.write_file.result _ _ (parts c.in_ok-place.place) (parts c.args.folder.now ++ c.args.name.now ∷ []) (Some (file c.args.text.now)) (Some (file c.args.text.now)) (ap parts c.in_ok-place.ensures ∙ parts_below c.args.folder.now c.args.name.now c.requires.name) refl c.write_file.ensures.partly

pub returns-clause-fit : goal.returns-clause-fit
returns-clause-fit g c = λ lets. c.write_file.ensures.fit (subst (λ p. (g.H.Host.view c.args.host.now).guard.may_write p ≡ true) (sym c.in_ok-place.ensures) (lets.below c.args.name.now (fit_alone c.args.name.now c.requires.name)))
