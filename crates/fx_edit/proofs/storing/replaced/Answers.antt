use Rattle.std.proofs.Common.{◌≡◌, true, List, [], ◌∷◌, Ok, ap, sym, ◌∙◌}
use Rattle.fx_store.specs.declared.changes.Change.{Change}
use Rattle.fx_store.specs.declared.node.Node.{Node}
use Rattle.fx_store.specs.Rule.{Answer}
use Rattle.fx_session.proofs.Halting.{no_memory_at_once}
use Rattle.fx_spec.specs.Edit as edit
use Rattle.fx_store.specs.Kinds.{is_file, is_link}
use Rattle.fx_edit.specs.Kinds.{is_alike}
use Rattle.fx_edit.proofs.Alike.{replaced-file, replaced-link}
use Rattle.fx_edit.proofs.Edited.{edit_answered}
use Rattle.fx_edit.proofs.storing.replaced.Goals as goal

pub returns-in_err-of-in-File : goal.returns-in_err-of-in-File
returns-in_err-of-in-File g c = record { follows = no_memory_at_once (edit.replaced c.args.flag c.args.path c.args.node c.args.found) c.from_residual.result c.from_residual.ensures.1 }

pub returns-in_err-of-in-Link : goal.returns-in_err-of-in-Link
returns-in_err-of-in-Link g c =
    record {
      follows =
          no_memory_at_once (edit.replaced c.args.flag c.args.path c.args.node c.args.found) c.from_residual-in_err-of-in-Link.result c.from_residual-in_err-of-in-Link.ensures.1;
    }

pub returns-in_ok-of-in-File : goal.returns-in_ok-of-in-File
returns-in_ok-of-in-File g c =
    record {
      follows =
          let alike : is_alike c.args.node c.args.found ≡ true = cc in
          let kind : is_file c.args.found ≡ true = ap (λ n. is_alike n c.args.found) (sym c.in-File.is) ∙ alike in
          edit_answered c.in_ok-of-in-File.field-0
          (ap (λ (n : Node). edit.replaced c.args.flag c.args.path n c.args.found) c.in-File.is
          ∙ replaced-file c.args.flag c.args.path c.in-File.bytes c.in-File.exec c.args.found kind
          ∙ ap (λ (cs : List Change). Answer (Ok cs)) (sym (c.in_ok-of-in-File.ensures ∙ ap (λ (n : Node). edit.set_to c.args.path n ∷ []) c.renewed-file.ensures)));
    }

pub returns-in_ok-of-in-Link : goal.returns-in_ok-of-in-Link
returns-in_ok-of-in-Link g c =
    record {
      follows =
          let alike : is_alike c.args.node c.args.found ≡ true = cc in
          let kind : is_link c.args.found ≡ true = ap (λ n. is_alike n c.args.found) (sym c.in-Link.is) ∙ alike in
          edit_answered c.in_ok-of-in-Link.field-0
          (ap (λ (n : Node). edit.replaced c.args.flag c.args.path n c.args.found) c.in-Link.is
          ∙ replaced-link c.args.flag c.args.path c.in-Link.text c.args.found kind
          ∙ ap (λ (cs : List Change). Answer (Ok cs)) (sym c.in_ok-of-in-Link.ensures));
    }
