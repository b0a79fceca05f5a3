use Rattle.std.proofs.Common.{Err, ap, subst, sym, ◌∙◌}
use Rattle.fx_store.specs.declared.node.Node.{Node}
use Rattle.fx_spec.specs.declared.refusal.Refusal.{Refusal}
use Rattle.fx_spec.specs.Edit as edit
use Rattle.fx_spec.specs.Move.{needed}
use Rattle.fx_spec.specs.Parts.{place_part}
use Rattle.fx_spec.specs.SpecTree.{SpecTree}
use Rattle.fx_edit.specs.Rules.{create_there}
use Rattle.fx_edit.specs.Values.{Tells}
use Rattle.fx_edit.proofs.Edited.{told_halts, told_goes}
use Rattle.fx_edit.proofs.creating.created.Goals as goal

pub returns-in_err-node : goal.returns-in_err-node
returns-in_err-node g c =
    record {
      follows =
          told_halts (λ (n : Node). n) (needed Refusal.NoDefault (edit.bare_node (place_part c.args.place.now))) (create_there c.args.place.now.path.now) c.in_err-node.field-0.0 c.from_residual.result c.from_residual.ensures.1
          (subst (λ (s : SpecTree). Tells (λ (n : Node). n) (needed Refusal.NoDefault (edit.bare_node s)) (Err c.in_err-node.field-0.0)) c.part.ensures c.in_err-node.ensures);
    }

pub returns : goal.returns
returns g c =
    record {
      follows =
          told_goes (λ (n : Node). n) (needed Refusal.NoDefault (edit.bare_node (place_part c.args.place.now))) (create_there c.args.place.now.path.now) c.create_node.result (ap (λ (s : SpecTree). needed Refusal.NoDefault (edit.bare_node s)) (sym c.part.ensures) ∙ c.in_ok-node.ensures) c.create_node.ensures.follows;
    }
