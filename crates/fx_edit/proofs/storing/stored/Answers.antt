use Rattle.std.proofs.Common.{Bool, Err, ap, subst, sym, ◌∙◌}
use Rattle.fx_store.specs.declared.node.Node.{Node}
use Rattle.fx_expr.specs.Views.{tree_of}
use Rattle.fx_spec.specs.Edit as edit
use Rattle.fx_spec.specs.Parts.{place_part}
use Rattle.fx_spec.specs.SpecTree.{SpecTree}
use Rattle.fx_edit.specs.Rules.{store_there}
use Rattle.fx_edit.specs.Values.{Tells}
use Rattle.fx_edit.proofs.Edited.{told_halts, told_goes}
use Rattle.fx_edit.proofs.Exits.{by_rule}
use Rattle.fx_edit.proofs.storing.stored.Goals as goal

pub returns-in_err-node : goal.returns-in_err-node
returns-in_err-node g c =
    record {
      follows =
          told_halts (λ (n : Node). n) (edit.stored_node (place_part c.args.place.now) (tree_of c.args.value.now)) (store_there (edit.is_flag (tree_of c.args.value.now)) c.args.place.now.path.now) c.in_err-node.field-0.0 c.from_residual.result c.from_residual.ensures.1
          (subst (λ (s : SpecTree). Tells (λ (n : Node). n) (edit.stored_node s (tree_of c.args.value.now)) (Err c.in_err-node.field-0.0)) c.part.ensures c.in_err-node.ensures);
    }

pub returns : goal.returns
returns g c =
    record {
      follows =
          told_goes (λ (n : Node). n) (edit.stored_node (place_part c.args.place.now) (tree_of c.args.value.now)) (store_there (edit.is_flag (tree_of c.args.value.now)) c.args.place.now.path.now) c.store_node.result (ap (λ (s : SpecTree). edit.stored_node s (tree_of c.args.value.now)) (sym c.part.ensures) ∙ c.in_ok-node.ensures)
          (by_rule (ap (λ (flag : Bool). store_there flag c.args.place.now.path.now c.in_ok-node.node) (sym c.is_flag.ensures)) c.store_node.ensures.follows);
    }
