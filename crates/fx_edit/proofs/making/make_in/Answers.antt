use Rattle.std.proofs.Common.{ap, ◌∙◌, List, ℕ, ◌∷◌}
use Rattle.fx_store.specs.declared.node.Node.TheVariants.{Dir}
use Rattle.fx_spec.specs.Edit as edit
use Rattle.fx_edit.specs.Rules.{made_all}
use Rattle.fx_edit.proofs.Edited.{in_stops, in_tires, in_looks_stop, in_done}
use Rattle.fx_edit.proofs.making.make_in.Goals as goal

pub returns-in_err-listed : goal.returns-in_err-listed
returns-in_err-listed g c = record { follows = in_stops c.args.name.now (made_all c.args.here.now c.args.names.now c.args.node.now) c.from_residual.result c.from_residual.ensures.1 c.in_err-listed.ensures.follows }

pub returns-in_err-more : goal.returns-in_err-more
returns-in_err-more g c = record { follows = in_tires c.args.name.now (made_all c.args.here.now c.args.names.now c.args.node.now) c.from_residual-in_err-more.result c.from_residual-in_err-more.ensures.1 c.in_ok-listed.ensures.follows }

pub returns-in_err-edits : goal.returns-in_err-edits
returns-in_err-edits g c = record { follows = in_tires c.args.name.now (made_all c.args.here.now c.args.names.now c.args.node.now) c.from_residual-in_err-edits.result c.from_residual-in_err-edits.ensures.1 c.in_ok-listed.ensures.follows }

pub returns-in_err-look_at_rest : goal.returns-in_err-look_at_rest
returns-in_err-look_at_rest g c =
    record {
      follows =
          in_looks_stop c.args.name.now (made_all c.args.here.now c.args.names.now c.args.node.now) (c.in_ok-edits.ensures ∙ ap (λ (ns : List (List ℕ)). edit.set_to c.args.here.now (Dir ns) ∷ made_all c.args.here.now c.args.names.now c.args.node.now) c.in_ok-more.ensures) c.in_ok-listed.ensures.follows
          c.from_residual-in_err-look_at_rest.result c.from_residual-in_err-look_at_rest.ensures.1 c.in_err-look_at_rest.ensures.follows;
    }

pub returns : goal.returns
returns g c =
    record {
      follows =
          in_done c.args.name.now (made_all c.args.here.now c.args.names.now c.args.node.now) (c.in_ok-edits.ensures ∙ ap (λ (ns : List (List ℕ)). edit.set_to c.args.here.now (Dir ns) ∷ made_all c.args.here.now c.args.names.now c.args.node.now) c.in_ok-more.ensures) c.in_ok-listed.ensures.follows
          c.in_ok-look_at_rest.ensures.follows;
    }
