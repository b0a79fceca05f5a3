use Rattle.std.proofs.Common.{◌≡◌, ℕ, List, Err, false, ap, sym, ◌∙◌}
use Rattle.fx_store.specs.Rule.{Answer}
use Rattle.fx_session.proofs.Halting.{no_memory_at_once}
use Rattle.fx_spec.specs.declared.refusal.Refusal.{Refusal}
use Rattle.fx_spec.specs.Edit as edit
use Rattle.fx_edit.specs.Rules.{made_in, made_all}
use Rattle.fx_edit.proofs.Edited.{unless_deep-room, edit_refused, edit_stops, edit_done}
use Rattle.fx_edit.proofs.Makes.{make-is, make-none}
use Rattle.fx_edit.proofs.making.make.Goals as goal

pub returns-in_err-make_in-in-Some : goal.returns-in_err-make_in-in-Some
returns-in_err-make_in-in-Some g c =
    record {
      follows =
          let room : edit.is_too_deep c.args.here.now c.args.names.now c.args.node.now ≡ false = cc in
          let is = unless_deep-room (edit.is_too_deep c.args.here.now c.args.names.now c.args.node.now) (edit.make c.args.here.now c.args.names.now c.args.node.now) room ∙ make-is c.args.here.now c.args.names.now c.in-Some.name.now c.args.node.now (sym c.in-Some.ensures.name) in
          edit_stops {rule = made_in c.args.here.now c.in-Some.name.now (made_all c.args.here.now c.args.names.now c.args.node.now)} is c.from_residual.result c.from_residual.ensures.1 c.in_err-make_in-in-Some.ensures.follows;
    }

pub returns-in_ok-make_in-in-Some : goal.returns-in_ok-make_in-in-Some
returns-in_ok-make_in-in-Some g c =
    record {
      follows =
          let room : edit.is_too_deep c.args.here.now c.args.names.now c.args.node.now ≡ false = cc in
          let is = unless_deep-room (edit.is_too_deep c.args.here.now c.args.names.now c.args.node.now) (edit.make c.args.here.now c.args.names.now c.args.node.now) room ∙ make-is c.args.here.now c.args.names.now c.in-Some.name.now c.args.node.now (sym c.in-Some.ensures.name) in
          edit_done {rule = made_in c.args.here.now c.in-Some.name.now (made_all c.args.here.now c.args.names.now c.args.node.now)} is c.in_ok-make_in-in-Some.ensures.follows;
    }

pub returns-in_err-copy-in-None : goal.returns-in_err-copy-in-None
returns-in_err-copy-in-None g c =
    record {
      follows =
          no_memory_at_once (edit.unless_deep (edit.is_too_deep c.args.here.now c.args.names.now c.args.node.now) (edit.make c.args.here.now c.args.names.now c.args.node.now)) c.from_residual-in_err-copy-in-None.result c.from_residual-in_err-copy-in-None.ensures.1;
    }

pub returns-in_ok-copy-in-None : goal.returns-in_ok-copy-in-None
returns-in_ok-copy-in-None g c =
    record {
      follows =
          let room : edit.is_too_deep c.args.here.now c.args.names.now c.args.node.now ≡ false = cc in
          edit_refused (Refusal.Blocked c.in_ok-copy-in-None.field-0)
          (unless_deep-room (edit.is_too_deep c.args.here.now c.args.names.now c.args.node.now) (edit.make c.args.here.now c.args.names.now c.args.node.now) room
          ∙ make-none c.args.here.now c.args.names.now c.args.node.now (sym c.in-None.ensures.name)
          ∙ ap (λ (at : List (List ℕ)). Answer (Err (Refusal.Blocked at))) (sym c.in_ok-copy-in-None.ensures.copied));
    }
