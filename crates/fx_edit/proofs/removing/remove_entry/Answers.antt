use Rattle.fx_spec.specs.declared.refusal.Refusal.{Refusal}
use Rattle.fx_edit.proofs.Edited.{edit_refused, edit_stops, edit_done}
use Rattle.fx_edit.proofs.Removes.{has_last, remove_root-is, remove_entry-is}
use Rattle.fx_edit.proofs.removing.remove_entry.Goals as goal

pub remove_named-requires : goal.remove_named-requires
remove_named-requires g c = has_last c.args.path c.in-Some.name.now c.in-Some.ensures.name

pub returns-in_err-remove_named-in-Some : goal.returns-in_err-remove_named-in-Some
returns-in_err-remove_named-in-Some g c =
    record {
      follows =
          edit_stops (remove_entry-is c.args.path c.in-Some.name.now (has_last c.args.path c.in-Some.name.now c.in-Some.ensures.name)) c.from_residual.result c.from_residual.ensures.1 c.in_err-remove_named-in-Some.ensures.follows;
    }

pub returns-in_ok-remove_named-in-Some : goal.returns-in_ok-remove_named-in-Some
returns-in_ok-remove_named-in-Some g c = record { follows = edit_done (remove_entry-is c.args.path c.in-Some.name.now (has_last c.args.path c.in-Some.name.now c.in-Some.ensures.name)) c.in_ok-remove_named-in-Some.ensures.follows }

pub returns-in-None : goal.returns-in-None
returns-in-None g c = record { follows = edit_refused (Refusal.Blocked c.args.path) (remove_root-is c.args.path c.in-None.ensures.name) }
