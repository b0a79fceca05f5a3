use Rattle.fx_session.proofs.Calls.{refused}
use Rattle.fx_edit.specs.Rules.{removing}
use Rattle.fx_edit.proofs.Removes.{removing_stops, removing_tires, removing_late, removing_done}
use Rattle.fx_edit.proofs.removing.remove_named.Goals as goal

pub returns-in_err-above : goal.returns-in_err-above
returns-in_err-above g c = record { follows = refused (removing c.args.path.now c.args.name.now) c.from_residual.result c.from_residual.ensures.1 }

pub returns-in_err-names : goal.returns-in_err-names
returns-in_err-names g c = record { follows = removing_stops c.args.path.now c.args.name.now c.in_ok-above.ensures c.from_residual-in_err-names.result c.from_residual-in_err-names.ensures.1 c.in_err-names.ensures.follows }

pub returns-in_err-without : goal.returns-in_err-without
returns-in_err-without g c = record { follows = removing_tires c.args.path.now c.args.name.now c.in_ok-above.ensures c.from_residual-in_err-without.result c.from_residual-in_err-without.ensures.1 c.in_ok-names.ensures.follows }

pub returns-in_err-edits : goal.returns-in_err-edits
returns-in_err-edits g c = record { follows = removing_tires c.args.path.now c.args.name.now c.in_ok-above.ensures c.from_residual-in_err-edits.result c.from_residual-in_err-edits.ensures.1 c.in_ok-names.ensures.follows }

pub returns-in_err-clear : goal.returns-in_err-clear
returns-in_err-clear g c =
    record {
      follows =
          removing_late c.args.path.now c.args.name.now c.in_ok-above.ensures c.in_ok-without.ensures c.in_ok-edits.ensures c.in_ok-names.ensures.follows
          c.from_residual-in_err-clear.result c.from_residual-in_err-clear.ensures.1 c.in_err-clear.ensures.follows;
    }

pub returns : goal.returns
returns g c =
    record {
      follows =
          removing_done c.args.path.now c.args.name.now c.in_ok-above.ensures c.in_ok-without.ensures c.in_ok-edits.ensures c.in_ok-names.ensures.follows
          c.in_ok-clear.ensures.follows;
    }
