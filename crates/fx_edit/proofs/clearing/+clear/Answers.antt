use Rattle.std.proofs.Common.{[], ◌∷◌, arith, length-append}
use Rattle.fx_store.specs.Resolve.{◌/ₚ◌}
use Rattle.fx_spec.specs.Edit as edit
use Rattle.fx_session.proofs.Calls.{refused}
use Rattle.fx_edit.specs.Rules.{adding}
use Rattle.fx_edit.proofs.Addings.{clear-deep}
use Rattle.fx_edit.proofs.Changing.{changing_next, changing_stops, changing_ends}
use Rattle.fx_edit.proofs.Clears.{adds_none, clear_stops, clear_tires, clear_none, clear_some}
use Rattle.fx_edit.proofs.clearing.+clear.Goals as goal

pub clear-returns-in_err-listing : goal.clear-returns-in_err-listing
clear-returns-in_err-listing g t c = record { follows = clear_stops c.args.edits.now c.len.ensures.path.short c.from_residual.result c.from_residual.ensures.1 c.in_err-listing.ensures.follows }

pub clear-returns-in_err-copy-in-Some : goal.clear-returns-in_err-copy-in-Some
clear-returns-in_err-copy-in-Some g t c =
    record {
      follows =
          clear_tires c.args.edits.now c.len.ensures.path.short c.from_residual-in_err-copy-in-Some.result c.from_residual-in_err-copy-in-Some.ensures.1 c.in_ok-listing.ensures.follows;
    }

pub clear-returns-in_err-remove-in-Some : goal.clear-returns-in_err-remove-in-Some
clear-returns-in_err-remove-in-Some g t c =
    record {
      follows =
          clear_tires c.args.edits.now c.len.ensures.path.short c.from_residual-in_err-remove-in-Some.result c.from_residual-in_err-remove-in-Some.ensures.1 c.in_ok-listing.ensures.follows;
    }

pub clear-returns-in-None : goal.clear-returns-in-None
clear-returns-in-None g t c = record { follows = clear_none c.args.edits.now c.len.ensures.path.short c.in-None.is c.in_ok-listing.ensures.follows }

pub clear-returns-in_ok-remove-in-Some : goal.clear-returns-in_ok-remove-in-Some
clear-returns-in_ok-remove-in-Some g t c =
    record {
      follows =
          clear_some c.args.edits.now c.len.ensures.path.short c.in-Some.is c.in_ok-copy-in-Some.ensures.copied c.in_ok-remove-in-Some.ensures c.in_ok-listing.ensures.follows c.clear_names.ensures.follows;
    }

pub clear_entry-returns-then-len-ge-MAX_PATH_NAMES : goal.clear_entry-returns-then-len-ge-MAX_PATH_NAMES
clear_entry-returns-then-len-ge-MAX_PATH_NAMES g t c =
    record {
      follows =
          adds_none (edit.clear (c.args.path.now /ₚ c.args.name.now)) (clear-deep (c.args.path.now /ₚ c.args.name.now) (omega (arith, length-append c.args.path.now (c.args.name.now ∷ []), c.len.ensures.len)));
    }

pub clear_entry-returns-in_err-entry : goal.clear_entry-returns-in_err-entry
clear_entry-returns-in_err-entry g t c = record { follows = refused (adding c.args.edits.now (edit.clear (c.args.path.now /ₚ c.args.name.now))) c.from_residual.result c.from_residual.ensures.1 }

pub clear_names-returns-in_err-clear_entry : goal.clear_names-returns-in_err-clear_entry
clear_names-returns-in_err-clear_entry g t c = record { follows = changing_stops c.loop-name.invariant c.from_residual.result c.in-Some.ensures.steps c.from_residual.ensures.1 c.in_err-clear_entry.ensures.follows }

pub clear_names-loop-name-preserved : goal.clear_names-loop-name-preserved
clear_names-loop-name-preserved g t c = changing_next c.loop-name.invariant c.in-Some.ensures.steps c.in_ok-clear_entry.ensures.follows

pub clear_names-returns : goal.clear_names-returns
clear_names-returns g t c = record { follows = changing_ends c.loop-name.invariant c.in-None.ensures.steps.0 }
