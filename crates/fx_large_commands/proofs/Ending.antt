-- A whole run of the base of a number is an end to which the command may come.
use Rattle.std.proofs.Common.{◌≡◌, ℕ, List, IfSome, sym, subst}
use Rattle.fx_store.specs.Whole.{Nodes}
use Rattle.fx_outside.specs.Host.{HostView}
use Rattle.fx_outside.specs.Sink.{SinkView}
use Rattle.fx_folder.specs.declared.readying.Out.{Out}
use Rattle.fx_folder.specs.Folder.{IsReady}
use Rattle.fx_board.specs.Board.{last_state}
use Rattle.fx_board.specs.Log.{Log}
use Rattle.fx_command.specs.declared.status.Status.{Status}
use Rattle.fx_command.specs.Saved.{SaveEnd}
use Rattle.fx_command.specs.Table.{CommandRow, making_only}
use Rattle.fx_command.proofs.Tables.{coming, save_row}
use Rattle.fx_command.proofs.Told.{if_some_map, some_unit}
use Rattle.fx_large_commands.specs.Summary.{summary}
use Rattle.fx_large_commands.specs.Base.{IsCaseBase, IsRunOf}
use Rattle.fx_large_commands.specs.LargeRows.{IsLargeOutcome, large_making}
use Rattle.fx_large_commands.proofs.Standing.{case_base}

module _ (number : ℕ) (log : Log) (run : IsRunOf number log) where
  outcome : (nodes : Nodes) (output : List ℕ) → nodes ≡ last_state log → output ≡ summary log.base log.order → IsLargeOutcome number nodes output
  outcome nodes output last is =
      record { base = log.base; order = log.order; begins = subst (λ b. IsCaseBase number b) (sym run.base) (case_base number); complete = run.complete; last = last; printed = is }

  pub left : (out : List ℕ) (nodes : Nodes) (output : List ℕ) (there : Out) (host host' : HostView) (sink sink' : SinkView) (st : Status)
      → nodes ≡ last_state log
      → output ≡ summary log.base log.order
      → IfSome host.told (λ t. IsReady t out there)
      → SaveEnd out there nodes output host host' sink sink' st
      → CommandRow (making_only (large_making number out)) host host' sink sink' st
  left out nodes output there host host' sink sink' st last is ready end =
      let m = making_only (large_making number out) in
      save_row m (nodes, output) there nodes host host' sink sink' (λ t _. tt) (λ t t' saved. saved) (λ t t' part. part)
      (coming m (nodes, output) there host (if_some_map (λ _. Unit {0}) (λ t. IsLargeOutcome number nodes output) host.told (λ t _. outcome nodes output last is) (some_unit host.told)) ready) st end
