use Rattle.std.proofs.Common.{◌≡◌, Ok, map}
use Rattle.std.specs.Slice.Iter.{iter_rest}
use Rattle.fx_check.specs.declared.fault.CheckFault.{CheckFault}
use Rattle.fx_check.specs.Checked.{checked_txns}
use Rattle.fx_check.specs.Gives.{IsFault}
use Rattle.fx_check.proofs.script.check_txns.Given as goal

abbrev pub invariant-loop-txn : goal.invariant-loop-txn
invariant-loop-txn l = record {
  fine : checked_txns (map (λ t. t.commands) (iter_rest l.txn-iterator)) ≡ Ok (map (λ t. t.commands) (iter_rest l.txn-iterator)) → checked_txns l.txns ≡ Ok l.txns;
  fails : (fault : CheckFault) → IsFault fault (checked_txns (map (λ t. t.commands) (iter_rest l.txn-iterator))) → IsFault fault (checked_txns l.txns);
}
