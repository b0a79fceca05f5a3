use Rattle.std.proofs.Common.{◌≡◌, take}
use Rattle.std.specs.List.{flat_map}
use Rattle.fx_report.specs.Print.{spelled}
use Rattle.fx_report.proofs.quotes.plain_len.Given as goal

abbrev pub invariant-loop-at : goal.invariant-loop-at
invariant-loop-at l = flat_map spelled (take l.at l.bytes) ≡ take l.at l.bytes
