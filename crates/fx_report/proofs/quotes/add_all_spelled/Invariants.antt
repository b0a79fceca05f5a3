use Rattle.std.proofs.Common.{◌≡◌, ◌++◌, length}
use Rattle.std.specs.List.{flat_map}
use Rattle.fx_report.specs.Print.{spelled}
use Rattle.fx_report.proofs.quotes.add_all_spelled.Given as goal

abbrev pub invariant-adding : goal.invariant-adding
invariant-adding l = l.out.items ++ flat_map spelled l.rest ≡ l.fn.out.items ++ flat_map spelled l.bytes

abbrev pub decreases-adding : goal.decreases-adding
decreases-adding l = length l.rest
