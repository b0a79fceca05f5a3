use Rattle.std.proofs.Common.{take}
use Rattle.fx_read_report.specs.Feeds.{LacksFeed}
use Rattle.fx_read_report.proofs.report.feed_in.Given as goal

abbrev pub invariant-loop-i : goal.invariant-loop-i
invariant-loop-i l = LacksFeed (take l.i l.bytes)
