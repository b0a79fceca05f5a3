use Rattle.std.proofs.Common.{◌-◌, length}
use Rattle.fx_durable.specs.Journal.{turns_of}
use Rattle.fx_durable.proofs.Spelling.{IsReadTo}
use Rattle.fx_durable.proofs.reading.read_pairs.Given as goal

abbrev pub invariant-records : goal.invariant-records
invariant-records l = IsReadTo l.bytes (turns_of l.pairs) l.place

abbrev pub decreases-records : goal.decreases-records
decreases-records l = length l.bytes - l.place
