use Rattle.std.proofs.Common.{◌≤◌, ◌+◌, vec_len}
use Rattle.std.specs.FinMap.{len}
use Rattle.fx_disk.proofs.disk.listed.Given as goal

abbrev pub invariant-loop-entry : goal.invariant-loop-entry
invariant-loop-entry l = len l.listing + l.entry-iterator.rest.len ≤ vec_len l.fn.entries
