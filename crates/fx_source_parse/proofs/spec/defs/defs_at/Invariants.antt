use Rattle.std.proofs.Common.{◌≡◌, ◌-◌, length}
use Rattle.fx_parse.specs.Reader.{kinds}
use Rattle.fx_source_parse.specs.Descriptions.Reader.{defs_from, defs_at}
use Rattle.fx_source_parse.proofs.spec.defs.defs_at.Given as goal

abbrev pub invariant-loop-i : goal.invariant-loop-i
invariant-loop-i l = defs_at 64 (kinds l.tokens) ≡ defs_from 64 (length l.tokens - l._i) l.defs (kinds l.rest)
