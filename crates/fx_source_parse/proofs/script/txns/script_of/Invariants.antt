use Rattle.std.proofs.Common.{◌≡◌, ◌-◌, length}
use Rattle.fx_parse.specs.Reader.{kinds}
use Rattle.fx_source_parse.specs.Scripts.Reader.{txns_at, read_script}
use Rattle.fx_source_parse.proofs.script.txns.script_of.Given as goal

abbrev pub invariant-loop-i : goal.invariant-loop-i
invariant-loop-i l = read_script (kinds l.tokens) ≡ txns_at (length l.tokens - l._i) l.txns (kinds l.rest)
