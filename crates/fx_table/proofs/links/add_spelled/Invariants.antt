use Rattle.fx_table.proofs.Prelude.{◌≡◌, ◌++◌, take, spelling}
use Rattle.fx_table.proofs.links.add_spelled.Given as goal

abbrev pub invariant-loop-byte : goal.invariant-loop-byte
invariant-loop-byte l = l.text.items ≡ l.fn.text.items ++ spelling (take l.byte-index l.bytes)
