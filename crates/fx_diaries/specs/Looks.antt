-- Reads as looks of the machine.
use Rattle.std.specs.Prelude.{List, map}
use Rattle.fx_view.specs.ReadList.{ReadList}
use Rattle.fx_machine.specs.Machine.{Look}

-- the looks that reads are of
abbrev pub looks_in : ReadList → List Look
looks_in reads = map (λ r. (r.0, r.1.1)) reads
