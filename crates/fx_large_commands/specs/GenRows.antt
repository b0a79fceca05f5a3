-- What `gen` makes of its words, a number and OUT: the folder of the number's case, and a line.
use Rattle.std.specs.Prelude.{◌≡◌, ℕ, List, codes}
use Rattle.fx_outside.specs.Path.{parts}
use Rattle.fx_command.specs.Table.{Making}
use Rattle.fx_large_commands.specs.Case.{Case, case_of, IsCaseWritten, IsPartlyWritten}

abbrev pub generated : List ℕ
generated = codes "generated\n"

abbrev pub gen_making : ℕ → List ℕ → Making Case
gen_making number out = record {
  out = out;
  comes = λ c t. c ≡ case_of number;
  stands = λ c t t'. IsCaseWritten t t' (parts out) c;
  begun = λ c t t'. IsPartlyWritten t t' (parts out) c;
  prints = λ c. generated;
}
