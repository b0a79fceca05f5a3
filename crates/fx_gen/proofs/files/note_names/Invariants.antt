use Rattle.std.proofs.Common.{◌≡◌, map}
use Rattle.std.specs.List.{range_with_len}
use Rattle.fx_gen.specs.Notes.{note_name}
use Rattle.fx_gen.proofs.files.note_names.Given as goal

abbrev pub invariant-loop-note : goal.invariant-loop-note
invariant-loop-note l = l.names.items ≡ map note_name (range_with_len 0 l.note)
