use Rattle.std.proofs.Common.{sym, subst}
use Rattle.fx_store.specs.Names.{IsName}
use Rattle.fx_gen.proofs.Placing.{note_named}
use Rattle.fx_gen.proofs.files.add_note.Goals as goal

pub add_file-requires-clause-name : goal.add_file-requires-clause-name
add_file-requires-clause-name c = subst IsName (sym c.note_name.ensures) (note_named c.args.note c.requires.note)
