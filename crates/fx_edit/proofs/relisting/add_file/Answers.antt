use Rattle.fx_edit.proofs.Clears.{file_stops, file_tires, file_added}
use Rattle.fx_edit.proofs.Makes.{room_short}
use Rattle.fx_edit.proofs.relisting.add_file.Goals as goal

pub child-requires : goal.child-requires
child-requires g c = room_short c.args.list.now.path c.args.list.now.new c.requires.room c.requires.new

pub returns-in_err-look : goal.returns-in_err-look
returns-in_err-look g c = record { follows = file_stops c.args.edits.now c.in_ok-path.ensures c.from_residual-in_err-look.result c.from_residual-in_err-look.ensures.1 c.in_err-look.ensures }

pub returns-in_err-set : goal.returns-in_err-set
returns-in_err-set g c = record { follows = file_tires c.args.edits.now c.in_ok-path.ensures c.from_residual-in_err-set.result c.from_residual-in_err-set.ensures.1 c.in_ok-look.ensures }

pub returns : goal.returns
returns g c = record { follows = file_added c.args.edits.now c.in_ok-path.ensures c.empty_file.ensures c.in_ok-set.ensures c.in_ok-look.ensures }
