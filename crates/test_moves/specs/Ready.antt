-- A zipper that may go on with its reader and its own changes.
use Rattle.fx_view.specs.Own.{own_at}
use Rattle.fx_zip.specs.Fresh.{IsFresh}
use Rattle.test_moves.specs.declared.walk.Walk.{Walk}

abbrev pub IsReadyWalk : {L : Type 0} → Walk L → Type 0
IsReadyWalk w = IsFresh w.session.reader.now.reads (own_at w.session.own) w.zip
