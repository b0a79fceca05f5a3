use Rattle.std.proofs.Common.{refl, sym, subst}
use Rattle.fx_store.specs.Names.{IsPath}
use Rattle.fx_sched.proofs.Shells.{looked_as, has_looked_as}
use Rattle.fx_sched.proofs.moves.look.Goals as goal

pub returns-clause-shell : goal.returns-clause-shell
returns-clause-shell c =
    looked_as c.args.board.now c.args.number c.args.shell.now (c.in-Some.path.now, c.in-Some.field-0-1.now) c.len-position.result c.place.new.self c.requires.shell c.requires.ready (sym c.in-Some.ensures.read) c.len-position.ensures.len c.place.ensures

pub returns-clause-ok : goal.returns-clause-ok
returns-clause-ok c = (
  refl,
  has_looked_as c.args.board.now c.args.number c.args.shell.now (c.in-Some.path.now, c.in-Some.field-0-1.now) c.in_ok-path.path c.len-position.result c.place.new.self c.requires.shell c.requires.ready (sym c.in-Some.ensures.read) c.in_ok-path.ensures.copied c.len-position.ensures.len (subst IsPath (sym c.in_ok-path.ensures.copied) c.in_ok-path.ensures.path) c.place.ensures,
)
