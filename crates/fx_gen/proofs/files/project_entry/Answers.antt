use Rattle.std.proofs.Common.{sym, subst}
use Rattle.fx_store.specs.Names.{IsName}
use Rattle.fx_gen.proofs.Placing.{project_named}
use Rattle.fx_gen.proofs.files.project_entry.Goals as goal

pub below-requires-clause-name : goal.below-requires-clause-name
below-requires-clause-name c = subst IsName (sym c.project.ensures) (project_named c.args.number c.requires.number)
