use Rattle.fx_zip.proofs.Prelude.{rules}
use Rattle.fx_zip.proofs.Standing.{fresh_none}
use Rattle.fx_zip.proofs.zip.Zip.go_top.Goals as goal

pub returns-clause-fresh : goal.returns-clause-fresh
returns-clause-fresh c known own = fresh_none known own _ (search rules) (search rules) (search rules)
