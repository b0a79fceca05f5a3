use Rattle.fx_zip.proofs.Prelude.{◌≡◌, sym, subst, placed, IsDescribedPlace, part_of, here}
use Rattle.fx_zip.proofs.Standing.{stands_described}
use Rattle.fx_zip.proofs.zip.Zip.here.Goals as goal

pub returns-clause-described : goal.returns-clause-described
returns-clause-described c known own stands =
    let is : placed c.path.result.now c.env.result.now (part_of c.spec-part.result) ≡ here c.args.self.now = λ i. placed (c.path.ensures i) (c.env.ensures i) (c.spec-part.ensures.part i) in
    subst IsDescribedPlace (sym is) (stands_described known own c.args.self.now c.spec-part.ensures.described stands)
