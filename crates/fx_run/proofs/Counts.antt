-- Numbers of commands.
use Rattle.std.proofs.Common.{◌≡◌, ℕ, zero, suc, ◌+◌, ◌≤◌, List, [], ◌∷◌, drop, Some, ap, arith}
use Rattle.std.specs.Prelude.{slice_get}
use Rattle.fx_base.proofs.Lists.{drop_next}
use Rattle.fx_spec.specs.CommandTree.{CommandTree, block, count, count_block}

-- those from a place on are those of the command there and those from the next on
pub count_at : (cs : List CommandTree) (k : ℕ) (c : CommandTree) → slice_get cs k ≡ Some c → count_block (block (drop k cs)) ≡ count c + count_block (block (drop (k + 1) cs))
count_at cs k c here = ap (λ cs. count_block (block cs)) (drop_next cs k c here)

pub below_all : (cs : List CommandTree) (k : ℕ) (c : CommandTree) → slice_get cs k ≡ Some c → count c ≤ count_block (block cs)
below_all [] k c here = cc
below_all (d ∷ cs) zero c here = let same : d ≡ c = cc in let counts = ap count same in omega (arith, counts)
below_all (d ∷ cs) (suc k) c here = let rest = below_all cs k c here in omega (arith, rest)
