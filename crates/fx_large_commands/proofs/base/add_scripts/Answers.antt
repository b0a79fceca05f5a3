use Rattle.std.proofs.Common.{◌≡◌, arith, subst}
use Rattle.fx_large_commands.specs.Base.{IsPlanOf}
use Rattle.fx_large_commands.proofs.Standing.{begins}
use Rattle.fx_large_commands.proofs.base.add_scripts.Goals as goal

pub scripts-init : goal.scripts-init
scripts-init c = begins c.args.texts.now _ c.requires.none

pub returns : goal.returns
returns c =
    let all : c.scripts.k ≡ 8 = omega (arith, c.scripts-test.false, c.scripts.auto.k-end) in
    subst (λ n. IsPlanOf c.args.texts.now n c.scripts.plan) all c.scripts.invariant.is
