use Rattle.std.proofs.Common.{sym, subst}
use Rattle.fx_spec.specs.Bases.{base_tree}
use Rattle.fx_board.specs.Log.{Log}
use Rattle.fx_shared.specs.Kept.{HasVersions}
use Rattle.fx_shared.proofs.Versionings.{begins}
use Rattle.fx_shared.proofs.versioned.Versioned.new.Goals as goal

pub invariant_of-result : goal.invariant_of-result
invariant_of-result c =
    subst (λ (log : Log). HasVersions log c.in_ok-versions.versions.value.entries) (sym c.in_ok-board.ensures)
    (begins (base_tree c.args.base.value) c.in_ok-versions.versions.value.entries (rw c.in_ok-versions.ensures.ok c.new-2.ensures.empty))
