use Rattle.std.proofs.Common.{◌≡◌, ◌++◌, ◌∙◌, ap, sym}
use Rattle.std.specs.Cmp.Lexicographic.{slice_cmp}
use Rattle.std.specs.List.{filter}
use Rattle.std.specs.Ordering.{nat_cmp}
use Rattle.std.proofs.lemmas.List.{append-nil}
use Rattle.std.proofs.lemmas.List.Kept.{IsStrictlySortedBy-filter}
use Rattle.fx_expr.specs.Globs.{glob_matches}
use Rattle.fx_eval.proofs.glob.only.Goals as goal

pub from_ascending-requires : goal.from_ascending-requires
from_ascending-requires c =
    let kept : c.loop-text.kept.items ≡ filter (λ text. glob_matches c.args.glob.now text) c.args.set.now =
    sym (append-nil c.loop-text.kept.items)
    ∙ ap (λ xs. c.loop-text.kept.items ++ filter (λ text. glob_matches c.args.glob.now text) xs) (sym c.in-None.ensures.steps.0)
    ∙ c.loop-text.invariant in
    rw kept (IsStrictlySortedBy-filter (slice_cmp nat_cmp) (λ text. glob_matches c.args.glob.now text) c.args.set.now c.len-len.ensures.order)
