use Rattle.std.proofs.Common.{◌≡◌, ◌++◌, ◌∙◌, ap, sym, not}
use Rattle.std.specs.Cmp.Lexicographic.{slice_cmp}
use Rattle.std.specs.List.{filter}
use Rattle.std.specs.Ordering.{nat_cmp}
use Rattle.std.proofs.lemmas.List.{append-nil}
use Rattle.std.proofs.lemmas.List.Kept.{IsStrictlySortedBy-filter}
use Rattle.fx_text.specs.Sets.{has_text}
use Rattle.fx_text.proofs.set.TextSet.left.Goals as goal

pub from_ascending-requires : goal.from_ascending-requires
from_ascending-requires c =
    let kept : c.loop-text.kept.items ≡ filter (λ text. not (has_text text c.args.other.now)) c.args.self.now =
    sym (append-nil c.loop-text.kept.items)
    ∙ ap (λ xs. c.loop-text.kept.items ++ filter (λ text. not (has_text text c.args.other.now)) xs) (sym c.in-None.ensures.steps.0)
    ∙ c.loop-text.invariant in
    rw (kept, ← c.self.view_is) (IsStrictlySortedBy-filter (slice_cmp nat_cmp) (λ text. not (has_text text c.args.other.now)) c.self.inside.texts c.self.invariant.ascending)
