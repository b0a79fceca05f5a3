use Rattle.fx_folder.proofs.Prelude.{◌≡◌, true, sym, ap, subst, ◌∙◌, with_lines, mapped_of, lines_in, standing_by, AreLines, CanMerge, changes_of, over, links_among}
use Rattle.fx_folder.proofs.Gathering.{found_shaped, found_changes, can_merge, joined_shaped}
use Rattle.fx_folder.proofs.joining.joined.Goals as goal

pub from_vec-found-requires : goal.from_vec-found-requires
from_vec-found-requires c = found_changes c.args.walked.found.items c.requires

pub merged-requires-clause-found : goal.merged-requires-clause-found
merged-requires-clause-found c = subst (λ l. l ≡ changes_of (mapped_of l)) (sym (c.into_vec.ensures.changes ∙ c.from_vec-found.ensures)) (found_shaped c.args.walked.found.items c.requires).set

pub merged-requires-clause-merge : goal.merged-requires-clause-merge
merged-requires-clause-merge c = subst (λ l. CanMerge (mapped_of l) (links_among (lines_in c.in_ok-lines.lines))) (sym (c.into_vec.ensures.changes ∙ c.from_vec-found.ensures)) (can_merge c.args.walked.found.items c.requires c.in_ok-lines.lines (subst (λ l. AreLines (over (standing_by l) true) c.in_ok-lines.lines) c.from_vec-found.ensures c.in_ok-lines.ensures.read.are))

pub returns-clause-shaped : goal.returns-clause-shaped
returns-clause-shaped c = joined_shaped c.args.walked.found.items c.requires c.in_ok-lines.lines (subst (λ l. AreLines (over (standing_by l) true) c.in_ok-lines.lines) c.from_vec-found.ensures c.in_ok-lines.ensures.read.are) c.in_ok-merged.field-0.items (c.in_ok-merged.ensures ∙ ap (λ l. changes_of (with_lines (mapped_of l) (lines_in c.in_ok-lines.lines))) (c.into_vec.ensures.changes ∙ c.from_vec-found.ensures))
