use Rattle.std.proofs.Common.{◌≡◌, ◌++◌, ap, sym, subst, ◌∙◌, arith}
use Rattle.fx_store.specs.Changes.{IsChanges}
use Rattle.fx_gen.specs.Draws.{Drawn}
use Rattle.fx_gen.specs.Notes.{changes_to, project_changes}
use Rattle.fx_gen.proofs.Placing.{changes_in_order, changes_more}
use Rattle.fx_gen.proofs.files.changes.Goals as goal

pub loop-number-preserved : goal.loop-number-preserved
loop-number-preserved c =
    let inv = c.loop-number.invariant in
    let said = c.in_ok-add_project.ensures in
    let n = c.loop-number.number in
    record {
      number = ap (λ (d : Drawn). d.number) said.made ∙ inv.number;
      drawn = omega (arith, ap (λ (d : Drawn). d.made) said.made, inv.drawn);
      changes =
          said.added
          ∙ ap (λ l. l ++ project_changes c.loop-number.draws.number n) inv.changes
          ∙ ap (λ m. changes_to c.args.draws.now.number n ++ project_changes m n) inv.number
          ∙ sym (changes_more c.args.draws.now.number n);
    }

pub from_vec-requires : goal.from_vec-requires
from_vec-requires c =
    let end : c.loop-number.number ≡ 16 = omega arith in
    subst IsChanges (sym (c.loop-number.invariant.changes ∙ ap (changes_to c.args.draws.now.number) end)) (changes_in_order c.args.draws.now.number)
