use Rattle.fx_table.proofs.Prelude.{◌++◌, ◌∷◌, [], ap, refl, sym, subst, ◌∙◌, TakesRoom, lines_in, over}
use Rattle.fx_table.proofs.Lining.{bad_line, bad_place, next_line, over_of}
use Rattle.fx_table.proofs.TableLines.{unfed}
use Rattle.fx_table.proofs.lines.next_line.Goals as goal

pub returns-in_default-clause-cause : goal.returns-in_default-clause-cause
returns-in_default-clause-cause g c = (refl, unfed (over (g.G.Ground.store c.args.ground.now) c.args.flags) (lines_in c.args.lines.now) c.args.text.now _ c.in_default.ensures)

pub returns-in_default-2-clause-cause : goal.returns-in_default-2-clause-cause
returns-in_default-2-clause-cause g c = (refl, bad_line (over (g.G.Ground.store c.args.ground.now) c.args.flags) c.args.text.now c.in-Some.line.now c.in-Some.rest.now c.args.lines.now c.in-Some.ensures (sym c.in_default-2.is ∙ c.in_ok-line.ensures))

pub returns-then-not-branch-clause-cause : goal.returns-then-not-branch-clause-cause
returns-then-not-branch-clause-cause g c = (refl, bad_place (over (g.G.Ground.store c.args.ground.now) c.args.flags) c.args.text.now c.in-Some.line.now c.in-Some.rest.now c.args.lines.now c.in-Some.ensures c.in-Some-2.line (sym c.in-Some-2.is ∙ c.in_ok-line.ensures) (c.in_ok-can_follow.ensures.fails c.if-not-branch.true))

pub returns-then-not-takes-clause-cause : goal.returns-then-not-takes-clause-cause
returns-then-not-takes-clause-cause g c =
    let takes = subst (TakesRoom c.args.room.now c.in-Some-2.line.mark c.takes.new.self) c.if-not-takes.true c.takes.ensures in (
      c.in_ok-table_place.ensures,
      record {
        line = c.in-Some-2.line;
        rest = c.in-Some.rest.now;
        next = next_line (over (g.G.Ground.store c.args.ground.now) c.args.flags) c.args.text.now c.in-Some.line.now c.in-Some.rest.now c.args.lines.now c.in-Some.ensures c.in-Some-2.line (sym c.in-Some-2.is ∙ c.in_ok-line.ensures) c.requires (c.in_ok-can_follow.ensures.holds c.if-not-branch.false);
        many = over_of c.args.room.now c.in-Some-2.line.path c.in-Some-2.line.mark ∙ takes.over;
      },
    )

pub returns-clause-read : goal.returns-clause-read
returns-clause-read g c = record {
  line = c.in-Some-2.line;
  next = next_line (over (g.G.Ground.store c.args.ground.now) c.args.flags) c.args.text.now c.in-Some.line.now c.in-Some.rest.now c.args.lines.now c.in-Some.ensures c.in-Some-2.line (sym c.in-Some-2.is ∙ c.in_ok-line.ensures) c.requires (c.in_ok-can_follow.ensures.holds c.if-not-branch.false);
  made = c.in_ok-add.ensures.ok ∙ ap (λ d. c.args.lines.now ++ d ∷ []) c.change_of.ensures;
  takes = subst (TakesRoom c.args.room.now c.in-Some-2.line.mark c.takes.new.self) c.if-not-takes.false c.takes.ensures;
}
