use Rattle.std.proofs.Common.{◌≡◌, ◌+◌, ◌*◌, ◌==◌, ◌++◌, ◌∙◌, ap, sym, arith}
use Rattle.fx_gen.specs.Scripts.{txn_line, first_lines, kind_of, logging_of}
use Rattle.fx_gen.specs.Draws.{Drawn}
use Rattle.fx_gen.proofs.Ranges.{lines_none, lines_more, logging_more, at_most_one}
use Rattle.fx_gen.proofs.lines.script_text.Goals as goal

pub loop-place-init : goal.loop-place-init
loop-place-init c =
    let same : 200 * c.args.script ≡ 200 * c.args.script + 0 = omega arith in
    record {
      number = cc;
      made = omega arith;
      text = c.new-text.ensures.items ∙ sym (lines_none c.args.draws.now.number c.args.script);
      short = omega (arith, c.new-text.ensures.len);
      few = omega arith;
      logging = c.requires.logging ∙ ap (logging_of c.args.draws.now.number) same;
    }

pub loop-place-preserved : goal.loop-place-preserved
loop-place-preserved c =
    let inv = c.loop-place.invariant in
    let less = at_most_one c.in_ok-logs.logs c.from.result c.from.ensures in
    let said = c.in_ok-logs.ensures in
    let more : 200 * c.args.script + c.loop-place.place + 1 ≡ 200 * c.args.script + (c.loop-place.place + 1) = omega arith in
    record {
      number = ap (λ (d : Drawn). d.number) said.made ∙ inv.number;
      made = omega (arith, ap (λ (d : Drawn). d.made) said.made, inv.made);
      text =
          said.line
          ∙ ap (λ t. t ++ txn_line c.loop-place.draws.number c.args.script c.loop-place.place) inv.text
          ∙ ap (λ n. first_lines c.args.draws.now.number c.args.script c.loop-place.place ++ txn_line n c.args.script c.loop-place.place) inv.number
          ∙ sym (lines_more c.args.draws.now.number c.args.script c.loop-place.place);
      short = omega (arith, said.short, inv.short);
      few = omega (arith, less, inv.few);
      logging =
          logging_more c.args.draws.now.number (200 * c.args.script + c.loop-place.place) c.in_ok-logs.logs c.loop-place.logging c.from.result
          (said.logs ∙ ap (λ n. kind_of n (200 * c.args.script + c.loop-place.place) == 3) inv.number) inv.logging c.from.ensures
          ∙ ap (logging_of c.args.draws.now.number) more;
    }
