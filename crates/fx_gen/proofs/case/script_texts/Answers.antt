use Rattle.std.proofs.Common.{◌≡◌, ◌+◌, ◌*◌, ◌++◌, ◌∷◌, [], ap, sym, ◌∙◌, arith}
use Rattle.fx_gen.specs.Draws.{Drawn}
use Rattle.fx_gen.specs.Scripts.{scripts_to, generated_script, logging_of}
use Rattle.fx_gen.proofs.Ranges.{scripts_none, scripts_more, logging_none}
use Rattle.fx_gen.proofs.case.script_texts.Goals as goal

pub loop-script-init : goal.loop-script-init
loop-script-init c = record {
  number = cc;
  drawn = omega arith;
  texts = c.new-texts.ensures ∙ sym (scripts_none c.args.draws.now.number);
  few = omega arith;
  logging = c.requires.logging ∙ sym (logging_none c.args.draws.now.number);
}

pub loop-script-preserved : goal.loop-script-preserved
loop-script-preserved c =
    let inv = c.loop-script.invariant in
    let said = c.in_ok-text.ensures in
    let n = c.loop-script.script in
    let more : 200 * n + 200 ≡ 200 * (n + 1) = omega arith in
    record {
      number = ap (λ (d : Drawn). d.number) said.made ∙ inv.number;
      drawn = omega (arith, ap (λ (d : Drawn). d.made) said.made, inv.drawn);
      texts =
          c.in_ok-push.ensures.ok
          ∙ ap (λ l. l ++ c.from_vec.result ∷ []) inv.texts
          ∙ ap (λ t. scripts_to c.args.draws.now.number n ++ t ∷ []) (c.from_vec.ensures ∙ said.text ∙ ap (λ m. generated_script m n) inv.number)
          ∙ sym (scripts_more c.args.draws.now.number n);
      few = omega (arith, said.few);
      logging = said.logging ∙ ap (λ m. logging_of m (200 * n + 200)) inv.number ∙ ap (logging_of c.args.draws.now.number) more;
    }
