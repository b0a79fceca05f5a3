use Rattle.std.proofs.Common.{◌≡◌, ℕ, ◌+◌, ◌-◌, ap, ◌∙◌, arith}
use Rattle.fx_gen.specs.Draws.{Drawn}
use Rattle.fx_gen.specs.Scripts.{counting_of, logging_of}
use Rattle.fx_gen.proofs.Ranges.{counting_rest}
use Rattle.fx_gen.proofs.case.generate.Goals as goal

pub returns-clause-counted : goal.returns-clause-counted
returns-clause-counted c =
    let number : c.store.new.draws.number ≡ c.args.number = ap (λ (d : Drawn). d.number) c.in_ok-store.ensures.made ∙ ap (λ (d : Drawn). d.number) c.new-draws.ensures in
    let logs : c.script_texts.new.logging ≡ logging_of c.args.number 1600 = c.in_ok-scripts.ensures.logging ∙ ap (λ n. logging_of n 1600) number in
    rest (counting_of c.args.number 1600) (logging_of c.args.number 1600) c.script_texts.new.logging (counting_rest c.args.number 1600) logs
  where
    rest : (a b x : ℕ) → a + b ≡ 1600 → x ≡ b → 1600 - x ≡ a
    rest a b x e l = omega arith
