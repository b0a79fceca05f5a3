use Rattle.std.proofs.Common.{◌≡◌, ◌∙◌, ap, List, ℕ, subst, sym}
use Rattle.std.specs.Fmt.{signed_decimal}
use Rattle.std.proofs.lemmas.Int.{to_z-of_z}
use mir.Val.{SFits}
use mir.Syntax.{w64}
use Rattle.fx_expr.specs.Bytes.{IsText}
use Rattle.fx_expr.proofs.Numerals.{decimal_short}
use Rattle.fx_eval.proofs.number.decimal.Goals as goal

pub from_vec-requires : goal.from_vec-requires
from_vec-requires c =
    let fit : SFits w64 c.args.n = c.ranges.n in
    let bytes : c.into_bytes.result.items ≡ signed_decimal c.args.n = ap (λ v. v.items) c.into_bytes.ensures.value ∙ (simp to_z-of_z at c.in_ok-text.ensures.ok) in
    subst (λ (l : List ℕ). IsText l) (sym bytes) (decimal_short c.args.n fit)
