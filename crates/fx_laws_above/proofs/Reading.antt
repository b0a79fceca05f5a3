-- The count of a project is read as a number, and the next number is written.
use Rattle.std.proofs.Common.{◌≡◌, ℕ, ◌+◌, ◌-◌, ◌^◌, ◌<◌, true, false, cond, ◌&&◌, nat_lt, List, [], ◌∷◌, length, take, drop, Ok, Err, pos, neg_ℤ, ap, ◌∙◌, arith, codes}
use Rattle.std.specs.Prelude.{slice_index}
use Rattle.std.specs.Fmt.{decimal}
use Rattle.std.specs.Str.{all_ascii_digits}
use Rattle.std.specs.Str.Parse.{digits_value, starts_with_minus}
use Rattle.std.proofs.lemmas.Bool.{ne_eqb, lt-ltb, and_from}
use Rattle.std.proofs.lemmas.Fmt.{digits_decimal, digits_value-decimal, decimal_nonempty}
use Rattle.std.proofs.lemmas.Str.Parse.{not_in_digits}
use Rattle.fx_expr.specs.declared.expr.BinOp.{BinOp}
use Rattle.fx_expr.specs.declared.expr.UnOp.{UnOp}
use Rattle.fx_expr.specs.declared.fault.ExprFault.TheVariants.{NotNumber, Overflow}
use Rattle.fx_expr.specs.Eval.{Outcome, read_integer, without_line_feed, digits_in, is_numeral, numeral_value, spells_64, fits_64, then_on, two, one, eval_of}
use Rattle.fx_expr.specs.ExprTree.{ExprTree}
use Rattle.fx_expr.specs.Tree.{Tree}
use Rattle.fx_expr.proofs.Numerals.{own_numerals}

module _ (n : ℕ) (small : n < 2 ^ 63) where
  abbrev ds : List ℕ
  ds = decimal n

  below : n < 2 ^ 64
  below = omega (arith, small)

  digits : all_ascii_digits ds ≡ true
  digits = digits_decimal own_numerals n below

  some : 0 < length ds
  some = decimal_nonempty n below

  no_line_feed : without_line_feed ds ≡ ds
  no_line_feed = ap (λ b. cond b (take (length ds - 1) ds) ds) (ne_eqb (slice_index ds (length ds - 1)) 10 (not_in_digits own_numerals ds 10 digits (λ r. absurd (omega (arith, r.0, r.1))) (length ds - 1) (omega (arith, some))))

  no_minus : starts_with_minus ds ≡ false
  no_minus = ne_eqb (slice_index ds 0) 45 (not_in_digits own_numerals ds 45 digits (λ r. absurd (omega (arith, r.0, r.1))) 0 some)

  all_digits : digits_in ds ≡ ds
  all_digits = ap (λ b. cond b (drop 1 ds) ds) no_minus

  numeral : is_numeral ds ≡ true
  numeral = ap (λ l. nat_lt 0 (length l) && all_ascii_digits l) all_digits ∙ and_from (nat_lt 0 (length ds)) (all_ascii_digits ds) (lt-ltb 0 (length ds) some) digits

  value : numeral_value ds ≡ pos n
  value =
      ap (λ b. cond b (neg_ℤ (pos (digits_value 10 (digits_in ds)))) (pos (digits_value 10 (digits_in ds)))) no_minus
      ∙ ap (λ l. pos (digits_value 10 l)) all_digits
      ∙ ap pos (digits_value-decimal own_numerals n below)

  spells : spells_64 ds ≡ true
  spells = and_from (is_numeral ds) (fits_64 (numeral_value ds)) numeral (ap fits_64 value ∙ lt-ltb n (2 ^ 63) small)

  pub read_decimal : read_integer ds ≡ Ok (Tree.int (pos n))
  read_decimal =
      ap (λ l. cond (spells_64 l) (Ok (Tree.int (numeral_value l))) (Err NotNumber)) no_line_feed
      ∙ ap (λ b. cond b (Ok (Tree.int (numeral_value ds))) (Err NotNumber)) spells
      ∙ ap (λ z. Ok (Tree.int z)) value

-- one more than the number
abbrev pub one_more : ExprTree
one_more = ExprTree.un UnOp.Text (ExprTree.bin BinOp.Plus (ExprTree.un UnOp.Int (ExprTree.var (codes "n"))) (ExprTree.int (pos 1)))

abbrev added : Outcome → Outcome
added read = then_on (then_on read λ v. then_on (Ok (Tree.int (pos 1))) λ w. two BinOp.Plus v w) λ v. one UnOp.Text v

pub count_more : (n : ℕ) → n + 1 < 2 ^ 63 → eval_of ((codes "n", Tree.str (decimal n)) ∷ []) one_more ≡ Ok (Tree.str (decimal (n + 1)))
count_more n small =
    ap added (read_decimal n (omega (arith, small)))
    ∙ ap (λ b. then_on (cond b (Ok (Tree.int (pos (n + 1)))) (Err Overflow)) λ v. one UnOp.Text v) (lt-ltb (n + 1) (2 ^ 63) small)
