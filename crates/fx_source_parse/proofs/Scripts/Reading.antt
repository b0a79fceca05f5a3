-- The reader at each kind of first token.
use Rattle.std.proofs.Common.{◌≡◌, ℕ, zero, suc, ◌-◌, true, false, cond, Some, None, Ok, Err, List, [], ◌∷◌, length, refl, sym, ap, ◌∙◌, arith}
use Rattle.std.specs.Bool.{◌==◌}
use Rattle.std.proofs.lemmas.Bool.{eqb-true}
use Rattle.std.proofs.lemmas.List.{length-map}
use Rattle.fx_expr.specs.ExprTree.{ExprTree}
use Rattle.fx_lex.specs.declared.token.Token.{Token}
use Rattle.fx_lex.specs.declared.token.Spanned.{Spanned}
use Rattle.fx_parse.specs.declared.stop.Stop.{Stop}
use Rattle.fx_parse.specs.declared.stop.Stop.TheVariants as stop
use Rattle.fx_parse.specs.Stuck.{Stuck, Unexpected, TooNested, ◌>>=◌, Stops}
use Rattle.fx_parse.specs.Reader.{kinds, read_expr}
use Rattle.fx_parse.specs.ShapeReader.{read_shape}
use Rattle.fx_spec.specs.CommandTree.{CommandTree}
use Rattle.fx_source_parse.specs.declared.script.start.Start.{Start}
use Rattle.fx_source_parse.specs.declared.script.start.Start.TheVariants as start
use Rattle.fx_source_parse.specs.Scripts.Reader.{start_of, act_start, is_nothing, act_found, act_at, added_at, closed, ended_or, items_at, many_at, form_at, too_nested, read_command, txn_added_at, txns_at, read_script}
use Rattle.fx_source_parse.proofs.Scripts.Again.{opens}
use Rattle.fx_source_parse.specs.Reading.{Read}

-- no act begins here
pub no_act : (expr : Read ExprTree) (x : Token) (rest all : List Token) → all ≡ x ∷ rest → act_start (start_of x) ≡ None → act_at expr all ≡ Err (Unexpected (length all))
no_act expr x rest all parts e =
    ap (act_at expr) parts ∙ ap (λ o. act_found expr o x rest) e ∙ ap (λ l. Err (Unexpected (length l))) (sym parts)

pub read_end : (left : ℕ) → read_command left [] ≡ Err (Unexpected 0)
unfolding read_command
read_end zero = refl
read_end (suc n) = refl

nested_nothing : (h : Start) (ts : List Token) → is_nothing h ≡ true → too_nested h ts ≡ Err (Unexpected (length ts))
nested_nothing start.Nothing ts e = refl
nested_nothing _ ts e = absurd cc

nested_some : (h : Start) (ts : List Token) → is_nothing h ≡ false → too_nested h ts ≡ Err (TooNested (length ts))
nested_some start.Nothing ts e = absurd cc
nested_some (start.Act a) ts e = refl
nested_some start.Try ts e = refl
nested_some start.Let ts e = refl
nested_some start.Set ts e = refl
nested_some start.Fetch ts e = refl
nested_some start.Value ts e = refl
nested_some start.Validate ts e = refl
nested_some start.Print ts e = refl
nested_some start.If ts e = refl
nested_some start.Each ts e = refl
nested_some start.Abort ts e = refl

nothing_at : (left : ℕ) (x : Token) (rest : List Token) → is_nothing (start_of x) ≡ true → read_command left (x ∷ rest) ≡ Err (Unexpected (length (x ∷ rest)))
unfolding read_command
nothing_at zero x rest e = nested_nothing (start_of x) (x ∷ rest) e
nothing_at (suc n) x rest e = ap (λ b. cond b (Err (Unexpected (length (x ∷ rest)))) (form_at (read_expr n) (read_shape n) (read_command n) (start_of x) rest)) e

deep_at : (x : Token) (rest : List Token) → is_nothing (start_of x) ≡ false → read_command 0 (x ∷ rest) ≡ Err (TooNested (length (x ∷ rest)))
unfolding read_command
deep_at x rest e = nested_some (start_of x) (x ∷ rest) e

module _ (x : Token) (rest all : List Token) (h : Start) (parts : all ≡ x ∷ rest) (kind : h ≡ start_of x) where
  pub read_nothing : (left : ℕ) → is_nothing h ≡ true → read_command left all ≡ Err (Unexpected (length all))
  read_nothing left e =
      ap (read_command left) parts ∙ nothing_at left x rest (ap is_nothing (sym kind) ∙ e) ∙ ap (λ l. Err (Unexpected (length l))) (sym parts)

  pub read_deep : (left : ℕ) → left ≡ 0 → is_nothing h ≡ false → read_command left all ≡ Err (TooNested (length all))
  read_deep left is_zero e =
      ap (λ n. read_command n all) is_zero ∙ ap (read_command 0) parts ∙ deep_at x rest (ap is_nothing (sym kind) ∙ e) ∙ ap (λ l. Err (TooNested (length l))) (sym parts)

  pub read_form : (left n : ℕ) → left ≡ suc n → is_nothing h ≡ false → read_command left all ≡ form_at (read_expr n) (read_shape n) (read_command n) h rest
  read_form left n more e =
      ap (λ n. read_command n all) more ∙ ap (read_command (suc n)) parts ∙ opens n x rest h (sym kind) e

-- commands, one step after another
module _ (command : Read CommandTree) (size i left : ℕ) (more : size - i ≡ suc left) (done : List CommandTree) (ts : List Token) where
  pub items_closed : (rest : List Token) → closed ts ≡ Some rest → items_at command (size - i) done ts ≡ Ok (done, rest)
  unfolding items_at
  items_closed rest e = ap (λ n. items_at command n done ts) more ∙ ap (λ o. ended_or o done (added_at command done ts >>= (λ c. items_at command left c.0 c.1))) e

  pub items_more : (next : List CommandTree) (rest : List Token) → closed ts ≡ None → added_at command done ts ≡ Ok (next, rest) → items_at command (size - i) done ts ≡ items_at command left next rest
  unfolding items_at
  items_more next rest e f = ap (λ n. items_at command n done ts) more ∙ ap (λ o. ended_or o done (added_at command done ts >>= (λ c. items_at command left c.0 c.1))) e ∙ ap (λ r. r >>= (λ c. items_at command left c.0 c.1)) f

  items_stop : (k : Stuck) → closed ts ≡ None → added_at command done ts ≡ Err k → items_at command (size - i) done ts ≡ Err k
  unfolding items_at
  items_stop k e f = ap (λ n. items_at command n done ts) more ∙ ap (λ o. ended_or o done (added_at command done ts >>= (λ c. items_at command left c.0 c.1))) e ∙ ap (λ r. r >>= (λ c. items_at command left c.0 c.1)) f

  pub items_stops : (why : Stop) → closed ts ≡ None → Stops why (added_at command done ts) → Stops why (items_at command (size - i) done ts)
  items_stops (stop.Unexpected k) e f = items_stop (Unexpected k) e f
  items_stops (stop.TooNested k) e f = items_stop (TooNested k) e f
  items_stops stop.NoMemory e f = tt

pub items_over : (command : Read CommandTree) (n : ℕ) (done : List CommandTree) (ts : List Token) → n ≡ 0 → items_at command n done ts ≡ Err (Unexpected (length ts))
unfolding items_at
items_over command n done ts e = ap (λ n. items_at command n done ts) e

pub many_is : (command : Read CommandTree) (n : ℕ) (ts : List Token) → n ≡ length ts → many_at command ts ≡ items_at command n [] ts
unfolding many_at
many_is command n ts e = ap (λ n. items_at command n [] ts) (sym e)

-- transactions, one step after another
pub script_is : (n : ℕ) (ts : List Token) → n ≡ length ts → read_script ts ≡ txns_at n [] ts
unfolding read_script
script_is n ts e = ap (λ n. txns_at n [] ts) (sym e)

txns_end : (n : ℕ) (done : List (List CommandTree)) → txns_at n done [] ≡ Ok done
unfolding txns_at
txns_end zero done = refl
txns_end (suc n) done = refl

pub txns_done : (n : ℕ) (done : List (List CommandTree)) (rest : List Spanned) → length rest == 0 ≡ true → txns_at n done (kinds rest) ≡ Ok done
txns_done n done [] e = txns_end n done
txns_done n done (x ∷ rest) e = absurd (omega (arith, eqb-true (length (x ∷ rest)) 0 e))

pub txns_over : (n : ℕ) (done : List (List CommandTree)) (rest : List Spanned) → n ≡ 0 → length rest == 0 ≡ false → txns_at n done (kinds rest) ≡ Err (Unexpected (length rest))
unfolding txns_at
txns_over n done [] z e = absurd cc
txns_over n done (x ∷ rest) z e = ap (λ n. txns_at n done (kinds (x ∷ rest))) z ∙ ap (λ n. Err (Unexpected n)) (length-map (x ∷ rest) (λ s. s.token))

module _ (size i left : ℕ) (more : size - i ≡ suc left) (done : List (List CommandTree)) where
  pub txns_more : (rest : List Spanned) (next : List (List CommandTree)) (behind : List Token) → length rest == 0 ≡ false → txn_added_at done (kinds rest) ≡ Ok (next, behind) → txns_at (size - i) done (kinds rest) ≡ txns_at left next behind
  unfolding txns_at
  txns_more [] next behind e f = absurd cc
  txns_more (x ∷ rest) next behind e f = ap (λ n. txns_at n done (kinds (x ∷ rest))) more ∙ ap (λ r. r >>= (λ t. txns_at left t.0 t.1)) f

  txns_stop : (rest : List Spanned) (k : Stuck) → length rest == 0 ≡ false → txn_added_at done (kinds rest) ≡ Err k → txns_at (size - i) done (kinds rest) ≡ Err k
  unfolding txns_at
  txns_stop [] k e f = absurd cc
  txns_stop (x ∷ rest) k e f = ap (λ n. txns_at n done (kinds (x ∷ rest))) more ∙ ap (λ r. r >>= (λ t. txns_at left t.0 t.1)) f

  pub txns_stops : (rest : List Spanned) (why : Stop) → length rest == 0 ≡ false → Stops why (txn_added_at done (kinds rest)) → Stops why (txns_at (size - i) done (kinds rest))
  txns_stops rest (stop.Unexpected k) e f = txns_stop rest (Unexpected k) e f
  txns_stops rest (stop.TooNested k) e f = txns_stop rest (TooNested k) e f
  txns_stops rest stop.NoMemory e f = tt
