-- The reader at each kind of first token.
use Rattle.std.proofs.Common.{◌≡◌, ℕ, zero, suc, ◌-◌, true, false, cond, Some, None, Result, Ok, Err, List, [], ◌∷◌, length, refl, sym, ap, ◌∙◌}
use Rattle.fx_lex.specs.declared.token.Token.{Token}
use Rattle.fx_parse.specs.declared.stop.Stop.{Stop}
use Rattle.fx_parse.specs.declared.stop.Stop.TheVariants as stop
use Rattle.fx_parse.specs.Stuck.{Stuck, Unexpected, TooNested, ◌>>=◌, Stops}
use Rattle.fx_parse.specs.Reader.{read_expr}
use Rattle.fx_source_parse.specs.declared.spec.start.Start.{Start}
use Rattle.fx_source_parse.specs.declared.spec.start.Start.TheVariants as start
use Rattle.fx_spec.specs.Written.{DefTree}
use Rattle.fx_source_parse.specs.Descriptions.Lists.{closed, ended_or, added_at, another_at, others_at, rest_at, listed_at}
use Rattle.fx_source_parse.specs.Descriptions.Reader.{start_of, form_at, is_nothing, too_nested, read_spec, read_def, begins_def, defs_from, defs_at}
use Rattle.fx_source_parse.proofs.Descriptions.Again.{opens}
use Rattle.fx_source_parse.specs.Reading.{Read}

pub read_end : (left : ℕ) → read_spec left [] ≡ Err (Unexpected 0)
unfolding read_spec
read_end zero = refl
read_end (suc n) = refl

nested_nothing : (h : Start) (ts : List Token) → is_nothing h ≡ true → too_nested h ts ≡ Err (Unexpected (length ts))
nested_nothing start.Nothing ts e = refl
nested_nothing _ ts e = absurd cc

nested_some : (h : Start) (ts : List Token) → is_nothing h ≡ false → too_nested h ts ≡ Err (TooNested (length ts))
nested_some start.Nothing ts e = absurd cc
nested_some start.File ts e = refl
nested_some start.Dir ts e = refl
nested_some start.Link ts e = refl
nested_some start.Focus ts e = refl
nested_some start.Pair ts e = refl
nested_some start.Comp ts e = refl
nested_some start.Opt ts e = refl
nested_some start.Pred ts e = refl
nested_some (start.Call f) ts e = refl

nothing_at : (left : ℕ) (x : Token) (rest : List Token) → is_nothing (start_of x) ≡ true → read_spec left (x ∷ rest) ≡ Err (Unexpected (length (x ∷ rest)))
unfolding read_spec
nothing_at zero x rest e = nested_nothing (start_of x) (x ∷ rest) e
nothing_at (suc n) x rest e = ap (λ b. cond b (Err (Unexpected (length (x ∷ rest)))) (form_at (read_expr n) (read_spec n) (start_of x) rest)) e

deep_at : (x : Token) (rest : List Token) → is_nothing (start_of x) ≡ false → read_spec 0 (x ∷ rest) ≡ Err (TooNested (length (x ∷ rest)))
unfolding read_spec
deep_at x rest e = nested_some (start_of x) (x ∷ rest) e

module _ (x : Token) (rest all : List Token) (h : Start) (parts : all ≡ x ∷ rest) (kind : h ≡ start_of x) where
  pub read_nothing : (left : ℕ) → is_nothing h ≡ true → read_spec left all ≡ Err (Unexpected (length all))
  read_nothing left e =
      ap (read_spec left) parts ∙ nothing_at left x rest (ap is_nothing (sym kind) ∙ e) ∙ ap (λ l. Err (Unexpected (length l))) (sym parts)

  pub read_deep : (left : ℕ) → left ≡ 0 → is_nothing h ≡ false → read_spec left all ≡ Err (TooNested (length all))
  read_deep left is_zero e =
      ap (λ n. read_spec n all) is_zero ∙ ap (read_spec 0) parts ∙ deep_at x rest (ap is_nothing (sym kind) ∙ e) ∙ ap (λ l. Err (TooNested (length l))) (sym parts)

  pub read_form : (left n : ℕ) → left ≡ suc n → is_nothing h ≡ false → read_spec left all ≡ form_at (read_expr n) (read_spec n) h rest
  read_form left n more e =
      ap (λ n. read_spec n all) more ∙ ap (read_spec (suc n)) parts ∙ opens n x rest h (sym kind) e

-- parts with commas between them, one step after another
module _ {X : Type 0} (part : Read X) (size i left : ℕ) (more : size - i ≡ suc left) (done : List X) (ts : List Token) where
  abbrev behind : List X × List Token → Result (List X × List Token) Stuck
  behind c = others_at part left c.0 c.1

  pub others_closed : (rest : List Token) → closed ts ≡ Some rest → others_at part (size - i) done ts ≡ Ok (done, rest)
  unfolding others_at
  others_closed rest e = ap (λ n. others_at part n done ts) more ∙ ap (λ o. ended_or o done (another_at part done ts >>= behind)) e

  pub others_more : (next : List X) (rest : List Token) → closed ts ≡ None → another_at part done ts ≡ Ok (next, rest) → others_at part (size - i) done ts ≡ others_at part left next rest
  unfolding others_at
  others_more next rest e f = ap (λ n. others_at part n done ts) more ∙ ap (λ o. ended_or o done (another_at part done ts >>= behind)) e ∙ ap (λ r. r >>= behind) f

  others_stop : (k : Stuck) → closed ts ≡ None → another_at part done ts ≡ Err k → others_at part (size - i) done ts ≡ Err k
  unfolding others_at
  others_stop k e f = ap (λ n. others_at part n done ts) more ∙ ap (λ o. ended_or o done (another_at part done ts >>= behind)) e ∙ ap (λ r. r >>= behind) f

  pub others_stops : (why : Stop) → closed ts ≡ None → Stops why (another_at part done ts) → Stops why (others_at part (size - i) done ts)
  others_stops (stop.Unexpected k) e f = others_stop (Unexpected k) e f
  others_stops (stop.TooNested k) e f = others_stop (TooNested k) e f
  others_stops stop.NoMemory e f = tt

pub others_over : {X : Type 0} (part : Read X) (n : ℕ) (done : List X) (ts : List Token) → n ≡ 0 → others_at part n done ts ≡ Err (Unexpected (length ts))
unfolding others_at
others_over part n done ts e = ap (λ n. others_at part n done ts) e

pub rest_is : {X : Type 0} (part : Read X) (done : List X) (n : ℕ) (ts : List Token) → n ≡ length ts → rest_at part done ts ≡ others_at part n done ts
unfolding rest_at
rest_is part done n ts e = ap (λ n. others_at part n done ts) (sym e)

-- the first part, and those behind it
pub listed_closed : {X : Type 0} (part : Read X) (none : List X) (ts rest : List Token) → none ≡ [] → closed ts ≡ Some rest → listed_at part ts ≡ Ok (none, rest)
unfolding listed_at
listed_closed part none ts rest is e =
    ap (λ o. ended_or o [] (added_at part [] ts >>= (λ c. rest_at part c.0 c.1))) e ∙ ap (λ l. Ok (l, rest)) (sym is)

module _ {X : Type 0} (part : Read X) (none : List X) (is : none ≡ []) (ts : List Token) (not_closed : closed ts ≡ None) where
  abbrev behind_first : List X × List Token → Result (List X × List Token) Stuck
  behind_first c = rest_at part c.0 c.1

  listed_from : listed_at part ts ≡ (added_at part none ts >>= behind_first)
  unfolding listed_at
  listed_from = ap (λ o. ended_or o [] (added_at part [] ts >>= behind_first)) not_closed ∙ ap (λ l. added_at part l ts >>= behind_first) (sym is)

  first_stop : (k : Stuck) → added_at part none ts ≡ Err k → listed_at part ts ≡ Err k
  first_stop k e = listed_from ∙ ap (λ r. r >>= behind_first) e

  pub first_stops : (why : Stop) → Stops why (added_at part none ts) → Stops why (listed_at part ts)
  first_stops (stop.Unexpected k) e = first_stop (Unexpected k) e
  first_stops (stop.TooNested k) e = first_stop (TooNested k) e
  first_stops stop.NoMemory e = tt

  pub listed_behind : (first : List X) (rest : List Token) → added_at part none ts ≡ Ok (first, rest) → listed_at part ts ≡ rest_at part first rest
  listed_behind first rest e = listed_from ∙ ap (λ r. r >>= behind_first) e

-- definitions, one step after another
pub defs_are : (left n : ℕ) (ts : List Token) → n ≡ length ts → defs_at left ts ≡ defs_from left n [] ts
unfolding defs_at
defs_are left n ts e = ap (λ n. defs_from left n [] ts) (sym e)

pub defs_over : (left n : ℕ) (done : List DefTree) (ts : List Token) → n ≡ 0 → defs_from left n done ts ≡ Ok (done, ts)
unfolding defs_from
defs_over left n done ts e = ap (λ n. defs_from left n done ts) e

module _ (deep size i left : ℕ) (more : size - i ≡ suc left) (done : List DefTree) (ts : List Token) where
  abbrev behind_def : List DefTree × List Token → Result (List DefTree × List Token) Stuck
  behind_def c = defs_from deep left c.0 c.1

  pub defs_more : (next : List DefTree) (rest : List Token) → begins_def ts ≡ true → added_at (read_def deep) done ts ≡ Ok (next, rest) → defs_from deep (size - i) done ts ≡ defs_from deep left next rest
  unfolding defs_from
  defs_more next rest e f = ap (λ n. defs_from deep n done ts) more ∙ ap (λ b. cond b (added_at (read_def deep) done ts >>= behind_def) (Ok (done, ts))) e ∙ ap (λ r. r >>= behind_def) f

  defs_stop : (k : Stuck) → begins_def ts ≡ true → added_at (read_def deep) done ts ≡ Err k → defs_from deep (size - i) done ts ≡ Err k
  unfolding defs_from
  defs_stop k e f = ap (λ n. defs_from deep n done ts) more ∙ ap (λ b. cond b (added_at (read_def deep) done ts >>= behind_def) (Ok (done, ts))) e ∙ ap (λ r. r >>= behind_def) f

  pub defs_stops : (why : Stop) → begins_def ts ≡ true → Stops why (added_at (read_def deep) done ts) → Stops why (defs_from deep (size - i) done ts)
  defs_stops (stop.Unexpected k) e f = defs_stop (Unexpected k) e f
  defs_stops (stop.TooNested k) e f = defs_stop (TooNested k) e f
  defs_stops stop.NoMemory e f = tt
