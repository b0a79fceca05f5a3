-- What a reader says of trees, where it goes as a machine of its grammar does and reads the tokens of each tree.
use Rattle.std.proofs.Common.{◌≡◌, ℕ, zero, suc, ◌+◌, ◌-◌, ◌≤◌, Bool, true, false, leb, Result, Ok, Err, List, [], ◌∷◌, ◌++◌, length, drop, refl, sym, ap, ◌∙◌, subst, arith, length-append, length-drop}
use Rattle.std.proofs.lemmas.List.{length-map, drop_at, drop-drop, drop_all}
use Rattle.std.proofs.lemmas.Bool.{and_from, le-leb, leb-true, leb-false}
use Rattle.fx_lex.specs.declared.token.Token.{Token}
use Rattle.fx_lex.specs.declared.token.Spanned.{Spanned}
use Rattle.fx_lex.specs.TokenList.{TokenList}
use Rattle.fx_parse.specs.declared.stop.Stop.{Stop}
use Rattle.fx_parse.specs.declared.stop.Stop.TheVariants as stop
use Rattle.fx_parse.specs.declared.fault.ParseFault.TheVariants as fault
use Rattle.fx_parse.specs.Stuck.{Stuck, Unexpected, TooNested, ◌>>=◌, Stops}
use Rattle.fx_parse.specs.Readable.{Grammar, Stands, IsUnexpected, IsTooNested}
use Rattle.fx_parse.specs.Reader.{kinds}
use Rattle.fx_parse.specs.ReadAt.{IsReadAt, IsParseFault, fault_at}
use Rattle.fx_parse.specs.Laws.{OneReading, OneForm}
use Rattle.fx_parse.proofs.Machine.{Table, at_most, Outcome, scan, scan_says}
use Rattle.fx_parse.proofs.Places.{Fits, unexpected_is, too_nested_is, stands_is}

-- all levels together, which none is above
abbrev total : List ℕ → ℕ
total [] = 0
total (n ∷ levels) = n + total levels

under_total : (bound : ℕ) (levels : List ℕ) → total levels ≤ bound → at_most bound levels ≡ true
under_total bound [] h = refl
under_total bound (n ∷ levels) h = and_from _ _ (le-leb n bound (omega arith)) (under_total bound levels (omega arith))

module _ {Tree : Type 0} where
  -- readings that are equal
  pub same_read : (t u : Tree) (x y : List Token) → ◌≡◌ {A = Result (Tree × List Token) Stuck} (Ok (t, x)) (Ok (u, y)) → (t ≡ u) × (x ≡ y)
  same_read t u x y e =
      let pair : ◌≡◌ {A = Tree × List Token} (t, x) (u, y) = cc in
      (ap (λ p. p.0) pair, ap (λ p. p.1) pair)

  pub ok_not_err : (p : Tree × List Token) (k : Stuck) → ◌≡◌ {A = Result (Tree × List Token) Stuck} (Ok p) (Err k) → ⊥
  ok_not_err p k e = cc

drop_kinds : (n : ℕ) (xs : List Spanned) → drop n (kinds xs) ≡ kinds (drop n xs)
drop_kinds zero xs = refl
drop_kinds (suc n) [] = refl
drop_kinds (suc n) (x ∷ xs) = drop_kinds n xs

module _ {Tree : Type 0} (g : Grammar Tree) where
  module _ (d : ℕ) (list : TokenList) (from : ℕ) (t : Tree) (rest : List Spanned) where
    sizes : Stands g d (kinds (drop from list.spanned)) t (kinds rest) → length list.spanned - from ≡ length (g.tokens t) + length rest
    sizes s =
        sym (length-drop from list.spanned) ∙ sym (length-map (drop from list.spanned) (λ x. x.token)) ∙ ap length s.spelled ∙ length-append (g.tokens t) (kinds rest) ∙ ap (λ n. length (g.tokens t) + n) (length-map rest (λ x. x.token))

    pub rest_within : Stands g d (kinds (drop from list.spanned)) t (kinds rest) → length rest ≤ length list.spanned
    rest_within s = omega (arith, sizes s)

    pub read_at : from ≤ length list.spanned → Stands g d (kinds (drop from list.spanned)) t (kinds rest) → IsReadAt g d list from t (length list.spanned - length rest)
    read_at within s =
        let next : from + length (g.tokens t) ≡ length list.spanned - length rest = omega (arith, sizes s, within) in
        let after : kinds rest ≡ kinds (drop (length list.spanned - length rest) list.spanned) =
        sym (drop_at (g.tokens t) (kinds rest) (length (g.tokens t)) refl) ∙ ap (λ l. drop (length (g.tokens t)) l) (sym s.spelled) ∙ drop_kinds (length (g.tokens t)) (drop from list.spanned) ∙ ap kinds (drop-drop (length (g.tokens t)) from list.spanned) ∙ ap (λ n. kinds (drop n list.spanned)) next in
        record {
          within = omega (arith, sizes s);
          stands = subst (λ l. Stands g d (kinds (drop from list.spanned)) t l) after s;
        }

pub next_is : (spanned rest : List Spanned) (next : ℕ) → next ≤ length spanned → kinds rest ≡ kinds (drop next spanned) → length spanned - length rest ≡ next
next_is spanned rest next within e =
    let size = sym (length-map rest (λ x. x.token)) ∙ ap length e ∙ length-map (drop next spanned) (λ x. x.token) ∙ length-drop next spanned in
    omega (arith, size, within)

-- where a tree was read, there is a token at its beginning
pub begun : {Tree : Type 0} (read : List Token → Result (Tree × List Token) Stuck) → read [] ≡ Err (Unexpected 0) → (list : TokenList) (from : ℕ) (p : Tree × List Token) → read (kinds (drop from list.spanned)) ≡ Ok p → from ≤ length list.spanned
begun read ends list from p e = at (leb from (length list.spanned)) refl
  where
    at : (b : Bool) → leb from (length list.spanned) ≡ b → from ≤ length list.spanned
    at true h = leb-true from (length list.spanned) h
    at false h =
        let less = leb-false from (length list.spanned) h in
        absurd (ok_not_err p (Unexpected 0) (sym e ∙ (ap (λ l. read (kinds l)) (drop_all from list.spanned (omega (arith, less))) ∙ ends)))

-- a reader of a grammar by its machine
pub record Follows {Sym : Type 0} {Tree : Type 0} (m : Table Sym) (g : Grammar Tree) (start : ℕ → Sym) (read : ℕ → List Token → Result (Tree × List Token) Stuck) : Type 0 where
  pub fits : Fits m g start
  pub follows : (left d : ℕ) → left ≡ 65 - d → (stack : List Sym) (ts : List Token) → scan m (start d ∷ stack) ts ≡ (read left ts >>= (λ r. scan m stack r.1))
  pub again : (t : Tree) (bound left d : ℕ) (rest : List Token) → left ≡ suc bound - d → g.IsRight t ≡ true → at_most bound (g.levels d t) ≡ true → read left (g.tokens t ++ rest) ≡ Ok (t, rest)

module _ {Sym : Type 0} {Tree : Type 0} (m : Table Sym) (g : Grammar Tree) (start : ℕ → Sym) (read : ℕ → List Token → Result (Tree × List Token) Stuck) (reader : Follows m g start read) where
  module _ (d left : ℕ) (levels : left ≡ 65 - d) (ts : List Token) where
    outcome : (r : Result (Tree × List Token) Stuck) → read left ts ≡ r → Outcome m (start d ∷ []) ts (r >>= (λ p. Ok p.1))
    outcome r e =
        subst (λ o. Outcome m (start d ∷ []) ts o) (reader.follows left d levels [] ts ∙ ap (λ o. o >>= (λ p. Ok p.1)) e) (scan_says m ts (start d ∷ []))

    pub stands_read : (t : Tree) (rest : List Token) → Stands g d ts t rest → read left ts ≡ Ok (t, rest)
    stands_read t rest s = ap (read left) s.spelled ∙ reader.again t 64 left d rest levels s.right s.nested

    pub read_stands : (t : Tree) (rest : List Token) → read left ts ≡ Ok (t, rest) → Stands g d ts t rest
    read_stands t rest e =
        let found = stands_is m g start reader.fits d ts rest (outcome (Ok (t, rest)) e) in
        subst (λ u. Stands g d ts u rest) (sym (same_read t found.0 rest rest (sym e ∙ stands_read found.0 rest found.1)).0) found.1

    pub read_unexpected : (k : ℕ) → read left ts ≡ Err (Unexpected k) → IsUnexpected g d ts k
    read_unexpected k e = unexpected_is m g start reader.fits d ts k (outcome (Err (Unexpected k)) e)

    pub read_too_nested : (k : ℕ) → read left ts ≡ Err (TooNested k) → IsTooNested g d ts k
    read_too_nested k e = too_nested_is m g start reader.fits d ts k (outcome (Err (TooNested k)) e)

  -- what the parser answers where the reader stops
  module _ (d left : ℕ) (levels : left ≡ 65 - d) (list : TokenList) (from : ℕ) where
    pub stop_fault : (s : Stop) → Stops s (read left (kinds (drop from list.spanned))) → IsParseFault g d list from (fault_at list s)
    stop_fault (stop.Unexpected k) e = (k, read_unexpected d left levels (kinds (drop from list.spanned)) k e, refl)
    stop_fault (stop.TooNested k) e = (k, read_too_nested d left levels (kinds (drop from list.spanned)) k e, refl)
    stop_fault stop.NoMemory e = tt

    pub stop_only : (s : Stop) (p : Tree × List Token) → Stops s (read left (kinds (drop from list.spanned))) → read left (kinds (drop from list.spanned)) ≡ Ok p → fault_at list s ≡ fault.NoMemory
    stop_only (stop.Unexpected k) p e f = absurd (ok_not_err p (Unexpected k) (sym f ∙ e))
    stop_only (stop.TooNested k) p e f = absurd (ok_not_err p (TooNested k) (sym f ∙ e))
    stop_only stop.NoMemory p e f = refl

  -- the tokens of one tree never begin those of another
  pub one_reading : OneReading g
  one_reading t u x y right other e =
      let bound = total (g.levels 0 t) + total (g.levels 0 u) in
      let first = reader.again t bound (suc bound) 0 x (omega arith) right (under_total bound (g.levels 0 t) (omega arith)) in
      let second = reader.again u bound (suc bound) 0 y (omega arith) other (under_total bound (g.levels 0 u) (omega arith)) in
      same_read t u x y (sym first ∙ ap (read (suc bound)) e ∙ second)

  -- at most one tree stands at the front of tokens
  pub one_form : OneForm g
  one_form d ts t u x y s r = one_reading t u x y s.right r.right (sym s.spelled ∙ r.spelled)
