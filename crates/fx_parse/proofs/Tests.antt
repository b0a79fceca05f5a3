-- A symbol of a machine that takes one token where it passes a test, and the reader that expects such a token.
use Rattle.std.proofs.Common.{◌≡◌, ℕ, suc, Bool, true, false, ltb, cond, Option, Some, None, Result, Ok, Err, List, [], ◌∷◌, ◌++◌, length, refl, sym, ap, ◌∙◌, subst}
use Rattle.fx_lex.specs.declared.token.Token.{Token}
use Rattle.fx_parse.specs.Stuck.{Stuck, Unexpected, ◌>>=◌}
use Rattle.fx_parse.specs.Reader.{expect}
use Rattle.fx_parse.proofs.Machine.{Table, scan, scan_from}

-- what a test lets pass
abbrev pub passed : {Sym : Type 0} → Bool → Option (List Sym)
passed true = Some []
passed false = None

-- what holds of what is left behind a test that passes
pub passed_step : {Sym : Type 0} (P : List Sym → Type 0) (b : Bool) (more : List Sym) → passed b ≡ Some more → P more → (b ≡ true) × P []
passed_step P true more e r =
    let none : [] ≡ more = cc in
    (refl, subst P (sym none) r)
passed_step P false more e r = absurd cc

module _ {Sym : Type 0} (m : Table Sym) where
  -- a test in the machine is one in the reader
  pub from_passed : (b : Bool) (stack : List Sym) (ts : List Token) (n : ℕ) → scan_from m (passed b) false n (λ more. scan m (more ++ stack) ts) ≡ (cond b (Ok ts) (Err (Unexpected n)) >>= (λ r. scan m stack r))
  from_passed true stack ts n = refl
  from_passed false stack ts n = refl

  -- a symbol of level 0 that becomes nothing at each token that passes
  pub record IsTest (s : Sym) (p : Token → Bool) : Type 0 where
    pub expands : (x : Token) → m.expand s x ≡ passed (p x)
    pub low : (x : Token) → m.level s x ≡ 0

  pub scan_test : {s : Sym} {p : Token → Bool} → IsTest s p → (stack : List Sym) (ts : List Token) → scan m (s ∷ stack) ts ≡ (expect p ts >>= (λ r. scan m stack r))
  scan_test {s} {p} is stack [] = refl
  scan_test {s} {p} is stack (x ∷ ts) =
      ap (λ o. scan_from m o (ltb 64 (m.level s x)) (suc (length ts)) (λ more. scan m (more ++ stack) ts)) (is.expands x)
      ∙ ap (λ l. scan_from m (passed (p x)) (ltb 64 l) (suc (length ts)) (λ more. scan m (more ++ stack) ts)) (is.low x)
      ∙ from_passed (p x) stack ts (suc (length ts))

  -- and a test that keeps a word
  pub from_named : (b : Bool) (w : List ℕ) (stack : List Sym) (ts : List Token) → scan_from m (passed b) false (suc (length ts)) (λ more. scan m (more ++ stack) ts) ≡ (let r : Result (List ℕ × List Token) Stuck = cond b (Ok (w, ts)) (Err (Unexpected (suc (length ts)))) in r >>= (λ r. scan m stack r.1))
  from_named true w stack ts = refl
  from_named false w stack ts = refl
