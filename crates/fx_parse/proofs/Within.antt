-- A machine inside another, some of whose symbols are those of the inner one.
use Rattle.std.proofs.Common.{◌≡◌, ℕ, suc, Bool, true, false, ltb, Option, Some, None, Result, Ok, List, [], ◌∷◌, ◌++◌, length, refl, sym, ap, ◌∙◌, subst, append_assoc}
use Rattle.std.specs.Prelude.{map}
use Rattle.std.proofs.lemmas.List.{map-append, append-nil}
use Rattle.fx_lex.specs.declared.token.Token.{Token}
use Rattle.fx_parse.specs.Stuck.{Stuck, ◌>>=◌}
use Rattle.fx_parse.proofs.Machine.{Table, Runs, run_on, run_under, scan, scan_from, MeansAll}
use Rattle.fx_parse.proofs.ExprLink.{then_then}

-- the symbols of the inner machine as those of the outer one
abbrev pub lifted : {S T : Type 0} → (S → T) → Option (List S) → Option (List T)
lifted part None = None
lifted part (Some more) = Some (map part more)

-- the outer machine takes a token at a symbol of the inner one as that does
pub record Holds {S T : Type 0} (m : Table S) (n : Table T) (part : S → T) : Type 0 where
  pub expands : (s : S) (x : Token) → n.expand (part s) x ≡ lifted part (m.expand s x)
  pub levels : (s : S) (x : Token) → n.level (part s) x ≡ m.level s x

-- what a symbol stands for: the tokens that empty it
abbrev pub Over : {S : Type 0} → Table S → S → List Token → Type 0
Over m s ts = (l : List ℕ) × Runs m (s ∷ []) ts l []

module _ {S T : Type 0} (m : Table S) (n : Table T) (part : S → T) (holds : Holds m n part) where
  pub run_within : (ts : List Token) (stack end : List S) (l : List ℕ) → Runs m stack ts l end → Runs n (map part stack) ts l (map part end)
  run_within [] stack end l r = (r.0, ap (map part) r.1)
  run_within (x ∷ ts) [] end l r = absurd r
  run_within (x ∷ ts) (s ∷ stack) end l r =
      (map part r.0, r.1, holds.expands s x ∙ ap (lifted part) r.2, r.3 ∙ ap (λ d. d ∷ r.1) (sym (holds.levels s x)), subst (λ k. Runs n k ts r.1 (map part end)) (map-append part r.0 stack) (run_within ts (r.0 ++ stack) end r.1 r.4))

  scan_step : (o : Option (List S)) (b : Bool) (k : ℕ) (stack : List S) (below : List T) (ts : List Token) → ((more : List S) → scan n (map part more ++ below) ts ≡ (scan m more ts >>= (λ rest. scan n below rest))) → scan_from n (lifted part o) b k (λ more. scan n (more ++ (map part stack ++ below)) ts) ≡ (scan_from m o b k (λ more. scan m (more ++ stack) ts) >>= (λ rest. scan n below rest))
  scan_step None b k stack below ts ih = refl
  scan_step (Some more) true k stack below ts ih = refl
  scan_step (Some more) false k stack below ts ih =
      ap (λ z. scan n z ts) (sym (append_assoc (map part more) (map part stack) below) ∙ ap (λ z. z ++ below) (sym (map-append part more stack))) ∙ ih (more ++ stack)

  pub scan_within : (ts : List Token) (stack : List S) (below : List T) → scan n (map part stack ++ below) ts ≡ (scan m stack ts >>= (λ rest. scan n below rest))
  scan_within ts [] below = refl
  scan_within [] (s ∷ stack) below = refl
  scan_within (x ∷ ts) (s ∷ stack) below =
      ap (λ o. scan_from n o (ltb 64 (n.level (part s) x)) (suc (length ts)) (λ more. scan n (more ++ (map part stack ++ below)) ts)) (holds.expands s x) ∙ ap (λ d. scan_from n (lifted part (m.expand s x)) (ltb 64 d) (suc (length ts)) (λ more. scan n (more ++ (map part stack ++ below)) ts)) (holds.levels s x) ∙ scan_step (m.expand s x) (ltb 64 (m.level s x)) (suc (length ts)) stack below ts (λ more. scan_within ts more below)

  -- a reader of the inner machine's symbol, in the outer one
  pub goes_within : {A : Type 0} (read : List Token → Result (A × List Token) Stuck) (s : S) → ((ts : List Token) → scan m (s ∷ []) ts ≡ (read ts >>= (λ r. Ok r.1))) → (below : List T) (ts : List Token) → scan n (part s ∷ below) ts ≡ (read ts >>= (λ r. scan n below r.1))
  goes_within read s h below ts =
      scan_within ts (s ∷ []) below ∙ ap (λ r. r >>= (λ rest. scan n below rest)) (h ts) ∙ then_then (read ts) (λ r. Ok r.1) (λ rest. scan n below rest)

  module _ (Means : T → List Token → Type 0) (over : (s : S) (ts : List Token) → Means (part s) ts → Over m s ts) where
    all_over : (more : List S) (ts : List Token) → MeansAll n Means (map part more) ts → (l : List ℕ) × Runs m more ts l []
    all_over [] ts p = let P : List Token → Type 0 = λ z. Runs m [] z [] [] in ([], subst P (sym p) (refl, refl))
    all_over (s ∷ more) ts p =
        let one = over s p.0 p.3 in
        let rest = all_over more p.1 p.4 in
        let P : List Token → Type 0 = λ z. Runs m (s ∷ more) z (one.0 ++ rest.0) [] in
        (one.0 ++ rest.0, subst P (sym p.2) (run_on m p.0 (s ∷ more) more [] p.1 one.0 rest.0 (run_under m p.0 (s ∷ []) [] more one.0 one.1) rest.1))

    lifted_step : (s : S) (x : Token) (more : List T) (ts : List Token) (o : Option (List S)) → m.expand s x ≡ o → lifted part o ≡ Some more → MeansAll n Means more ts → Over m s (x ∷ ts)
    lifted_step s x more ts None h e r = absurd cc
    lifted_step s x more ts (Some k) h e r =
        let same : map part k ≡ more = cc in
        let all = all_over k ts (subst (λ z. MeansAll n Means z ts) (sym same) r) in
        (m.level s x ∷ all.0, (k, all.0, h, refl, subst (λ z. Runs m z ts all.0 []) (sym (append-nil k)) all.1))

    pub part_step : (s : S) (x : Token) (more : List T) (ts : List Token) → n.expand (part s) x ≡ Some more → MeansAll n Means more ts → Over m s (x ∷ ts)
    part_step s x more ts e r = lifted_step s x more ts (m.expand s x) refl (sym (holds.expands s x) ∙ e) r
