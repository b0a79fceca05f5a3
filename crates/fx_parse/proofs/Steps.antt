-- Short ways to write how a machine runs over a form and how a reader reads it.
use Rattle.std.proofs.Common.{◌≡◌, ℕ, Some, Result, Ok, Err, List, [], ◌∷◌, ◌++◌, refl, sym, ap, ◌∙◌, append_assoc}
use Rattle.fx_lex.specs.declared.token.Token.{Token}
use Rattle.fx_parse.specs.Stuck.{Stuck, ◌>>=◌}
use Rattle.fx_parse.proofs.Machine.{Table, Runs, run_on}
use Rattle.fx_parse.proofs.ExprLink.{same_then, then_then}

module _ {Sym : Type 0} (m : Table Sym) where
  -- over these tokens, which have these levels, the stack becomes the other
  pub record Run (stack : List Sym) (ts : List Token) (levels : List ℕ) (end : List Sym) : Type 0 where
    pub runs : Runs m stack ts levels end

  pub ran : {stack : List Sym} → Run stack [] [] stack
  ran = record { runs = (refl, refl) }

  pub takes : (s : Sym) (x : Token) (more : List Sym) {stack end : List Sym} {ts : List Token} {l : List ℕ} → m.expand s x ≡ Some more → Run (more ++ stack) ts l end → Run (s ∷ stack) (x ∷ ts) (m.level s x ∷ l) end
  takes s x more {l} e r = record { runs = (more, l, e, refl, r.runs) }

  pub goes : {stack middle end : List Sym} {a b : List Token} {k l : List ℕ} → Run stack a k middle → Run middle b l end → Run stack (a ++ b) (k ++ l) end
  goes {stack} {middle} {end} {a} {b} {k} {l} r q = record { runs = run_on m a stack middle end b k l r.runs q.runs }

-- a reading that goes on: first one part, then the others
pub on : {A B C : Type 0} {start : Result C Stuck} (r : Result A Stuck) (go : A → Result C Stuck) (k : A → Result B Stuck) (end : B → Result C Stuck) → start ≡ (r >>= go) → ((a : A) → go a ≡ (k a >>= end)) → start ≡ ((r >>= k) >>= end)
on r go k end first rest = first ∙ same_then r go (λ a. k a >>= end) rest ∙ sym (then_then r k end)

-- a part whose tokens are read again, and then the others
pub part_then : {A B : Type 0} (read : List Token → Result (A × List Token) Stuck) (a b c : List Token) (t : A) (k : A × List Token → Result B Stuck) → ((r : List Token) → read (a ++ r) ≡ Ok (t, r)) → (read ((a ++ b) ++ c) >>= k) ≡ k (t, b ++ c)
part_then read a b c t k again = ap (λ ts. read ts >>= k) (append_assoc a b c) ∙ ap (λ r. r >>= k) (again (b ++ c))

-- ---- chains of readings

pub then_ok : {A B : Type 0} (r : Result A Stuck) (a : A) (k : A → Result B Stuck) → r ≡ Ok a → (r >>= k) ≡ k a
then_ok r a k e = ap (λ r. r >>= k) e

-- a reading that goes on only where it gives something
pub on_ok : {A B C : Type 0} {start : Result C Stuck} (r : Result A Stuck) (go : A → Result C Stuck) (k : A → Result B Stuck) (end : B → Result C Stuck) → start ≡ (r >>= go) → ((a : A) → r ≡ Ok a → go a ≡ (k a >>= end)) → start ≡ ((r >>= k) >>= end)
on_ok (Ok a) go k end first rest = first ∙ rest a refl
on_ok (Err e) go k end first rest = first
