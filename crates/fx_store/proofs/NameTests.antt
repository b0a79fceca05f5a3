-- What the tests of bytes say.
use Rattle.std.proofs.Common.{◌≡◌, ℕ, Bool, true, false, List, Result, Ok, Err, is_ok, MatchResult, sym, refl}
use Rattle.std.specs.Prelude.{IsUtf8}
use Rattle.std.specs.Str.{is_utf8}
use Rattle.std.proofs.lemmas.Str.{is_utf8-from_IsUtf8, IsUtf8-from_is_utf8}

module _ (bs : List ℕ) where
  not_utf8 : (b : Bool) → is_utf8 bs ≡ b → ¬ (IsUtf8 bs) → false ≡ b
  not_utf8 true e n = absurd (n (IsUtf8-from_is_utf8 bs e))
  not_utf8 false e n = refl

  -- bytes are UTF-8 exactly where they are read as text
  pub is_utf8-read : {A B : Type 0} (P : A → Type 0) (Q : B → Type 0) (r : Result A B) → MatchResult r (λ s. P s × IsUtf8 bs) (λ e. ¬ (IsUtf8 bs) × Q e) → is_ok r ≡ is_utf8 bs
  is_utf8-read P Q (Ok s) h = sym (is_utf8-from_IsUtf8 bs h.1)
  is_utf8-read P Q (Err e) h = not_utf8 (is_utf8 bs) refl h.0
