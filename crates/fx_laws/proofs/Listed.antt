-- Lists with commas between their parts, up to a closing bracket, are read in one way where each part is.
use Rattle.std.proofs.Common.{◌≡◌, ◌∙◌, Bool, true, List, [], ◌∷◌, ◌++◌, append_assoc, refl, sym}
use Rattle.std.specs.List.{flat_map, list_all}
use Rattle.fx_base.proofs.Booleans.{first_true, second_true}
use Rattle.fx_parse.specs.Grammars.{closing, comma}
use Rattle.fx_grammar.specs.Tokens.{Tokens, listed}
use Rattle.fx_laws.specs.TokenLaws.{HasOneReading}
use Rattle.fx_laws.proofs.Tokened.{tail_of}

module _ {Part : Type 0} (tokens : Part → Tokens) (is_right : Part → Bool) (one : HasOneReading tokens is_right)
    (begins : (p : Part) (x y : Tokens) → is_right p ≡ true → tokens p ++ x ≡ closing ∷ y → ⊥) where
  abbrev more : List Part → Tokens
  more ps = flat_map (λ q. comma ∷ tokens q) ps

  more_reading : (ps qs : List Part) (x y : Tokens) → list_all is_right ps ≡ true → list_all is_right qs ≡ true → more ps ++ closing ∷ x ≡ more qs ++ closing ∷ y
      → (ps ≡ qs) × (x ≡ y)
  more_reading [] [] x y p q h = (refl, tail_of _ _ _ _ h)
  more_reading [] (b ∷ qs) x y p q h = absurd (cc)
  more_reading (a ∷ ps) [] x y p q h = absurd (cc)
  more_reading (a ∷ ps) (b ∷ qs) x y p q h =
      let parts = sym (append_assoc (tokens a) (more ps) (closing ∷ x)) ∙ tail_of _ _ _ _ h ∙ append_assoc (tokens b) (more qs) (closing ∷ y) in
      let first = one a b _ _ (first_true (is_right a) (list_all is_right ps) p) (first_true (is_right b) (list_all is_right qs) q) parts in
      let rest = more_reading ps qs x y (second_true (is_right a) (list_all is_right ps) p) (second_true (is_right b) (list_all is_right qs) q) first.1 in
      ((λ i. first.0 i ∷ rest.0 i), rest.1)

  pub listed_reading : (ps qs : List Part) (x y : Tokens) → list_all is_right ps ≡ true → list_all is_right qs ≡ true → listed tokens ps ++ closing ∷ x ≡ listed tokens qs ++ closing ∷ y
      → (ps ≡ qs) × (x ≡ y)
  listed_reading [] [] x y p q h = (refl, tail_of _ _ _ _ h)
  listed_reading [] (b ∷ qs) x y p q h =
      absurd (begins b (more qs ++ closing ∷ y) x (first_true (is_right b) (list_all is_right qs) q) (sym (h ∙ append_assoc (tokens b) (more qs) (closing ∷ y))))
  listed_reading (a ∷ ps) [] x y p q h =
      absurd (begins a (more ps ++ closing ∷ x) y (first_true (is_right a) (list_all is_right ps) p) (sym (append_assoc (tokens a) (more ps) (closing ∷ x)) ∙ h))
  listed_reading (a ∷ ps) (b ∷ qs) x y p q h =
      let parts = sym (append_assoc (tokens a) (more ps) (closing ∷ x)) ∙ h ∙ append_assoc (tokens b) (more qs) (closing ∷ y) in
      let first = one a b _ _ (first_true (is_right a) (list_all is_right ps) p) (first_true (is_right b) (list_all is_right qs) q) parts in
      let rest = more_reading ps qs x y (second_true (is_right a) (list_all is_right ps) p) (second_true (is_right b) (list_all is_right qs) q) first.1 in
      ((λ i. first.0 i ∷ rest.0 i), rest.1)
