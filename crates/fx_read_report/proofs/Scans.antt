-- Quotes are read as they are spelled.
use Rattle.std.proofs.Common.{◌≡◌, ℕ, ◌+◌, ◌*◌, ◌/◌, ◌%◌, ◌<◌, false, nat_eq, List, [], ◌∷◌, ◌++◌, Option, Some, refl, sym, ap, subst, ◌∙◌, ◌⊎◌, inl, inr, arith, append_assoc}
use Rattle.std.specs.Fmt.{digit_glyph}
use Rattle.std.specs.List.{flat_map}
use Rattle.std.specs.Option.{option_map}
use Rattle.std.proofs.lemmas.Bool.Decides.{nat_tests}
use Rattle.std.proofs.lemmas.Bool.{cases_Bool}
use Rattle.fx_report.specs.Print.{is_printable, quote, spelled}
use Rattle.fx_report.specs.Readable.{AreBytes}
use Rattle.fx_read_report.specs.declared.quotes.Place.TheVariants.{Plain}
use Rattle.fx_read_report.specs.Quotes.{digit_value, byte_onto, scan, unquoted}

abbrev pub prepended : {A : Type 0} → List A → Option (List A × List ℕ) → Option (List A × List ℕ)
prepended front read = option_map (λ r. (front ++ r.0, r.1)) read

same_or_not : (m n : ℕ) → (m ≡ n) ⊎ (nat_eq m n ≡ false)
same_or_not m n = grind (arith, nat_tests)

digit_of : (d : ℕ) → d < 16 → digit_value (digit_glyph false d) ≡ Some d
digit_of d h = grind (arith, nat_tests)

-- what is spelled is read

printed_read : (c : ℕ) (x : List ℕ) → c < 256 → nat_eq c 34 ≡ false → nat_eq c 92 ≡ false → nat_eq c 10 ≡ false → scan Plain (spelled c ++ x) ≡ byte_onto c (scan Plain x)
unfolding spelled
printed_read c x byte not_quote not_slash not_feed =
    let high = digit_of (c / 16) (omega arith) in
    let low = digit_of (c % 16) (omega arith) in
    let whole : 16 * (c / 16) + c % 16 ≡ c = omega arith in
    rw (not_quote, not_slash, not_feed) (elim (cases_Bool (is_printable c)) [
      | inl e ↦ rw (e, not_quote, not_slash, e) refl
      | inr e ↦ rw (e, high, low, whole) refl
    ])

spelled_read : (c : ℕ) (x : List ℕ) → c < 256 → scan Plain (spelled c ++ x) ≡ byte_onto c (scan Plain x)
unfolding spelled
spelled_read c x byte =
    let P : ℕ → Type 0 = λ d. scan Plain (spelled d ++ x) ≡ byte_onto d (scan Plain x) in
    elim (same_or_not c 34) [
      | inl e ↦ subst P (sym e) refl
      | inr not_quote ↦ elim (same_or_not c 92) [
        | inl e ↦ subst P (sym e) refl
        | inr not_slash ↦ elim (same_or_not c 10) [
          | inl e ↦ subst P (sym e) refl
          | inr not_feed ↦ printed_read c x byte not_quote not_slash not_feed
        ]
      ]
    ]

spells_read : (a x : List ℕ) → AreBytes a → scan Plain (flat_map spelled a ++ 34 ∷ x) ≡ Some (a, x)
spells_read [] x p = refl
spells_read (c ∷ a) x p =
    ap (scan Plain) (append_assoc (spelled c) (flat_map spelled a) (34 ∷ x))
    ∙ (spelled_read c (flat_map spelled a ++ 34 ∷ x) p.0 ∙ ap (byte_onto c) (spells_read a x p.1))

quote_form : (a x : List ℕ) → quote a ++ x ≡ 34 ∷ (flat_map spelled a ++ 34 ∷ x)
unfolding quote
quote_form a x = ap (λ t. 34 ∷ t) (append_assoc (flat_map spelled a) (34 ∷ []) x)

pub quote_read : (a x : List ℕ) → AreBytes a → unquoted (quote a ++ x) ≡ Some (a, x)
unfolding unquoted
quote_read a x p = ap unquoted (quote_form a x) ∙ spells_read a x p
