-- A spelled text is read byte by byte.
use Rattle.fx_table.proofs.Prelude.{◌≡◌, ℕ, ◌+◌, List, [], ◌∷◌, ◌++◌, drop, Option, Some, None, option_map, refl, sym, ◌∙◌, ap, append_assoc, drop-drop, byte_before, unspelled, SpellsByte}

-- bytes before those that are still to be read
abbrev pub joined : List ℕ → Option (List ℕ) → Option (List ℕ)
joined bytes rest = option_map (λ more. bytes ++ more) rest

joined_onto : (bytes : List ℕ) (b : ℕ) (o : Option (List ℕ)) → joined bytes (byte_before (Some b) o) ≡ joined (bytes ++ b ∷ []) o
joined_onto bytes b None = refl
joined_onto bytes b (Some more) = ap (λ l. Some l) (sym (append_assoc bytes (b ∷ []) more))

pub one_more : (text bytes new : List ℕ) (i b n : ℕ) → unspelled text ≡ joined bytes (unspelled (drop i text)) → SpellsByte (drop i text) b n → new ≡ bytes ++ b ∷ [] → unspelled text ≡ joined new (unspelled (drop (i + n) text))
one_more text bytes new i b n so first is =
    so ∙ ap (joined bytes) first.is ∙ joined_onto bytes b (unspelled (drop n (drop i text)))
    ∙ ap (λ l. joined l (unspelled (drop n (drop i text)))) (sym is)
    ∙ ap (λ l. joined new (unspelled l)) (drop-drop n i text)
