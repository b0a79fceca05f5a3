-- The description's text, cut into its tokens.
use Rattle.std.proofs.Common.{◌≡◌, ℕ, true, List, [], ◌∷◌, ◌++◌, map, refl, ap, ◌∙◌, codes}
use Rattle.std.proofs.lemmas.Bool.{leb-true}
use Rattle.fx_expr.specs.ShapeTree.{ShapeTree}
use Rattle.fx_lex.specs.Kept.{kept}
use Rattle.fx_grammar.specs.Texts.{HasTokens}
use Rattle.fx_grammar.specs.Tokens.{text_tokens}
use Rattle.fx_gen.specs.Scripts.{description}
use Rattle.fx_gen.specs.Trees.{description_text, DescriptionStands}
use Rattle.fx_gen.proofs.Cutting.{Bit, blank, word, one, two, text, pieces_of, goods, goods_at, tokens_in, has_tokens}

abbrev pub sp : Bit
sp = blank 32

abbrev pub w : List ℕ → Bit
w bytes = word bytes

-- `( ) < > { } : , |` and `::`
abbrev pub opens : Bit
opens = one 40

abbrev pub closes : Bit
closes = one 41

abbrev entry_bits : List ℕ → List ℕ → List Bit
entry_bits name kind = opens ∷ text name ∷ sp ∷ two 58 ∷ sp ∷ w kind ∷ closes ∷ []

abbrev bits : List Bit
bits =
    one 60 ∷ w (codes "c") ∷ sp ∷ one 58 ∷ sp ∷ (entry_bits (codes "config") (codes "file") ++ (one 44 ∷ sp ∷ one 60 ∷ w (codes "t") ∷ sp ∷ one 58 ∷ sp ∷ one 123 ∷ opens ∷ w (codes "p") ∷ sp ∷ two 58 ∷ sp ∷ one 60 ∷ w (codes "n") ∷ sp ∷ one 58 ∷ sp ∷
    (entry_bits (codes "count") (codes "file") ++ (one 44 ∷ sp ∷ one 60 ∷ w (codes "l") ∷ sp ∷ one 58 ∷ sp ∷ (entry_bits (codes "log") (codes "dir") ++ (one 44 ∷ sp ∷ (entry_bits (codes "notes") (codes "dir") ++ (one 62 ∷ one 62 ∷ closes ∷ sp ∷ one 124 ∷ sp ∷ w (codes "p") ∷ sp ∷ w (codes "in") ∷ sp ∷ w (codes "lines") ∷ opens ∷ w (codes "c") ∷ closes ∷ one 125 ∷ one 44 ∷ sp ∷
    (entry_bits (codes "current") (codes "link") ++ (one 62 ∷ one 62 ∷ blank 10 ∷ []))))))))))

bits_good : goods bits 0 ≡ true
bits_good = refl

bits_tokens : map kept (tokens_in (pieces_of bits)) ≡ text_tokens description_text
bits_tokens = refl

cut : HasTokens (λ ts. ts) description (tokens_in (pieces_of bits))
cut = has_tokens (pieces_of bits) (goods_at bits [] bits_good)

description_tokens : HasTokens (map kept) description (text_tokens description_text)
description_tokens = (cut.0, cut.1, ap (λ ts. map kept ts) cut.2 ∙ bits_tokens)

pub description_stands : DescriptionStands
description_stands = record {
  text = record { short = leb-true _ _ refl; tokens = description_tokens; names = refl; nested = refl };
  shapes = record {
    defs = tt;
    root =
        ((refl, tt), refl, (((ShapeTree.str, (refl, refl), refl), refl, (refl, ((refl, tt), refl, ((refl, tt), refl, (refl, tt))))), refl, (refl, tt)));
    nested = leb-true _ _ refl;
  };
}
