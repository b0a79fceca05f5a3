-- A text stands for one description and for one script at most.
use Rattle.std.proofs.Common.{◌≡◌, ℕ, List, [], ◌++◌, map, sym, ap, ◌∙◌}
use Rattle.fx_lex.specs.Kept.{kept}
use Rattle.fx_lex.proofs.Unique.{tokens_unique}
use Rattle.fx_parse.specs.Reader.{kinds}
use Rattle.fx_grammar.specs.Tokens.{Tokens, text_tokens, script_tokens}
use Rattle.fx_grammar.specs.Texts.{HasTokens}
use Rattle.fx_laws.specs.TokenLaws.{TextsHaveOneDescription, TextsHaveOneScript}
use Rattle.fx_laws.proofs.Described.{text_reading}
use Rattle.fx_laws.proofs.Commanded.{scripts_differ}

same_tokens : (read : Tokens → Tokens) (text : List ℕ) (x y : Tokens) → HasTokens read text x → HasTokens read text y → x ≡ y
same_tokens read text x y a b = sym a.2 ∙ ap (λ ts. read (kinds ts)) (tokens_unique text a.0 b.0 a.1 b.1) ∙ b.2

pub one_description : TextsHaveOneDescription
one_description text s t a b =
    let one = text_reading s t [] [] a.names b.names (ap (λ ts. ts ++ []) (same_tokens (map kept) text (text_tokens s) (text_tokens t) a.tokens b.tokens)) in
    one.0

pub one_script : TextsHaveOneScript
one_script text a b p q = scripts_differ a b p.names q.names (same_tokens (λ ts. ts) text (script_tokens a) (script_tokens b) p.tokens q.tokens)
