-- The lines of scripts, cut into their tokens.
use Rattle.std.proofs.Common.{◌≡◌, ℕ, ◌+◌, ◌%◌, ◌^◌, ◌<◌, ◌≤◌, true, ◌&&◌, List, [], ◌∷◌, ◌++◌, length, refl, ap, ◌∙◌, arith, append_assoc, length-append, codes}
use Rattle.std.specs.List.{list_all}
use Rattle.std.specs.Fmt.{decimal}
use Rattle.std.proofs.lemmas.Fmt.{decimal_by_steps, length-decimal-le}
use Rattle.std.proofs.lemmas.List.Folds.{list_all-append}
use Rattle.fx_lex.specs.Reading.{Piece, ArePieces}
use Rattle.fx_gen.specs.Notes.{project}
use Rattle.fx_gen.specs.Scripts.{front, count_line, log_line, tag}
use Rattle.fx_gen.proofs.Placing.{each_below}
use Rattle.fx_grammar.specs.Tokens.{txn_tokens}
use Rattle.fx_gen.specs.Trees.{count_tree, log_tree}
use Rattle.fx_gen.proofs.Cutting.{Bit, blank, digit, one, is_plain, text_piece, pieces_of, bytes_of, goods_at, string_piece, join_pieces, tokens_in}
use Rattle.fx_gen.proofs.Described.{sp, w, opens, closes}

-- `txn { into next into to(`
abbrev front_bits : List Bit
front_bits = w (codes "txn") ∷ sp ∷ one 123 ∷ sp ∷ w (codes "into") ∷ sp ∷ w (codes "next") ∷ sp ∷ w (codes "into") ∷ sp ∷ w (codes "to") ∷ opens ∷ []

-- `) down into down fetch n : str store(text((int(n) + 1))) }`
abbrev count_bits : List Bit
count_bits =
    closes ∷ sp ∷ w (codes "down") ∷ sp ∷ w (codes "into") ∷ sp ∷ w (codes "down") ∷ sp ∷ w (codes "fetch") ∷ sp ∷ w (codes "n") ∷ sp ∷ one 58 ∷ sp ∷ w (codes "str") ∷ sp ∷
    w (codes "store") ∷ opens ∷ w (codes "text") ∷ opens ∷ opens ∷ w (codes "int") ∷ opens ∷ w (codes "n") ∷ closes ∷ sp ∷ one 43 ∷ sp ∷ digit 49 ∷ closes ∷ closes ∷ closes ∷ sp ∷ one 125 ∷ blank 10 ∷ []

-- `) down into next into down fetch l : names store((l union one(`
abbrev log_bits : List Bit
log_bits =
    closes ∷ sp ∷ w (codes "down") ∷ sp ∷ w (codes "into") ∷ sp ∷ w (codes "next") ∷ sp ∷ w (codes "into") ∷ sp ∷ w (codes "down") ∷ sp ∷ w (codes "fetch") ∷ sp ∷ w (codes "l") ∷ sp ∷ one 58 ∷ sp ∷ w (codes "names") ∷ sp ∷
    w (codes "store") ∷ opens ∷ opens ∷ w (codes "l") ∷ sp ∷ w (codes "union") ∷ sp ∷ w (codes "one") ∷ opens ∷ []

-- `))) }`
abbrev end_bits : List Bit
end_bits = closes ∷ closes ∷ closes ∷ sp ∷ one 125 ∷ blank 10 ∷ []

abbrev pub count_pieces : ℕ → List Piece
count_pieces p = pieces_of front_bits ++ (text_piece (project p) ∷ pieces_of count_bits)

abbrev pub log_pieces : ℕ → ℕ → ℕ → List Piece
log_pieces p k j = pieces_of front_bits ++ (text_piece (project p) ∷ (pieces_of log_bits ++ (text_piece (tag k j) ∷ pieces_of end_bits)))

-- ---- letters and digits are plain

project_plain : (p : ℕ) → p < 100 → list_all is_plain (project p) ≡ true
project_plain p h = each_below (λ p. list_all is_plain (project p)) 100 refl p h

digit_plain : (d : ℕ) → d < 10 → is_plain (48 + d) ≡ true
digit_plain d h = each_below (λ d. is_plain (48 + d)) 10 refl d h

decimal_plain : (n : ℕ) → n < 2 ^ 64 → list_all is_plain (decimal n) ≡ true
decimal_plain =
    decimal_by_steps
    (λ n ds. list_all is_plain ds ≡ true)
    (λ n small. ap (λ b. b && true) (digit_plain n small))
    (λ n ds large all. list_all-append is_plain ds ((48 + n % 10) ∷ []) ∙ ap (λ b. b && (is_plain (48 + n % 10) && true)) all ∙ ap (λ b. b && true) (digit_plain (n % 10) (omega arith)))

tag_plain : (k j : ℕ) → k < 2 ^ 32 → j < 2 ^ 32 → list_all is_plain (tag k j) ≡ true
tag_plain k j kk jj =
    list_all-append is_plain (codes "s" ++ decimal k ++ codes "t") (decimal j)
    ∙ ap (λ b. b && list_all is_plain (decimal j)) (list_all-append is_plain (decimal k) (codes "t") ∙ ap (λ b. b && true) (decimal_plain k (omega (arith, kk))))
    ∙ decimal_plain j (omega (arith, jj))

-- ---- the pieces stand, whatever follows

pub count_stands : (p : ℕ) (rest : List ℕ) → p < 100 → ArePieces (count_pieces p) rest
count_stands p rest h =
    join_pieces (pieces_of front_bits) (text_piece (project p) ∷ pieces_of count_bits) rest (goods_at front_bits (bytes_of (text_piece (project p) ∷ pieces_of count_bits) ++ rest) refl)
    (string_piece (project p) (bytes_of (pieces_of count_bits) ++ rest) (project_plain p h), goods_at count_bits rest refl)

pub log_stands : (p k j : ℕ) (rest : List ℕ) → p < 100 → k < 2 ^ 32 → j < 2 ^ 32 → ArePieces (log_pieces p k j) rest
log_stands p k j rest h kk jj =
    let back = text_piece (tag k j) ∷ pieces_of end_bits in
    join_pieces (pieces_of front_bits) (text_piece (project p) ∷ (pieces_of log_bits ++ back)) rest (goods_at front_bits (bytes_of (text_piece (project p) ∷ (pieces_of log_bits ++ back)) ++ rest) refl) (
      string_piece (project p) (bytes_of (pieces_of log_bits ++ back) ++ rest) (project_plain p h),
      join_pieces (pieces_of log_bits) back rest (goods_at log_bits (bytes_of back ++ rest) refl)
          (string_piece (tag k j) (bytes_of (pieces_of end_bits) ++ rest) (tag_plain k j kk jj), goods_at end_bits rest refl),
    )

-- ---- they are the lines

pub count_text : (p : ℕ) → bytes_of (count_pieces p) ≡ count_line p
unfolding count_line
count_text p = refl

pub log_text : (p k j : ℕ) → bytes_of (log_pieces p k j) ≡ log_line p k j
unfolding log_line
log_text p k j =
    ap (λ l. front p ++ codes "into next into down fetch l : names store((l union one(\"" ++ l) (append_assoc (tag k j) (codes "\"") (codes "))) }\n"))

pub count_tokens : (p : ℕ) → tokens_in (count_pieces p) ≡ txn_tokens (count_tree p)
count_tokens p = refl

pub log_tokens : (p k j : ℕ) → tokens_in (log_pieces p k j) ≡ txn_tokens (log_tree p k j)
log_tokens p k j = refl

-- ---- how long they are

pub count_length : (p : ℕ) → length (count_line p) ≤ 65536
unfolding count_line
count_length p = omega arith

pub log_length : (p k j : ℕ) → k < 2 ^ 32 → j < 2 ^ 32 → length (log_line p k j) ≤ 65536
unfolding log_line
log_length p k j kk jj =
    rest (decimal k) (decimal j) (length-decimal-le 10 k (omega arith) (omega (arith, kk)) (omega (arith, kk))) (length-decimal-le 10 j (omega arith) (omega (arith, jj)) (omega (arith, jj)))
  where
    rest : (ks js : List ℕ) → length ks ≤ 10 → length js ≤ 10 → length (front p ++ codes "into next into down fetch l : names store((l union one(\"" ++ (codes "s" ++ ks ++ codes "t" ++ js) ++ codes "\"))) }\n") ≤ 65536
    rest ks js a b = simp length-append (omega (arith, a, b))
