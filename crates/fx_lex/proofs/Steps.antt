-- A reading goes on by one piece.
use Rattle.std.proofs.Common.{◌≡◌, ℕ, ◌+◌, ◌≤◌, ◌<◌, List, [], ◌∷◌, ◌++◌, length, drop, take, refl, sym, ap, ◌∙◌, subst, arith, append_assoc, length-append}
use Rattle.std.specs.List.{flat_map}
use Rattle.std.proofs.lemmas.List.{flat_map_more, drop-drop, drop_all, take-append-drop, length-take-le, length-drop, length_push}
use Rattle.fx_lex.specs.declared.token.Token.{Token}
use Rattle.fx_lex.specs.declared.token.Spanned.{Spanned}
use Rattle.fx_lex.specs.Reading.{IsGap, StandsAt, Piece, Gap, Lexeme, piece_bytes, IsPiece, ArePieces, spans, Reads, AreTokensOf, HasNoPiece, IsBadAt}

pieces_push : (ps : List Piece) (p : Piece) (more : List ℕ) → ArePieces ps (piece_bytes p ++ more) → IsPiece p more → ArePieces (ps ++ p ∷ []) more
pieces_push [] p more a h = (h, tt)
pieces_push (q ∷ ps) p more a h =
    let rest : flat_map piece_bytes ps ++ (piece_bytes p ++ more) ≡ flat_map piece_bytes (ps ++ p ∷ []) ++ more =
    sym (append_assoc (flat_map piece_bytes ps) (piece_bytes p) more) ∙ ap (λ l. l ++ more) (flat_map_more piece_bytes [] ps p) in
    (subst (λ l. IsPiece q l) rest a.0, pieces_push ps p more a.1 h)

spans_gap : (place : ℕ) (ps : List Piece) (bytes : List ℕ) → spans place (ps ++ Gap bytes ∷ []) ≡ spans place ps
spans_gap place [] bytes = refl
spans_gap place (Gap g ∷ ps) bytes = spans_gap (place + length g) ps bytes
spans_gap place (Lexeme s t ∷ ps) bytes = ap (λ l. record { token = t; start = place; stop = place + length s } ∷ l) (spans_gap (place + length s) ps bytes)

spans_lexeme : (place end : ℕ) (ps : List Piece) (bytes : List ℕ) (t : Token) → end ≡ place + length (flat_map piece_bytes ps) → spans place (ps ++ Lexeme bytes t ∷ []) ≡ spans place ps ++ record { token = t; start = end; stop = end + length bytes } ∷ []
spans_lexeme place end [] bytes t e =
    let same : place ≡ end = omega (arith, e) in
    ap (λ n. record { token = t; start = n; stop = n + length bytes } ∷ []) same
spans_lexeme place end (Gap g ∷ ps) bytes t e =
    spans_lexeme (place + length g) end ps bytes t (omega (arith, e, length-append g (flat_map piece_bytes ps)))
spans_lexeme place end (Lexeme s u ∷ ps) bytes t e =
    ap (λ l. record { token = u; start = place; stop = place + length s } ∷ l) (spans_lexeme (place + length s) end ps bytes t (omega (arith, e, length-append s (flat_map piece_bytes ps))))

module _ (text bytes more : List ℕ) (place : ℕ) (tokens : List Spanned) (r : Reads text place (bytes ++ more) tokens) where
  pub reads_gap : IsGap bytes more → Reads text (place + length bytes) more tokens
  reads_gap gap = record {
    pieces = r.pieces ++ Gap bytes ∷ [];
    right = pieces_push r.pieces (Gap bytes) more r.right gap;
    whole = r.whole ∙ sym (append_assoc (flat_map piece_bytes r.pieces) bytes more) ∙ ap (λ l. l ++ more) (flat_map_more piece_bytes [] r.pieces (Gap bytes));
    reached = ap (λ n. n + length bytes) r.reached ∙ sym (length-append (flat_map piece_bytes r.pieces) bytes) ∙ ap length (flat_map_more piece_bytes [] r.pieces (Gap bytes));
    found = r.found ∙ sym (spans_gap 0 r.pieces bytes);
  }

  pub reads_token : (t : Token) → StandsAt bytes more t → Reads text (place + length bytes) more (tokens ++ record { token = t; start = place; stop = place + length bytes } ∷ [])
  reads_token t stands = record {
    pieces = r.pieces ++ Lexeme bytes t ∷ [];
    right = pieces_push r.pieces (Lexeme bytes t) more r.right stands;
    whole = r.whole ∙ sym (append_assoc (flat_map piece_bytes r.pieces) bytes more) ∙ ap (λ l. l ++ more) (flat_map_more piece_bytes [] r.pieces (Lexeme bytes t));
    reached = ap (λ n. n + length bytes) r.reached ∙ sym (length-append (flat_map piece_bytes r.pieces) bytes) ∙ ap length (flat_map_more piece_bytes [] r.pieces (Lexeme bytes t));
    found = ap (λ l. l ++ record { token = t; start = place; stop = place + length bytes } ∷ []) r.found ∙ sym (spans_lexeme 0 place r.pieces bytes t (omega (arith, r.reached)));
  }

-- the same over the text from a place on
module _ (text : List ℕ) (place n : ℕ) (tokens : List Spanned) (r : Reads text place (drop place text) tokens) (within : n ≤ length (drop place text)) where
  parted : Reads text place (take n (drop place text) ++ drop n (drop place text)) tokens
  parted = subst (λ l. Reads text place l tokens) (sym (take-append-drop n (drop place text))) r

  pub steps_gap : IsGap (take n (drop place text)) (drop n (drop place text)) → Reads text (place + n) (drop (place + n) text) tokens
  steps_gap gap =
      let next = reads_gap text (take n (drop place text)) (drop n (drop place text)) place tokens parted gap in
      let here = subst (λ m. Reads text (place + m) (drop n (drop place text)) tokens) (length-take-le n (drop place text) within) next in
      subst (λ l. Reads text (place + n) l tokens) (drop-drop n place text) here

  pub steps_token : (t : Token) → StandsAt (take n (drop place text)) (drop n (drop place text)) t → Reads text (place + n) (drop (place + n) text) (tokens ++ record { token = t; start = place; stop = place + n } ∷ [])
  steps_token t stands =
      let next = reads_token text (take n (drop place text)) (drop n (drop place text)) place tokens parted t stands in
      let here = subst (λ m. Reads text (place + m) (drop n (drop place text)) (tokens ++ record { token = t; start = place; stop = place + m } ∷ [])) (length-take-le n (drop place text) within) next in
      subst (λ l. Reads text (place + n) l (tokens ++ record { token = t; start = place; stop = place + n } ∷ [])) (drop-drop n place text) here

-- a token that is found and pushed: the reading goes on behind it, within the text, and no more tokens were read than bytes
pub steps_on : (text : List ℕ) (place n : ℕ) (tokens : List Spanned) (t : Token) → Reads text place (drop place text) tokens → place ≤ length text → length tokens ≤ place
    → (0 < n) × (n ≤ length (drop place text)) × StandsAt (take n (drop place text)) (drop n (drop place text)) t
    → (more : List Spanned) → more ≡ tokens ++ record { token = t; start = place; stop = place + n } ∷ []
    → Reads text (place + n) (drop (place + n) text) more × (place + n ≤ length text) × (length more ≤ place + n)
steps_on text place n tokens t r low few here more pushed =
    let grown : length more ≡ length tokens + 1 = ap length pushed ∙ length_push tokens _ in
    (subst (λ l. Reads text (place + n) (drop (place + n) text) l) (sym pushed) (steps_token text place n tokens r here.1 t here.2), omega (arith, here.1, length-drop place text, low), omega (arith, here.0, few, grown))

-- at the end of the text
pub reads_end : (text : List ℕ) (place : ℕ) (tokens : List Spanned) → Reads text place (drop place text) tokens → place ≤ length text → length text ≤ place → AreTokensOf text tokens
reads_end text place tokens r low high =
    let same : place ≡ length text = omega arith in
    let here = subst (λ l. Reads text place l tokens) (drop_all place text high) r in
    subst (λ n. Reads text n [] tokens) same here

-- at a byte that begins nothing
pub reads_bad : (text : List ℕ) (place : ℕ) (tokens : List Spanned) → Reads text place (drop place text) tokens → place < length text → HasNoPiece (drop place text) → IsBadAt text place
reads_bad text place tokens r below none =
    (drop place text, tokens, r, λ empty. let e = ap length empty in absurd (omega (arith, below, e, length-drop place text)), none)
