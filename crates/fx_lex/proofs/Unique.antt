-- A text is cut in one way at most.
use Rattle.std.proofs.Common.{◌≡◌, ℕ, ◌≤◌, inl, inr, Some, List, [], ◌∷◌, ◌++◌, length, take, refl, sym, ap, ◌∙◌, subst, arith, append_assoc}
use Rattle.std.specs.List.{flat_map}
use Rattle.std.proofs.lemmas.List.{take_at, append_cancel_left}
use Rattle.fx_lex.specs.declared.token.Token.{Token}
use Rattle.fx_lex.specs.declared.token.Token.TheVariants as token
use Rattle.fx_lex.specs.declared.token.Mark.{Mark}
use Rattle.fx_lex.specs.declared.token.Spanned.{Spanned}
use Rattle.fx_lex.specs.Spelling.{Spells, mark_bytes}
use Rattle.fx_lex.specs.Reading.{IsGap, StandsAt, Piece, Gap, Lexeme, piece_bytes, IsPiece, ArePieces, spans, Reads, HasNoPiece}
use Rattle.fx_lex.specs.Laws.{TokensAreUnique, BadPlaceIsUnique, TokensExcludeBadPlace}
use Rattle.fx_lex.specs.Kinds.{byte_kind}
use Rattle.fx_lex.specs.Marks.{mark_of_one, mark_of_two}
use Rattle.fx_lex.proofs.Heads.{gap_kind, token_kind, spells_kind, spells_some, spells_lexeme, mark_head}
use Rattle.fx_lex.proofs.Strings.{string_unique}
use Rattle.fx_lex.proofs.Gaps.{same_gap}

-- a mark by its bytes
same_mark : (m n : Mark) → mark_bytes m ≡ mark_bytes n → m ≡ n
same_mark m n e =
    let p = mark_head m in
    let q = mark_head n in
    elim p.1.bytes [
      | inl one ↦ elim q.1.bytes [
        | inl other ↦
            let whole : p.0 ∷ [] ≡ q.0 ∷ [] = sym one.0 ∙ e ∙ other.0 in
            let same : p.0 ≡ q.0 = cc in
            let both : Some m ≡ Some n = sym one.1 ∙ ap mark_of_one same ∙ other.1 in
            cc
        | inr other ↦ let whole : p.0 ∷ [] ≡ q.0 ∷ q.0 ∷ [] = sym one.0 ∙ e ∙ other.0 in absurd cc
      ]
      | inr two ↦ elim q.1.bytes [
        | inl other ↦ let whole : p.0 ∷ p.0 ∷ [] ≡ q.0 ∷ [] = sym two.0 ∙ e ∙ other.0 in absurd cc
        | inr other ↦
            let whole : p.0 ∷ p.0 ∷ [] ≡ q.0 ∷ q.0 ∷ [] = sym two.0 ∙ e ∙ other.0 in
            let same : p.0 ≡ q.0 = cc in
            let both : Some m ≡ Some n = sym two.1 ∙ ap mark_of_two same ∙ other.1 in
            cc
      ]
    ]

spells_one : (bytes : List ℕ) (t u : Token) → Spells bytes t → Spells bytes u → token_kind t ≡ token_kind u → t ≡ u
spells_one bytes (token.Word v) (token.Word w) s r k = ap token.Word (s.2 ∙ sym r.2)
spells_one bytes (token.Number m) (token.Number n) s r k = ap token.Number (s.3 ∙ sym r.3)
spells_one bytes (token.Str v) (token.Str w) s r k = ap token.Str (string_unique bytes v w s r)
spells_one bytes (token.Mark m) (token.Mark n) s r k = ap token.Mark (same_mark m n (sym s ∙ r))
spells_one bytes token.Def u s r k = absurd s
spells_one bytes t token.Def s r k = absurd r
spells_one bytes _ _ s r k = absurd cc

-- bytes spell one token
pub spells_unique : (bytes : List ℕ) (t u : Token) → Spells bytes t → Spells bytes u → t ≡ u
spells_unique [] t u s r = absurd (spells_some t s)
spells_unique (b ∷ bytes) t u s r = spells_one (b ∷ bytes) t u s r (sym (spells_kind b bytes t s) ∙ spells_kind b bytes u r)

same_token : (s r x y : List ℕ) (t u : Token) → StandsAt s x t → StandsAt r y u → s ++ x ≡ r ++ y → Lexeme s t ≡ Lexeme r u
same_token s r x y t u p q e =
    let most = p.longest r y (sym e) (spells_lexeme r u q.spells) in
    let least = q.longest s x e (spells_lexeme s t p.spells) in
    let size : length s ≡ length r = omega (arith, most, least) in
    let bytes : s ≡ r = sym (take_at s x (length r) size) ∙ ap (λ l. take (length r) l) e ∙ take_at r y (length r) refl in
    let tokens = spells_unique r t u (subst (λ l. Spells l t) bytes p.spells) q.spells in
    ap (λ l. Lexeme l t) bytes ∙ ap (λ v. Lexeme r v) tokens

gap_no_token : (g s x y : List ℕ) (t : Token) → IsGap g x → StandsAt s y t → g ++ x ≡ s ++ y → ⊥
gap_no_token [] s x y t p q e = p
gap_no_token (b ∷ g) [] x y t p q e = spells_some t q.spells
gap_no_token (b ∷ g) (c ∷ s) x y t p q e =
    let same : b ≡ c = cc in
    let low = subst (λ z. byte_kind z ≤ 1) same (gap_kind b g x p) in
    let kind = spells_kind c s t q.spells in
    high t (subst (λ n. n ≤ 1) kind low)
  where
    high : (t : Token) → token_kind t ≤ 1 → ⊥
    high (token.Word w) h = omega (arith, h)
    high (token.Number n) h = omega (arith, h)
    high (token.Str v) h = omega (arith, h)
    high (token.Mark m) h = omega (arith, h)
    high token.Def h = omega (arith, h)

-- one piece stands at a place
pub same_piece : (p q : Piece) (x y : List ℕ) → IsPiece p x → IsPiece q y → piece_bytes p ++ x ≡ piece_bytes q ++ y → p ≡ q
same_piece (Gap g) (Gap h) x y p q e = ap Gap (same_gap g h x y p q e)
same_piece (Gap g) (Lexeme s t) x y p q e = absurd (gap_no_token g s x y t p q e)
same_piece (Lexeme s t) (Gap g) x y p q e = absurd (gap_no_token g s y x t q p (sym e))
same_piece (Lexeme s t) (Lexeme r u) x y p q e = same_token s r x y t u p q e

-- no piece is empty
pub nothing_left : HasNoPiece []
nothing_left (Gap []) more e p = p
nothing_left (Gap (b ∷ g)) more e p = cc
nothing_left (Lexeme [] t) more e p = spells_some t p.spells
nothing_left (Lexeme (b ∷ s) t) more e p = cc

same_pieces : (ps qs : List Piece) (x y : List ℕ) → ArePieces ps x → ArePieces qs y → HasNoPiece x → HasNoPiece y → flat_map piece_bytes ps ++ x ≡ flat_map piece_bytes qs ++ y → ps ≡ qs
same_pieces [] [] x y a b m n e = refl
same_pieces [] (q ∷ qs) x y a b m n e =
    absurd (m q (flat_map piece_bytes qs ++ y) (e ∙ append_assoc (piece_bytes q) (flat_map piece_bytes qs) y) b.0)
same_pieces (p ∷ ps) [] x y a b m n e =
    absurd (n p (flat_map piece_bytes ps ++ x) (sym e ∙ append_assoc (piece_bytes p) (flat_map piece_bytes ps) x) a.0)
same_pieces (p ∷ ps) (q ∷ qs) x y a b m n e =
    let whole = sym (append_assoc (piece_bytes p) (flat_map piece_bytes ps) x) ∙ e ∙ append_assoc (piece_bytes q) (flat_map piece_bytes qs) y in
    let same = same_piece p q (flat_map piece_bytes ps ++ x) (flat_map piece_bytes qs ++ y) a.0 b.0 whole in
    let rest = append_cancel_left (piece_bytes q) (flat_map piece_bytes ps ++ x) (flat_map piece_bytes qs ++ y) (ap (λ z. piece_bytes z ++ (flat_map piece_bytes ps ++ x)) (sym same) ∙ whole) in
    ap (λ z. z ∷ ps) same ∙ ap (λ l. q ∷ l) (same_pieces ps qs x y a.1 b.1 m n rest)

-- two readings up to where no piece begins are the same
module _ (text : List ℕ) (i j : ℕ) (x y : List ℕ) (a b : List Spanned) (r : Reads text i x a) (s : Reads text j y b) (m : HasNoPiece x) (n : HasNoPiece y) where
  pieces_agree : r.pieces ≡ s.pieces
  pieces_agree = same_pieces r.pieces s.pieces x y r.right s.right m n (sym r.whole ∙ s.whole)

  pub tokens_agree : a ≡ b
  tokens_agree = r.found ∙ ap (λ l. spans 0 l) pieces_agree ∙ sym s.found

  pub places_agree : i ≡ j
  places_agree = r.reached ∙ ap (λ l. length (flat_map piece_bytes l)) pieces_agree ∙ sym s.reached

  pub rests_agree : x ≡ y
  rests_agree =
      append_cancel_left (flat_map piece_bytes s.pieces) x y (ap (λ l. flat_map piece_bytes l ++ x) (sym pieces_agree) ∙ sym r.whole ∙ s.whole)

pub tokens_unique : TokensAreUnique
tokens_unique text a b r s = tokens_agree text (length text) (length text) [] [] a b r s nothing_left nothing_left

pub place_unique : BadPlaceIsUnique
place_unique text i j r s = places_agree text i j r.0 s.0 r.1 s.1 r.2 s.2 r.4 s.4

pub tokens_exclude : TokensExcludeBadPlace
tokens_exclude text tokens place r s =
    s.3 (sym (rests_agree text (length text) place [] s.0 tokens s.1 r s.2 nothing_left s.4))
