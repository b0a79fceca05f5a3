-- Pieces of a text, by tests of each piece and of the byte behind it.
use Rattle.std.proofs.Common.{◌≡◌, ℕ, suc, ◌+◌, ◌-◌, ◌*◌, ◌≤◌, Bool, true, false, cond, not, ◌&&◌, ◌||◌, inl, inr, ◌⊎◌, pos, List, [], ◌∷◌, ◌++◌, map, length, take, drop, get_or, is_none, is_some, refl, sym, ap, ◌∙◌, subst, arith, append_assoc, length-append}
use Rattle.std.specs.Prelude.{nat_le, ◌==◌, Some, None, Option}
use Rattle.std.specs.List.{list_all, flat_map, prefix_len}
use Rattle.std.proofs.lemmas.Bool.{false≢true, leb-true, eqb-true, and_parts, not-true, or_cases}
use Rattle.std.proofs.Common.{eq-eqb}
use Rattle.std.proofs.lemmas.Grind.{flat_map-append}
use Rattle.std.proofs.lemmas.List.{append-nil}
use Rattle.std.proofs.lemmas.List.{take_at, drop_at}
use Rattle.fx_expr.specs.Bytes.{is_word_byte, has_word_start}
use Rattle.fx_lex.specs.declared.token.Token.{Token}
use Rattle.fx_lex.specs.declared.token.Token.TheVariants as token
use Rattle.fx_lex.specs.declared.token.Mark.{Mark}
use Rattle.fx_lex.specs.Spelling.{is_digit, Item, Plain, is_item, item_bytes, item_value}
use Rattle.fx_lex.specs.Reading.{is_blank, StandsAt, Piece, Gap, Lexeme, piece_bytes, IsPiece, ArePieces, spans}
use Rattle.fx_lex.specs.Kinds.{byte_kind}
use Rattle.fx_lex.specs.Marks.{mark_of_one, mark_of_two}
use Rattle.fx_lex.proofs.Stands.{word_stands, number_stands}
use Rattle.fx_lex.proofs.Marks.{one_stands, two_stands, other_not_twice, unknown_not_twice}
use Rattle.fx_lex.proofs.Strings.{StringSoFar, string_stands}
use Rattle.fx_parse.specs.Reader.{kinds}
use Rattle.fx_grammar.specs.Texts.{HasTokens}

abbrev pub first : List ℕ → ℕ
first [] = 0
first (b ∷ bytes) = b

-- ---- a run ends where the next byte does not go on

runs : (p : ℕ → Bool) (bytes rest : List ℕ) → list_all p bytes ≡ true → p (first rest) ≡ false → prefix_len p (bytes ++ rest) ≡ length bytes
runs p [] [] pass stop = refl
runs p [] (b ∷ rest) pass stop = ap (λ c. cond c (1 + prefix_len p rest) 0) stop
runs p (b ∷ bytes) rest pass stop =
    let parts = and_parts (p b) (list_all p bytes) pass in
    let more = runs p bytes rest parts.1 stop in
    ap (λ c. cond c (1 + prefix_len p (bytes ++ rest)) 0) parts.0 ∙ omega (arith, more)

-- the front and the rest of a text that is cut there
cut : (t : Token) (bytes rest : List ℕ) → StandsAt (take (length bytes) (bytes ++ rest)) (drop (length bytes) (bytes ++ rest)) t → StandsAt bytes rest t
cut t bytes rest h =
    subst (λ l. StandsAt l rest t) (take_at bytes rest (length bytes) refl) (subst (λ l. StandsAt (take (length bytes) (bytes ++ rest)) l t) (drop_at bytes rest (length bytes) refl) h)

start_joined : (bytes rest : List ℕ) → has_word_start bytes ≡ true → has_word_start (bytes ++ rest) ≡ true
start_joined [] rest h = absurd (false≢true h)
start_joined (b ∷ bytes) rest h = h

word_piece : (bytes rest : List ℕ) → has_word_start bytes ≡ true → list_all is_word_byte bytes ≡ true → length bytes ≤ 64 → is_word_byte (first rest) ≡ false → StandsAt bytes rest (token.Word bytes)
word_piece bytes rest start pass short stop =
    let here = word_stands (bytes ++ rest) (length bytes) (start_joined bytes rest start) (sym (runs is_word_byte bytes rest pass stop)) short in
    cut (token.Word bytes) bytes rest (subst (λ l. StandsAt (take (length bytes) (bytes ++ rest)) (drop (length bytes) (bytes ++ rest)) (token.Word l)) (take_at bytes rest (length bytes) refl) here)

-- a number of one digit
digit_piece : (d : ℕ) (rest : List ℕ) → is_digit d ≡ true → is_digit (first rest) ≡ false → StandsAt (d ∷ []) rest (token.Number (pos (d - 48)))
digit_piece d rest pass stop =
    let one : list_all is_digit (d ∷ []) ≡ true = ap (λ c. c && true) pass in
    let value : 10 * 0 + (d - 48) ≡ d - 48 = omega arith in
    let low = leb-true d 57 (and_parts (nat_le 48 d) (nat_le d 57) pass).1 in
    cut (token.Number (pos (d - 48))) (d ∷ []) rest
    (number_stands (d ∷ rest) 1 (pos (d - 48)) (omega arith) pass (sym (runs is_digit (d ∷ []) rest one stop)) (tt, omega (arith, low), ap pos (sym value)))

one_piece : (b : ℕ) (mark : Mark) (rest : List ℕ) → byte_kind b ≡ 5 → mark_of_one b ≡ Some mark → (mark_of_two b ≡ None) ⊎ (first rest ≡ b → ⊥) → StandsAt (b ∷ []) rest (token.Mark mark)
one_piece b mark rest kind found alone =
    cut (token.Mark mark) (b ∷ []) rest (one_stands (b ∷ rest) mark (omega arith) kind (elim alone [ inl none ↦ unknown_not_twice (b ∷ rest) none | inr other ↦ other_not_twice (b ∷ rest) (λ e. other (second rest e)) ]) found)
  where
    second : (rest : List ℕ) → get_or (b ∷ rest) 1 0 ≡ b → first rest ≡ b
    second [] e = e
    second (c ∷ rest) e = e

two_piece : (b : ℕ) (mark : Mark) (rest : List ℕ) → byte_kind b ≡ 5 → mark_of_two b ≡ Some mark → StandsAt (b ∷ b ∷ []) rest (token.Mark mark)
two_piece b mark rest kind found = cut (token.Mark mark) (b ∷ b ∷ []) rest (two_stands (b ∷ b ∷ rest) mark (omega arith) kind refl found)

-- ---- a string of plain bytes

abbrev pub is_plain : ℕ → Bool
is_plain b = is_item (Plain b)

abbrev plains : List ℕ → List Item
plains bytes = map (λ b. Plain b) bytes

plain_items : (bytes : List ℕ) → list_all is_plain bytes ≡ true → list_all is_item (plains bytes) ≡ true
plain_items [] pass = refl
plain_items (b ∷ bytes) pass = let parts = and_parts (is_plain b) (list_all is_plain bytes) pass in ap (λ c. c && list_all is_item (plains bytes)) parts.0 ∙ plain_items bytes parts.1

plain_bytes : (bytes : List ℕ) → flat_map item_bytes (plains bytes) ≡ bytes
plain_bytes [] = refl
plain_bytes (b ∷ bytes) = ap (λ l. b ∷ l) (plain_bytes bytes)

plain_values : (bytes : List ℕ) → bytes ≡ map item_value (plains bytes)
plain_values [] = refl
plain_values (b ∷ bytes) = ap (λ l. b ∷ l) (plain_values bytes)

mark_at : (bytes rest : List ℕ) → get_or ((bytes ++ 34 ∷ []) ++ rest) (length bytes) 0 ≡ 34
mark_at [] rest = refl
mark_at (b ∷ bytes) rest = mark_at bytes rest

abbrev pub quoted : List ℕ → List ℕ
quoted bytes = 34 ∷ (bytes ++ 34 ∷ [])

pub string_piece : (bytes rest : List ℕ) → list_all is_plain bytes ≡ true → StandsAt (quoted bytes) rest (token.Str bytes)
string_piece bytes rest pass =
    let whole : quoted bytes ++ rest ≡ 34 ∷ (bytes ++ 34 ∷ rest) = ap (λ l. 34 ∷ l) (append_assoc bytes (34 ∷ []) rest) in
    let left : drop (suc (length bytes)) (quoted bytes ++ rest) ≡ 34 ∷ rest = ap (drop (suc (length bytes))) whole ∙ drop_at bytes (34 ∷ rest) (length bytes) refl in
    let size : length (quoted bytes ++ rest) ≡ suc (length bytes + suc (length rest)) = ap length whole ∙ ap suc (length-append bytes (34 ∷ rest)) in
    let so : StringSoFar (quoted bytes ++ rest) (suc (length bytes)) bytes = record {
      items = plains bytes;
      right = plain_items bytes pass;
      begun = whole ∙ ap (λ l. 34 ∷ (l ++ 34 ∷ rest)) (sym (plain_bytes bytes)) ∙ ap (λ l. 34 ∷ (flat_map item_bytes (plains bytes) ++ l)) (sym left);
      stands = plain_values bytes;
      some = omega arith;
      within = omega (arith, size);
      short = omega arith;
    } in
    let here = string_stands (quoted bytes ++ rest) (suc (length bytes)) bytes so (omega (arith, size)) (mark_at bytes rest) in
    let long : suc (length bytes) + 1 ≡ length (quoted bytes) = omega (arith, length-append bytes (34 ∷ [])) in
    cut (token.Str bytes) (quoted bytes) rest (subst (λ n. StandsAt (take n (quoted bytes ++ rest)) (drop n (quoted bytes ++ rest)) (token.Str bytes)) long here)

-- ---- bits of a text, each of which tells its piece

pub data Bit : Type 0 where
  blank : ℕ → Bit
  word : List ℕ → Bit
  digit : ℕ → Bit
  one : ℕ → Bit
  two : ℕ → Bit
  text : List ℕ → Bit

abbrev mark_piece : List ℕ → Option Mark → Piece
mark_piece bytes None = Gap bytes
mark_piece bytes (Some mark) = Lexeme bytes (token.Mark mark)

abbrev pub text_piece : List ℕ → Piece
text_piece v = Lexeme (quoted v) (token.Str v)

abbrev pub bit_piece : Bit → Piece
bit_piece (blank b) = Gap (b ∷ [])
bit_piece (word w) = Lexeme w (token.Word w)
bit_piece (digit d) = Lexeme (d ∷ []) (token.Number (pos (d - 48)))
bit_piece (one b) = mark_piece (b ∷ []) (mark_of_one b)
bit_piece (two b) = mark_piece (b ∷ b ∷ []) (mark_of_two b)
bit_piece (text v) = text_piece v

abbrev pub pieces_of : List Bit → List Piece
pieces_of bits = map bit_piece bits

abbrev pub bytes_of : List Piece → List ℕ
bytes_of pieces = flat_map piece_bytes pieces

-- the bit stands where this byte comes next
abbrev good : Bit → ℕ → Bool
good (blank b) next = is_blank b
good (word w) next = has_word_start w && (list_all is_word_byte w && (nat_le (length w) 64 && not (is_word_byte next)))
good (digit d) next = is_digit d && not (is_digit next)
good (one b) next = (byte_kind b == 5) && (is_some (mark_of_one b) && (is_none (mark_of_two b) || not (next == b)))
good (two b) next = (byte_kind b == 5) && is_some (mark_of_two b)
good (text v) next = list_all is_plain v

abbrev pub goods : List Bit → ℕ → Bool
goods [] next = true
goods (b ∷ bits) next = good b (first (bytes_of (pieces_of bits) ++ next ∷ [])) && goods bits next

some_mark : (o : Option Mark) → is_some o ≡ true → (m : Mark) × (o ≡ Some m)
some_mark None e = absurd (false≢true e)
some_mark (Some m) e = (m, refl)

no_mark : (o : Option Mark) → is_none o ≡ true → o ≡ None
no_mark None e = refl
no_mark (Some m) e = absurd (false≢true e)

alone : (b next : ℕ) → (is_none (mark_of_two b) || not (next == b)) ≡ true → (mark_of_two b ≡ None) ⊎ (next ≡ b → ⊥)
alone b next e = elim (or_cases (is_none (mark_of_two b)) (not (next == b)) e) [
  | inl none ↦ inl (no_mark (mark_of_two b) none)
  | inr other ↦ inr (λ same. false≢true (sym (not-true (next == b) other) ∙ eq-eqb next b same))
]

good_at : (b : Bit) (rest : List ℕ) → good b (first rest) ≡ true → IsPiece (bit_piece b) rest
good_at (blank b) rest e = inl (e, refl)
good_at (word w) rest e =
    let p = and_parts _ _ e in
    let q = and_parts _ _ p.1 in
    let r = and_parts _ _ q.1 in
    word_piece w rest p.0 q.0 (leb-true (length w) 64 r.0) (not-true _ r.1)
good_at (digit d) rest e = let p = and_parts _ _ e in digit_piece d rest p.0 (not-true _ p.1)
good_at (one b) rest e =
    let p = and_parts _ _ e in
    let q = and_parts _ _ p.1 in
    let m = some_mark (mark_of_one b) q.0 in
    subst (λ o. IsPiece (mark_piece (b ∷ []) o) rest) (sym m.1) (one_piece b m.0 rest (eqb-true (byte_kind b) 5 p.0) m.1 (alone b (first rest) q.1))
good_at (two b) rest e =
    let p = and_parts _ _ e in
    let m = some_mark (mark_of_two b) p.1 in
    subst (λ o. IsPiece (mark_piece (b ∷ b ∷ []) o) rest) (sym m.1) (two_piece b m.0 rest (eqb-true (byte_kind b) 5 p.0) m.1)
good_at (text v) rest e = string_piece v rest e

first_joined : (bytes rest : List ℕ) → first (bytes ++ first rest ∷ []) ≡ first (bytes ++ rest)
first_joined [] rest = refl
first_joined (b ∷ bytes) rest = refl

pub goods_at : (bits : List Bit) (rest : List ℕ) → goods bits (first rest) ≡ true → ArePieces (pieces_of bits) rest
goods_at [] rest e = tt
goods_at (b ∷ bits) rest e =
    let p = and_parts (good b (first (bytes_of (pieces_of bits) ++ first rest ∷ []))) (goods bits (first rest)) e in
    (good_at b (bytes_of (pieces_of bits) ++ rest) (ap (good b) (sym (first_joined (bytes_of (pieces_of bits)) rest)) ∙ p.0), goods_at bits rest p.1)

-- ---- pieces one after another

pub join_pieces : (ps qs : List Piece) (rest : List ℕ) → ArePieces ps (bytes_of qs ++ rest) → ArePieces qs rest → ArePieces (ps ++ qs) rest
join_pieces [] qs rest a b = b
join_pieces (p ∷ ps) qs rest a b =
    (subst (λ l. IsPiece p l) (sym (append_assoc (bytes_of ps) (bytes_of qs) rest) ∙ ap (λ l. l ++ rest) (sym (flat_map-append piece_bytes ps qs))) a.0, join_pieces ps qs rest a.1 b)

abbrev pub tokens_in : List Piece → List Token
tokens_in [] = []
tokens_in (Gap bytes ∷ ps) = tokens_in ps
tokens_in (Lexeme bytes t ∷ ps) = t ∷ tokens_in ps

kinds_spans : (place : ℕ) (ps : List Piece) → kinds (spans place ps) ≡ tokens_in ps
kinds_spans place [] = refl
kinds_spans place (Gap bytes ∷ ps) = kinds_spans (place + length bytes) ps
kinds_spans place (Lexeme bytes t ∷ ps) = ap (λ l. t ∷ l) (kinds_spans (place + length bytes) ps)

pub has_tokens : (ps : List Piece) → ArePieces ps [] → HasTokens (λ ts. ts) (bytes_of ps) (tokens_in ps)
has_tokens ps right = (spans 0 ps, record { pieces = ps; right = right; whole = sym (append-nil (bytes_of ps)); reached = refl; found = refl }, kinds_spans 0 ps)

pub tokens_join : (ps qs : List Piece) → tokens_in (ps ++ qs) ≡ tokens_in ps ++ tokens_in qs
tokens_join [] qs = refl
tokens_join (Gap bytes ∷ ps) qs = tokens_join ps qs
tokens_join (Lexeme bytes t ∷ ps) qs = ap (λ l. t ∷ l) (tokens_join ps qs)
