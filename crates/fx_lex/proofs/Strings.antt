-- Reading a string item by item.
use Rattle.std.proofs.Common.{◌≡◌, ℕ, ◌+◌, ◌<◌, ◌≤◌, Bool, true, false, ◌&&◌, cond, eqb, ◌⊎◌, inl, inr, Option, Some, None, List, [], ◌∷◌, ◌++◌, length, map, take, drop, get_or, refl, sym, ap, ◌∙◌, subst, arith, length-take-le, length-append, take-append-drop, append_assoc}
use Rattle.std.specs.List.{list_all, flat_map, prefix_len}
use Rattle.std.proofs.lemmas.Bool.{and_parts, and_from, cond-true, cond-false, eqb-true, cases_Bool, false≢true}
use Rattle.std.proofs.lemmas.List.{take_at, drop_at, drop-drop, drop_more, drop_all, flat_map_more, append-nil, append_cancel_left, map-append, length-drop}
use Rattle.std.proofs.lemmas.List.Folds.{list_all-append}
use Rattle.std.proofs.lemmas.List.Sums.{prefix_len-le-length}
use Rattle.std.proofs.Math.Numerals.{one-add}
use Rattle.fx_lex.specs.declared.token.Token.TheVariants as token
use Rattle.fx_lex.specs.Spelling.{Item, Plain, Escaped, Hex, is_item, item_bytes, item_value, IsString, IsLexeme}
use Rattle.fx_lex.specs.Reading.{StandsAt, HasNoPiece}
use Rattle.fx_lex.specs.Kinds.{byte_kind}
use Rattle.fx_lex.specs.Items.{is_plain, first_item, escaped_item, hex_item}
use Rattle.fx_lex.proofs.Heads.{LexemeOf, lexeme_of, spells_lexeme}
use Rattle.fx_lex.proofs.Runs.{run_passes}
use Rattle.fx_lex.proofs.Stands.{no_piece}

-- a byte that stands for itself is no `\`
plain_not_backslash : (b : ℕ) → is_item (Plain b) ≡ true → eqb b 92 ≡ false
plain_not_backslash b h = elim (cases_Bool (eqb b 92)) [
  | inl is ↦
      let same = eqb-true b 92 is in
      let wrong : is_item (Plain 92) ≡ true = subst (λ x. is_item (Plain x) ≡ true) same h in
      absurd (false≢true wrong)
  | inr isnt ↦ isnt
]

escaped_not_x : (b : ℕ) → is_item (Escaped b) ≡ true → eqb b 120 ≡ false
escaped_not_x b h = elim (cases_Bool (eqb b 120)) [
  | inl is ↦
      let same = eqb-true b 120 is in
      let wrong : is_item (Escaped 120) ≡ true = subst (λ x. is_item (Escaped x) ≡ true) same h in
      absurd (false≢true wrong)
  | inr isnt ↦ isnt
]

-- an item is read wherever it stands
pub item_again : (item : Item) (more : List ℕ) → is_item item ≡ true → first_item (item_bytes item ++ more) ≡ Some (item_value item, length (item_bytes item))
item_again (Plain b) more h = cond-false (eqb b 92) _ _ (plain_not_backslash b h) ∙ cond-true (is_item (Plain b)) _ _ h
item_again (Escaped b) more h = cond-false (eqb b 120) _ _ (escaped_not_x b h) ∙ cond-true (is_item (Escaped b)) _ _ h
item_again (Hex high low) more h = cond-true (is_item (Hex high low)) _ _ h

-- what is read at the front of bytes
pub record IsFirstItem (bytes : List ℕ) (value n : ℕ) : Type 0 where
  pub item : Item
  pub right : is_item item ≡ true
  pub spelled : bytes ≡ item_bytes item ++ drop n bytes
  pub size : n ≡ length (item_bytes item)
  pub stands : value ≡ item_value item

chosen : {A : Type 0} (b : Bool) (x : A) (y : Option A) → (r : A) → cond b (Some x) y ≡ Some r → ((b ≡ true) × (x ≡ r)) ⊎ ((b ≡ false) × (y ≡ Some r))
chosen true x y r e = inl (refl, cc)
chosen false x y r e = inr (refl, e)

hex_is : (rest : List ℕ) (r : ℕ × ℕ) → hex_item rest ≡ Some r → IsFirstItem (92 ∷ 120 ∷ rest) r.0 r.1
hex_is [] r e = absurd cc
hex_is (h ∷ []) r e = absurd cc
hex_is (h ∷ l ∷ rest) r e = elim (chosen (is_item (Hex h l)) (item_value (Hex h l), 4) None r e) [
  | inl is ↦
      let value : item_value (Hex h l) ≡ r.0 = ap (λ p. p.0) is.1 in
      let size : 4 ≡ r.1 = ap (λ p. p.1) is.1 in
      record {
        item = Hex h l;
        right = is.0;
        spelled = ap (λ n. 92 ∷ 120 ∷ h ∷ l ∷ drop n (92 ∷ 120 ∷ h ∷ l ∷ rest)) size;
        size = sym size;
        stands = sym value;
      }
  | inr isnt ↦ let wrong = isnt.1 in absurd cc
]

escaped_is : (rest : List ℕ) (r : ℕ × ℕ) → escaped_item rest ≡ Some r → IsFirstItem (92 ∷ rest) r.0 r.1
escaped_is [] r e = absurd cc
escaped_is (b ∷ rest) r e = elim (cases_Bool (eqb b 120)) [
  | inl is ↦ subst (λ x. IsFirstItem (92 ∷ x ∷ rest) r.0 r.1) (sym (eqb-true b 120 is)) (hex_is rest r (sym (cond-true (eqb b 120) _ _ is) ∙ e))
  | inr isnt ↦ elim (chosen (is_item (Escaped b)) (item_value (Escaped b), 2) None r (sym (cond-false (eqb b 120) _ _ isnt) ∙ e)) [
    | inl here ↦
        let value : item_value (Escaped b) ≡ r.0 = ap (λ p. p.0) here.1 in
        let size : 2 ≡ r.1 = ap (λ p. p.1) here.1 in
        record {
          item = Escaped b;
          right = here.0;
          spelled = ap (λ n. 92 ∷ b ∷ drop n (92 ∷ b ∷ rest)) size;
          size = sym size;
          stands = sym value;
        }
    | inr none ↦ let wrong = none.1 in absurd cc
  ]
]

pub item_is : (bytes : List ℕ) (r : ℕ × ℕ) → first_item bytes ≡ Some r → IsFirstItem bytes r.0 r.1
item_is [] r e = absurd cc
item_is (b ∷ rest) r e = elim (cases_Bool (eqb b 92)) [
  | inl is ↦ subst (λ x. IsFirstItem (x ∷ rest) r.0 r.1) (sym (eqb-true b 92 is)) (escaped_is rest r (sym (cond-true (eqb b 92) _ _ is) ∙ e))
  | inr isnt ↦ elim (chosen (is_item (Plain b)) (b, 1) None r (sym (cond-false (eqb b 92) _ _ isnt) ∙ e)) [
    | inl here ↦
        let value : b ≡ r.0 = ap (λ p. p.0) here.1 in
        let size : 1 ≡ r.1 = ap (λ p. p.1) here.1 in
        record {
          item = Plain b;
          right = here.0;
          spelled = ap (λ n. b ∷ drop n (b ∷ rest)) size;
          size = sym size;
          stands = sym value;
        }
    | inr none ↦ let wrong = none.1 in absurd cc
  ]
]

item_some : (item : Item) → 0 < length (item_bytes item)
item_some (Plain b) = omega arith
item_some (Escaped b) = omega arith
item_some (Hex h l) = omega arith

none_some : (r : ℕ × ℕ) → ◌≡◌ {A = Option (ℕ × ℕ)} None (Some r) → ⊥
none_some r e = cc

-- two rows of items that begin one list of bytes are the same, where the one ends before no item and the other at a quote
pub same_items : (is js : List Item) (x y : List ℕ) → list_all is_item is ≡ true → list_all is_item js ≡ true → first_item x ≡ None → flat_map item_bytes is ++ x ≡ flat_map item_bytes js ++ (34 ∷ y) → (flat_map item_bytes is ≡ flat_map item_bytes js) × (map item_value is ≡ map item_value js)
same_items [] [] x y h k none e = (refl, refl)
same_items [] (j ∷ js) x y h k none e =
    let again = item_again j (flat_map item_bytes js ++ (34 ∷ y)) (and_parts _ _ k).0 in
    let here = e ∙ append_assoc (item_bytes j) (flat_map item_bytes js) (34 ∷ y) in
    absurd (none_some (item_value j, length (item_bytes j)) (sym none ∙ ap first_item here ∙ again))
same_items (i ∷ is) [] x y h k none e =
    let again = item_again i (flat_map item_bytes is ++ x) (and_parts _ _ h).0 in
    let here = sym (append_assoc (item_bytes i) (flat_map item_bytes is) x) ∙ e in
    absurd (none_some (item_value i, length (item_bytes i)) (sym (ap first_item here) ∙ again))
same_items (i ∷ is) (j ∷ js) x y h k none e =
    let hs = and_parts _ _ h in
    let ks = and_parts _ _ k in
    let here : item_bytes i ++ (flat_map item_bytes is ++ x) ≡ item_bytes j ++ (flat_map item_bytes js ++ (34 ∷ y)) =
    sym (append_assoc (item_bytes i) (flat_map item_bytes is) x) ∙ e ∙ append_assoc (item_bytes j) (flat_map item_bytes js) (34 ∷ y) in
    let read = sym (item_again i _ hs.0) ∙ ap first_item here ∙ item_again j _ ks.0 in
    let both : ◌≡◌ {A = ℕ × ℕ} (item_value i, length (item_bytes i)) (item_value j, length (item_bytes j)) = cc in
    let value : item_value i ≡ item_value j = ap (λ p. p.0) both in
    let size : length (item_bytes i) ≡ length (item_bytes j) = ap (λ p. p.1) both in
    let bytes : item_bytes i ≡ item_bytes j =
    sym (take_at (item_bytes i) (flat_map item_bytes is ++ x) _ size) ∙ ap (λ l. take (length (item_bytes j)) l) here ∙ take_at (item_bytes j) _ _ refl in
    let rest : flat_map item_bytes is ++ x ≡ flat_map item_bytes js ++ (34 ∷ y) =
    sym (drop_at (item_bytes i) (flat_map item_bytes is ++ x) _ size) ∙ ap (λ l. drop (length (item_bytes j)) l) here ∙ drop_at (item_bytes j) _ _ refl in
    let others = same_items is js x y hs.1 ks.1 none rest in
    (ap (λ l. l ++ flat_map item_bytes is) bytes ∙ ap (λ l. item_bytes j ++ l) others.0, ap (λ v. v ∷ map item_value is) value ∙ ap (λ l. item_value j ∷ l) others.1)

-- a string is the whole of its items up to the quote
string_against : (is : List Item) (x bytes value more : List ℕ) → list_all is_item is ≡ true → first_item x ≡ None → IsString bytes value → 34 ∷ (flat_map item_bytes is ++ x) ≡ bytes ++ more → (x ≡ 34 ∷ more) × (length bytes ≡ length (flat_map item_bytes is) + 2) × (value ≡ map item_value is)
string_against is x bytes value more h none s e =
    let js = s.items in
    let whole : 34 ∷ (flat_map item_bytes is ++ x) ≡ 34 ∷ (flat_map item_bytes js ++ (34 ∷ more)) =
    e ∙ ap (λ l. l ++ more) s.spelled ∙ ap (λ l. 34 ∷ l) (append_assoc (flat_map item_bytes js) (34 ∷ []) more) in
    let rest : flat_map item_bytes is ++ x ≡ flat_map item_bytes js ++ (34 ∷ more) = ap (λ l. drop 1 l) whole in
    let same = same_items is js x more h s.right none rest in
    let after : flat_map item_bytes js ++ x ≡ flat_map item_bytes js ++ (34 ∷ more) = ap (λ l. l ++ x) (sym same.0) ∙ rest in
    let size = ap length s.spelled in
    (append_cancel_left (flat_map item_bytes js) x (34 ∷ more) after, omega (arith, size, ap length same.0, length-append (flat_map item_bytes js) (34 ∷ [])), s.stands ∙ sym same.1)

-- a string has one value
pub string_unique : (bytes v w : List ℕ) → IsString bytes v → IsString bytes w → v ≡ w
string_unique bytes v w s r =
    (string_against r.items (34 ∷ []) bytes v [] r.right refl s (sym r.spelled ∙ sym (append-nil bytes))).2 ∙ sym r.stands

-- a string up to a place behind its quote
pub record StringSoFar (bytes : List ℕ) (at : ℕ) (value : List ℕ) : Type 0 where
  pub items : List Item
  pub right : list_all is_item items ≡ true
  pub begun : bytes ≡ 34 ∷ (flat_map item_bytes items ++ drop at bytes)
  pub stands : value ≡ map item_value items
  pub some : 0 < at
  pub within : at ≤ length bytes
  pub short : length value ≤ at

plain_right : (xs : List ℕ) → list_all is_item (map Plain xs) ≡ list_all is_plain xs
plain_right [] = refl
plain_right (x ∷ xs) = ap (λ t. is_plain x && t) (plain_right xs)

plain_bytes : (xs : List ℕ) → flat_map item_bytes (map Plain xs) ≡ xs
plain_bytes [] = refl
plain_bytes (x ∷ xs) = ap (λ l. x ∷ l) (plain_bytes xs)

plain_values : (xs : List ℕ) → map item_value (map Plain xs) ≡ xs
plain_values [] = refl
plain_values (x ∷ xs) = ap (λ l. x ∷ l) (plain_values xs)

-- behind the quote and the bytes that stand for themselves
pub string_runs : (bytes : List ℕ) (n : ℕ) → 0 < length bytes → get_or bytes 0 0 ≡ 34 → n ≡ prefix_len is_plain (drop 1 bytes) → StringSoFar bytes (1 + n) (take n (drop 1 bytes))
string_runs [] n some quote e = absurd (omega (arith, some))
string_runs (b ∷ rest) n some quote e =
    let xs = take n rest in
    let within : n ≤ length rest = subst (λ m. m ≤ length rest) (sym e) (prefix_len-le-length is_plain rest) in
    let passes : list_all is_plain xs ≡ true = subst (λ m. list_all is_plain (take m rest) ≡ true) (sym e) (run_passes is_plain rest) in
    subst (λ at. StringSoFar (b ∷ rest) at xs) (sym (one-add n))
    (record {
      items = map Plain xs;
      right = plain_right xs ∙ passes;
      begun = ap (λ x. x ∷ rest) quote ∙ ap (λ l. 34 ∷ l) (sym (take-append-drop n rest) ∙ ap (λ l. l ++ drop n rest) (sym (plain_bytes xs)));
      stands = sym (plain_values xs);
      some = omega arith;
      within = omega (arith, within);
      short = omega (arith, length-take-le n rest within);
    })

pub string_goes_on : (bytes : List ℕ) (at v n : ℕ) (value : List ℕ) → StringSoFar bytes at value → IsFirstItem (drop at bytes) v n → StringSoFar bytes (at + n) (value ++ v ∷ [])
string_goes_on bytes at v n value so first =
    let rest = first.spelled ∙ ap (λ l. item_bytes first.item ++ l) (drop-drop n at bytes) in
    let sizes = ap length first.spelled in
    let parts = length-append (item_bytes first.item) (drop n (drop at bytes)) in
    record {
      items = so.items ++ first.item ∷ [];
      right = list_all-append is_item so.items (first.item ∷ []) ∙ and_from _ _ so.right (and_from _ _ first.right refl);
      begun =
          so.begun ∙ ap (λ l. 34 ∷ (flat_map item_bytes so.items ++ l)) rest ∙ ap (λ l. 34 ∷ l) (sym (append_assoc (flat_map item_bytes so.items) (item_bytes first.item) (drop (at + n) bytes))) ∙ ap (λ l. 34 ∷ (l ++ drop (at + n) bytes)) (flat_map_more item_bytes [] so.items first.item);
      stands = ap (λ l. l ++ v ∷ []) so.stands ∙ ap (λ x. map item_value so.items ++ x ∷ []) first.stands ∙ sym (map-append item_value so.items (first.item ∷ []));
      some = omega (arith, so.some);
      within = omega (arith, so.within, sizes, parts, length-drop at bytes, first.size, item_some first.item);
      short = omega (arith, so.short, length-append value (v ∷ []), first.size, item_some first.item);
    }

lexeme_string : (bytes : List ℕ) → LexemeOf 4 bytes → (value : List ℕ) × IsString bytes value
lexeme_string bytes (inl w) = let e = w.0 in absurd cc
lexeme_string bytes (inr (inl d)) = let e = d.0 in absurd cc
lexeme_string bytes (inr (inr (inl s))) = s.1
lexeme_string bytes (inr (inr (inr m))) = let e = m.0 in absurd cc

-- a lexeme at a quote is a string
string_here : (bytes other more : List ℕ) (x : ℕ) → 34 ∷ bytes ≡ (x ∷ other) ++ more → IsLexeme (x ∷ other) → (value : List ℕ) × IsString (x ∷ other) value
string_here bytes other more x e lexeme =
    let same : 34 ≡ x = cc in
    lexeme_string (x ∷ other) (subst (λ n. LexemeOf n (x ∷ other)) (ap byte_kind (sym same)) (lexeme_of x other lexeme))

string_longest : (bytes : List ℕ) (at : ℕ) (value other more z : List ℕ) → StringSoFar bytes at value → drop at bytes ≡ 34 ∷ z → other ++ more ≡ bytes → IsLexeme other → length other ≤ at + 1
string_longest bytes at value [] more z so quote e lexeme = omega arith
string_longest bytes at value (x ∷ other) more z so quote e lexeme =
    let whole = sym so.begun ∙ sym e in
    let string = string_here (flat_map item_bytes so.items ++ drop at bytes) other more x whole lexeme in
    let against = string_against so.items (drop at bytes) (x ∷ other) string.0 more so.right (ap first_item quote) string.1 whole in
    omega (arith, against.1, ap length so.begun, length-append (flat_map item_bytes so.items) (drop at bytes), length-drop at bytes, so.within, so.some)

-- the closing quote
pub string_stands : (bytes : List ℕ) (at : ℕ) (value : List ℕ) → StringSoFar bytes at value → at < length bytes → get_or bytes at 0 ≡ 34 → StandsAt (take (at + 1) bytes) (drop (at + 1) bytes) (token.Str value)
string_stands bytes at value so below quote =
    let flat = flat_map item_bytes so.items in
    let z = drop (at + 1) bytes in
    let tail : drop at bytes ≡ 34 ∷ z = drop_more bytes at 0 below ∙ ap (λ x. x ∷ z) quote in
    let joined : bytes ≡ (34 ∷ (flat ++ 34 ∷ [])) ++ z = so.begun ∙ ap (λ l. 34 ∷ (flat ++ l)) tail ∙ ap (λ l. 34 ∷ l) (sym (append_assoc flat (34 ∷ []) z)) in
    let size : length (34 ∷ (flat ++ 34 ∷ [])) ≡ at + 1 =
    omega (arith, ap length so.begun, length-append flat (drop at bytes), length-append flat (34 ∷ []), length-drop at bytes, so.within, so.some) in
    let spelled : take (at + 1) bytes ≡ 34 ∷ (flat ++ 34 ∷ []) = ap (λ l. take (at + 1) l) joined ∙ take_at (34 ∷ (flat ++ 34 ∷ [])) z (at + 1) size in
    record {
      spells = record { items = so.items; right = so.right; spelled = spelled; stands = so.stands };
      longest = λ other more e lexeme.
          let most = string_longest bytes at value other more z so tail (e ∙ take-append-drop (at + 1) bytes) lexeme in
          omega (arith, most, length-take-le (at + 1) bytes (omega (arith, below)));
    }

-- neither an item nor a closing quote
pub string_none : (bytes : List ℕ) (at : ℕ) (value : List ℕ) → StringSoFar bytes at value → first_item (drop at bytes) ≡ None → ((z : List ℕ) → drop at bytes ≡ 34 ∷ z → ⊥) → HasNoPiece bytes
string_none bytes at value so none open_ =
    subst HasNoPiece (sym so.begun)
    (no_piece 34 (flat_map item_bytes so.items ++ drop at bytes) (omega arith) (λ s more t e stands.
    let string = string_here (flat_map item_bytes so.items ++ drop at bytes) s more 34 (sym e) (spells_lexeme (34 ∷ s) t stands.spells) in
    open_ more (string_against so.items (drop at bytes) (34 ∷ s) string.0 more so.right none string.1 (sym e)).0))

pub head_no_quote : (bytes : List ℕ) (at : ℕ) → at < length bytes → (get_or bytes at 0 ≡ 34 → ⊥) → (z : List ℕ) → drop at bytes ≡ 34 ∷ z → ⊥
head_no_quote bytes at below differs z e =
    let both = sym (drop_more bytes at 0 below) ∙ e in
    let same : get_or bytes at 0 ≡ 34 = cc in
    differs same

pub end_is_open : (bytes : List ℕ) (at : ℕ) (value : List ℕ) → StringSoFar bytes at value → length bytes ≤ at → HasNoPiece bytes
end_is_open bytes at value so end =
    let none = drop_all at bytes end in
    string_none bytes at value so (ap first_item none) (λ z e. let wrong = sym none ∙ e in cc)
