-- The reader reads the tokens of each description with its definitions.
use Rattle.std.proofs.Common.{◌≡◌, ℕ, zero, suc, ◌-◌, ◌+◌, ◌≤◌, Bool, true, false, cond, ◌&&◌, None, Result, Ok, Err, List, [], ◌∷◌, ◌++◌, length, refl, sym, ap, ◌∙◌, arith, append_assoc, length-append}
use Rattle.std.specs.List.{flat_map, list_all}
use Rattle.std.proofs.lemmas.List.{append-nil}
use Rattle.std.proofs.lemmas.Bool.{and_parts, leb-true}
use Rattle.fx_expr.specs.ExprTree.{ExprTree}
use Rattle.fx_expr.specs.ShapeTree.{ShapeTree}
use Rattle.fx_lex.specs.declared.token.Token.{Token}
use Rattle.fx_lex.specs.declared.token.Token.TheVariants as token
use Rattle.fx_lex.specs.declared.token.Mark.TheVariants as mark
use Rattle.fx_parse.specs.declared.keyword.Keyword.TheVariants as keyword
use Rattle.fx_parse.specs.declared.sign.Sign.TheVariants as sign
use Rattle.fx_parse.specs.Stuck.{Stuck, Unexpected, ◌>>=◌}
use Rattle.fx_parse.specs.Keywords.{word}
use Rattle.fx_parse.specs.Grammars.{opening, closing, comma, expr_tokens, expr_levels, shape_tokens, shape_levels, is_name, has_names}
use Rattle.fx_parse.specs.Reader.{ReadExpr, read_expr}
use Rattle.fx_parse.specs.ShapeReader.{read_shape}
use Rattle.fx_parse.specs.Signs.{is_sign, closed_by}
use Rattle.fx_parse.proofs.Machine.{at_most}
use Rattle.fx_parse.proofs.ReaderPlaces.{Follows}
use Rattle.fx_parse.proofs.ExprLink.{expr_again, front_low, rest_low, tail_low}
use Rattle.fx_parse.proofs.ShapeLink.{shape_reader}
use Rattle.fx_parse.proofs.Signs.{name_then, sign_is}
use Rattle.fx_parse.proofs.Steps.{part_then, then_ok}
use Rattle.fx_spec.specs.Written.{WrittenTree, DefTree, TextTree}
use Rattle.fx_grammar.specs.Tokens.{listed, spec_tokens, param_tokens, def_tokens, text_tokens, spec_names, param_names, def_names, text_names}
use Rattle.fx_grammar.specs.TokenLevels.{listed_levels, spec_token_levels, param_token_levels, def_token_levels, text_token_levels}
use Rattle.fx_grammar.specs.Grammars.{descriptions}
use Rattle.fx_source_parse.specs.declared.spec.start.Start.{Start}
use Rattle.fx_source_parse.specs.declared.spec.start.Start.TheVariants as start
use Rattle.fx_source_parse.specs.Descriptions.Lists.{closed, ended_or, added_at, another_at, others_at, rest_at, listed_at}
use Rattle.fx_source_parse.specs.Descriptions.Reader.{start_of, ReadSpec, focus_at, pair_at, comp_at, opt_at, pred_at, call_at, form_at, is_nothing, read_spec, param_at, def_at, read_def, begins_def, defs_from, defs_at, read_text}
use Rattle.fx_source_parse.proofs.Descriptions.Machine.{Text, table, start_word, start_name, focus_tokens, pair_tokens, comp_tokens, behind_def, def_parts}
use Rattle.fx_source_parse.proofs.Descriptions.Means.{text_fits}
use Rattle.fx_source_parse.proofs.Descriptions.Link.{text_follows}
use Rattle.fx_source_parse.specs.Reading.{Read}

level_fits : (bound d : ℕ) (t : WrittenTree) → at_most bound (spec_token_levels d t) ≡ true → d ≤ bound
level_fits bound d WrittenTree.file h = leb-true d bound (and_parts _ _ h).0
level_fits bound d WrittenTree.dir h = leb-true d bound (and_parts _ _ h).0
level_fits bound d WrittenTree.link h = leb-true d bound (and_parts _ _ h).0
level_fits bound d (WrittenTree.focus e s) h = leb-true d bound (and_parts _ _ h).0
level_fits bound d (WrittenTree.pair x s t) h = leb-true d bound (and_parts _ _ h).0
level_fits bound d (WrittenTree.comp s x e) h = leb-true d bound (and_parts _ _ h).0
level_fits bound d (WrittenTree.opt s) h = leb-true d bound (and_parts _ _ h).0
level_fits bound d (WrittenTree.pred e) h = leb-true d bound (and_parts _ _ h).0
level_fits bound d (WrittenTree.call f es) h = leb-true d bound (and_parts _ _ h).0

-- one level of the reader, at a token that begins a form
pub opens : (n : ℕ) (x : Token) (ts : List Token) (h : Start) → start_of x ≡ h → is_nothing h ≡ false → read_spec (suc n) (x ∷ ts) ≡ form_at (read_expr n) (read_spec n) h ts
unfolding read_spec
opens n x ts h e some =
    ap (λ k. cond (is_nothing k) (Err (Unexpected (suc (length ts)))) (form_at (read_expr n) (read_spec n) k ts)) e ∙ ap (λ b. cond b (Err (Unexpected (suc (length ts)))) (form_at (read_expr n) (read_spec n) h ts)) some

-- parts with commas between them, each of which is read again
module _ {X : Type 0} (part : Read X) (tokens : X → List Token) (levels : X → List ℕ) (right : X → Bool) (bound : ℕ) (again : (x : X) (r : List Token) → right x ≡ true → at_most bound (levels x) ≡ true → part (tokens x ++ r) ≡ Ok (x, r)) (at_bracket : (ts : List Token) (c : X × List Token) → part (closing ∷ ts) ≡ Ok c → ⊥) where
  abbrev others : List X → List Token
  others xs = flat_map (λ q. comma ∷ tokens q) xs

  abbrev other_levels : List X → List ℕ
  other_levels xs = flat_map (λ q. 0 ∷ levels q) xs

  open_by : (x : Token) (ts : List Token) (c : X × List Token) (b : Bool) → is_sign sign.RightParen x ≡ b → part (x ∷ ts) ≡ Ok c → closed_by b ts ≡ None
  open_by x ts c false h e = refl
  open_by x ts c true h e = absurd (at_bracket ts c (ap (λ y. part (y ∷ ts)) (sym (sign_is sign.RightParen x h)) ∙ e))

  -- where a part is read, no bracket closes them
  is_open : (ts : List Token) (c : X × List Token) → part ts ≡ Ok c → closed ts ≡ None
  is_open [] c e = refl
  is_open (x ∷ ts) c e = open_by x ts c (is_sign sign.RightParen x) refl e

  added_again : (done : List X) (x : X) (r : List Token) → right x ≡ true → at_most bound (levels x) ≡ true → added_at part done (tokens x ++ r) ≡ Ok (done ++ x ∷ [], r)
  unfolding added_at
  added_again done x r h low = then_ok (part (tokens x ++ r)) (x, r) _ (again x r h low)

  others_end : (n : ℕ) (done : List X) (rest : List Token) → others_at part (suc n) done (closing ∷ rest) ≡ Ok (done, rest)
  unfolding others_at
  others_end n done rest = refl

  others_next : (n : ℕ) (done : List X) (x : X) (r : List Token) → right x ≡ true → at_most bound (levels x) ≡ true → others_at part (suc n) done (comma ∷ (tokens x ++ r)) ≡ others_at part n (done ++ x ∷ []) r
  unfolding others_at another_at
  others_next n done x r h low = ap (λ z. z >>= (λ c. others_at part n c.0 c.1)) (added_again done x r h low)

  others_again : (xs : List X) (n : ℕ) (done : List X) (rest : List Token) → list_all right xs ≡ true → at_most bound (other_levels xs) ≡ true → length (others xs ++ closing ∷ rest) ≤ n → others_at part n done (others xs ++ closing ∷ rest) ≡ Ok (done ++ xs, rest)
  others_again [] zero done rest h low few = absurd (omega (arith, few))
  others_again [] (suc n) done rest h low few = others_end n done rest ∙ ap (λ l. Ok (l, rest)) (sym (append-nil done))
  others_again (x ∷ xs) zero done rest h low few = absurd (omega (arith, few))
  others_again (x ∷ xs) (suc n) done rest h low few =
      let hs = and_parts (right x) (list_all right xs) h in
      let inner = tail_low bound 0 (levels x ++ other_levels xs) low in
      let behind = others xs ++ closing ∷ rest in
      let parts : (tokens x ++ others xs) ++ closing ∷ rest ≡ tokens x ++ behind = append_assoc (tokens x) (others xs) (closing ∷ rest) in
      let size : length ((tokens x ++ others xs) ++ closing ∷ rest) ≡ length (tokens x) + length behind = ap length parts ∙ length-append (tokens x) behind in
      ap (λ l. others_at part (suc n) done (comma ∷ l)) parts ∙ others_next n done x behind hs.0 (front_low bound (levels x) (other_levels xs) inner) ∙ others_again xs n (done ++ x ∷ []) rest hs.1 (rest_low bound (levels x) (other_levels xs) inner) (omega (arith, few, size)) ∙ ap (λ l. Ok (l, rest)) (append_assoc done (x ∷ []) xs)

  rest_again : (xs : List X) (done : List X) (rest : List Token) → list_all right xs ≡ true → at_most bound (other_levels xs) ≡ true → rest_at part done (others xs ++ closing ∷ rest) ≡ Ok (done ++ xs, rest)
  unfolding rest_at
  rest_again xs done rest h low = others_again xs (length (others xs ++ closing ∷ rest)) done rest h low (omega arith)

  pub listed_again : (xs : List X) (rest : List Token) → list_all right xs ≡ true → at_most bound (listed_levels levels xs) ≡ true → listed_at part (listed tokens xs ++ closing ∷ rest) ≡ Ok (xs, rest)
  unfolding listed_at
  listed_again [] rest h low = refl
  listed_again (x ∷ xs) rest h low =
      let hs = and_parts (right x) (list_all right xs) h in
      let behind = others xs ++ closing ∷ rest in
      let first = front_low bound (levels x) (other_levels xs) low in
      let go : List X × List Token → Result (List X × List Token) Stuck = λ c. rest_at part c.0 c.1 in
      ap (listed_at part) (append_assoc (tokens x) (others xs) (closing ∷ rest)) ∙ ap (λ o. ended_or o [] (added_at part [] (tokens x ++ behind) >>= go)) (is_open (tokens x ++ behind) (x, behind) (again x behind hs.0 first)) ∙ ap (λ z. z >>= go) (added_again [] x behind hs.0 first) ∙ rest_again xs (x ∷ []) rest hs.1 (rest_low bound (levels x) (other_levels xs) low)

expr_bracket : (left : ℕ) (ts : List Token) (c : ExprTree × List Token) → read_expr left (closing ∷ ts) ≡ Ok c → ⊥
unfolding read_expr
expr_bracket zero ts c e = cc
expr_bracket (suc n) ts c e = cc

args_again : (es : List ExprTree) (bound left d : ℕ) (rest : List Token) → left ≡ suc bound - d → list_all has_names es ≡ true → at_most bound (listed_levels (expr_levels d) es) ≡ true → listed_at (read_expr left) (listed expr_tokens es ++ closing ∷ rest) ≡ Ok (es, rest)
args_again es bound left d rest e h low =
    listed_again (read_expr left) expr_tokens (expr_levels d) has_names bound (λ x r h low. expr_again x bound left d r e h low) (expr_bracket left) es rest h low

param_again : (p : List ℕ × ShapeTree) (bound left d : ℕ) (r : List Token) → left ≡ suc bound - d → param_names p ≡ true → at_most bound (param_token_levels d p) ≡ true → param_at (read_shape left) (param_tokens p ++ r) ≡ Ok (p, r)
unfolding param_at
param_again p bound left d r e h low =
    let inner = tail_low bound 0 (shape_levels d p.1) (tail_low bound 0 (0 ∷ shape_levels d p.1) low) in
    name_then p.0 _ _ h ∙ then_ok (read_shape left (shape_tokens p.1 ++ r)) (p.1, r) _ (shape_reader.again p.1 bound left d r e refl inner)

param_bracket : (left : ℕ) (ts : List Token) (c : (List ℕ × ShapeTree) × List Token) → param_at (read_shape left) (closing ∷ ts) ≡ Ok c → ⊥
unfolding param_at
param_bracket left ts c e = cc

params_again : (ps : List (List ℕ × ShapeTree)) (bound left d : ℕ) (rest : List Token) → left ≡ suc bound - d → list_all param_names ps ≡ true → at_most bound (listed_levels (param_token_levels d) ps) ≡ true → listed_at (param_at (read_shape left)) (listed param_tokens ps ++ closing ∷ rest) ≡ Ok (ps, rest)
params_again ps bound left d rest e h low =
    listed_again (param_at (read_shape left)) param_tokens (param_token_levels d) param_names bound (λ p r h low. param_again p bound left d r e h low) (param_bracket left) ps rest h low

-- what readers read again
abbrev SpecAgain : ReadSpec → WrittenTree → Type 0
SpecAgain read s = (r : List Token) → read (spec_tokens s ++ r) ≡ Ok (s, r)

abbrev ExprAgain : ReadExpr → ExprTree → Type 0
ExprAgain read e = (r : List Token) → read (expr_tokens e ++ r) ≡ Ok (e, r)

module _ (expr : ReadExpr) (spec : ReadSpec) where
  again_focus : (e : ExprTree) (s : WrittenTree) (rest : List Token) → ExprAgain expr e → SpecAgain spec s → focus_at expr spec ((expr_tokens e ++ (token.Mark mark.ColonColon ∷ (spec_tokens s ++ closing ∷ []))) ++ rest) ≡ Ok (WrittenTree.focus e s, rest)
  unfolding focus_at
  again_focus e s rest one two =
      part_then expr (expr_tokens e) (token.Mark mark.ColonColon ∷ (spec_tokens s ++ closing ∷ [])) rest e _ one ∙ part_then spec (spec_tokens s) (closing ∷ []) rest s _ two

  again_pair : (x : List ℕ) (s t : WrittenTree) (rest : List Token) → is_name x ≡ true → SpecAgain spec s → SpecAgain spec t → pair_at spec (token.Word x ∷ token.Mark mark.Colon ∷ ((spec_tokens s ++ (comma ∷ (spec_tokens t ++ token.Mark mark.RightAngle ∷ []))) ++ rest)) ≡ Ok (WrittenTree.pair x s t, rest)
  unfolding pair_at
  again_pair x s t rest h one two =
      name_then x _ _ h ∙ part_then spec (spec_tokens s) (comma ∷ (spec_tokens t ++ token.Mark mark.RightAngle ∷ [])) rest s _ one ∙ part_then spec (spec_tokens t) (token.Mark mark.RightAngle ∷ []) rest t _ two

  again_comp : (s : WrittenTree) (x : List ℕ) (e : ExprTree) (rest : List Token) → is_name x ≡ true → SpecAgain spec s → ExprAgain expr e → comp_at expr spec ((spec_tokens s ++ (token.Mark mark.Bar ∷ token.Word x ∷ word keyword.In ∷ (expr_tokens e ++ token.Mark mark.RightBrace ∷ []))) ++ rest) ≡ Ok (WrittenTree.comp s x e, rest)
  unfolding comp_at
  again_comp s x e rest h one two =
      part_then spec (spec_tokens s) (token.Mark mark.Bar ∷ token.Word x ∷ word keyword.In ∷ (expr_tokens e ++ token.Mark mark.RightBrace ∷ [])) rest s _ one ∙ name_then x _ _ h ∙ part_then expr (expr_tokens e) (token.Mark mark.RightBrace ∷ []) rest e _ two

  again_opt : (s : WrittenTree) (rest : List Token) → SpecAgain spec s → opt_at spec (opening ∷ ((spec_tokens s ++ closing ∷ []) ++ rest)) ≡ Ok (WrittenTree.opt s, rest)
  unfolding opt_at
  again_opt s rest one = part_then spec (spec_tokens s) (closing ∷ []) rest s _ one

  again_pred : (e : ExprTree) (rest : List Token) → ExprAgain expr e → pred_at expr (opening ∷ ((expr_tokens e ++ closing ∷ []) ++ rest)) ≡ Ok (WrittenTree.pred e, rest)
  unfolding pred_at
  again_pred e rest one = part_then expr (expr_tokens e) (closing ∷ []) rest e _ one

  again_call : (f : List ℕ) (es : List ExprTree) (rest : List Token) → listed_at expr (listed expr_tokens es ++ closing ∷ rest) ≡ Ok (es, rest) → call_at expr f (opening ∷ ((listed expr_tokens es ++ closing ∷ []) ++ rest)) ≡ Ok (WrittenTree.call f es, rest)
  unfolding call_at
  again_call f es rest one =
      let go : List ExprTree × List Token → Result (WrittenTree × List Token) Stuck = λ args. Ok (WrittenTree.call f args.0, args.1) in
      ap (λ l. listed_at expr l >>= go) (append_assoc (listed expr_tokens es) (closing ∷ []) rest) ∙ ap (λ z. z >>= go) one

spec_again : (t : WrittenTree) (bound left d : ℕ) (rest : List Token) → left ≡ suc bound - d → spec_names t ≡ true → at_most bound (spec_token_levels d t) ≡ true → read_spec left (spec_tokens t ++ rest) ≡ Ok (t, rest)
unfolding form_at
spec_again t bound zero d rest e h low = let fits = level_fits bound d t low in absurd (omega (arith, e, fits))
spec_again WrittenTree.file bound (suc n) d rest e h low = opens n (word keyword.File) rest start.File (start_word keyword.File) refl
spec_again WrittenTree.dir bound (suc n) d rest e h low = opens n (word keyword.Dir) rest start.Dir (start_word keyword.Dir) refl
spec_again WrittenTree.link bound (suc n) d rest e h low = opens n (word keyword.Link) rest start.Link (start_word keyword.Link) refl
spec_again (WrittenTree.focus x s) bound (suc n) d rest e h low =
    let hs = and_parts (has_names x) (spec_names s) h in
    let ls = spec_token_levels (suc d) s ++ 0 ∷ [] in
    let inner = tail_low bound d (expr_levels (suc d) x ++ (0 ∷ ls)) low in
    let behind = tail_low bound 0 ls (rest_low bound (expr_levels (suc d) x) (0 ∷ ls) inner) in
    let next : n ≡ suc bound - suc d = omega (arith, e) in
    ap (λ l. read_spec (suc n) (l ++ rest)) (focus_tokens x s) ∙ opens n opening _ start.Focus refl refl ∙ again_focus (read_expr n) (read_spec n) x s rest (λ r. expr_again x bound n (suc d) r next hs.0 (front_low bound (expr_levels (suc d) x) (0 ∷ ls) inner)) (λ r. spec_again s bound n (suc d) r next hs.1 (front_low bound (spec_token_levels (suc d) s) (0 ∷ []) behind))
spec_again (WrittenTree.pair x s t) bound (suc n) d rest e h low =
    let hs = and_parts (is_name x) _ h in
    let is = and_parts (spec_names s) (spec_names t) hs.1 in
    let lt = spec_token_levels (suc d) t ++ 0 ∷ [] in
    let ls = spec_token_levels (suc d) s ++ (0 ∷ lt) in
    let inner = tail_low bound 0 ls (tail_low bound 0 (0 ∷ ls) (tail_low bound d (0 ∷ 0 ∷ ls) low)) in
    let behind = tail_low bound 0 lt (rest_low bound (spec_token_levels (suc d) s) (0 ∷ lt) inner) in
    let next : n ≡ suc bound - suc d = omega (arith, e) in
    ap (λ l. read_spec (suc n) (l ++ rest)) (pair_tokens x s t) ∙ opens n (token.Mark mark.LeftAngle) _ start.Pair refl refl ∙ again_pair (read_expr n) (read_spec n) x s t rest hs.0 (λ r. spec_again s bound n (suc d) r next is.0 (front_low bound (spec_token_levels (suc d) s) (0 ∷ lt) inner)) (λ r. spec_again t bound n (suc d) r next is.1 (front_low bound (spec_token_levels (suc d) t) (0 ∷ []) behind))
spec_again (WrittenTree.comp s x y) bound (suc n) d rest e h low =
    let hs = and_parts (spec_names s) _ h in
    let is = and_parts (is_name x) (has_names y) hs.1 in
    let ly = expr_levels (suc d) y ++ 0 ∷ [] in
    let inner = tail_low bound d (spec_token_levels (suc d) s ++ (0 ∷ 0 ∷ 0 ∷ ly)) low in
    let behind = tail_low bound 0 ly (tail_low bound 0 (0 ∷ ly) (tail_low bound 0 (0 ∷ 0 ∷ ly) (rest_low bound (spec_token_levels (suc d) s) (0 ∷ 0 ∷ 0 ∷ ly) inner))) in
    let next : n ≡ suc bound - suc d = omega (arith, e) in
    ap (λ l. read_spec (suc n) (l ++ rest)) (comp_tokens s x y) ∙ opens n (token.Mark mark.LeftBrace) _ start.Comp refl refl ∙ again_comp (read_expr n) (read_spec n) s x y rest is.0 (λ r. spec_again s bound n (suc d) r next hs.0 (front_low bound (spec_token_levels (suc d) s) (0 ∷ 0 ∷ 0 ∷ ly) inner)) (λ r. expr_again y bound n (suc d) r next is.1 (front_low bound (expr_levels (suc d) y) (0 ∷ []) behind))
spec_again (WrittenTree.opt s) bound (suc n) d rest e h low =
    let ls = spec_token_levels (suc d) s ++ 0 ∷ [] in
    let inner = tail_low bound 0 ls (tail_low bound d (0 ∷ ls) low) in
    let next : n ≡ suc bound - suc d = omega (arith, e) in
    opens n (word keyword.Opt) _ start.Opt (start_word keyword.Opt) refl ∙ again_opt (read_expr n) (read_spec n) s rest (λ r. spec_again s bound n (suc d) r next h (front_low bound (spec_token_levels (suc d) s) (0 ∷ []) inner))
spec_again (WrittenTree.pred x) bound (suc n) d rest e h low =
    let lx = expr_levels (suc d) x ++ 0 ∷ [] in
    let inner = tail_low bound 0 lx (tail_low bound d (0 ∷ lx) low) in
    let next : n ≡ suc bound - suc d = omega (arith, e) in
    opens n (word keyword.Pred) _ start.Pred (start_word keyword.Pred) refl ∙ again_pred (read_expr n) (read_spec n) x rest (λ r. expr_again x bound n (suc d) r next h (front_low bound (expr_levels (suc d) x) (0 ∷ []) inner))
spec_again (WrittenTree.call f es) bound (suc n) d rest e h low =
    let hs = and_parts (is_name f) (list_all has_names es) h in
    let ls = listed_levels (expr_levels (suc d)) es ++ 0 ∷ [] in
    let inner = tail_low bound 0 ls (tail_low bound d (0 ∷ ls) low) in
    let next : n ≡ suc bound - suc d = omega (arith, e) in
    opens n (token.Word f) _ (start.Call f) (start_name f hs.0) refl ∙ again_call (read_expr n) (read_spec n) f es rest (args_again es bound n (suc d) rest next hs.1 (front_low bound (listed_levels (expr_levels (suc d)) es) (0 ∷ []) inner))

-- a definition
again_def : (shape : Read ShapeTree) (spec : ReadSpec) (f : DefTree) (rest : List Token) → is_name f.name ≡ true → ((r : List Token) → listed_at (param_at shape) (listed param_tokens f.params ++ closing ∷ r) ≡ Ok (f.params, r)) → SpecAgain spec f.body → def_at shape spec (behind_def f ++ rest) ≡ Ok (f, rest)
unfolding def_at
again_def shape spec f rest h params body =
    let behind = token.Mark mark.Equal ∷ spec_tokens f.body in
    let all = (listed param_tokens f.params ++ closing ∷ behind) ++ rest in
    let first : listed_at (param_at shape) all ≡ Ok (f.params, behind ++ rest) = ap (listed_at (param_at shape)) (append_assoc (listed param_tokens f.params) (closing ∷ behind) rest) ∙ params (behind ++ rest) in
    name_then f.name _ _ h ∙ then_ok (listed_at (param_at shape) all) (f.params, behind ++ rest) _ first ∙ then_ok (spec (spec_tokens f.body ++ rest)) (f.body, rest) _ (body rest)

def_opens : (n : ℕ) (ts : List Token) → read_def (suc n) (token.Def ∷ ts) ≡ def_at (read_shape n) (read_spec n) ts
unfolding read_def
def_opens n ts = refl

def_again : (f : DefTree) (bound left d : ℕ) (rest : List Token) → left ≡ suc bound - d → def_names f ≡ true → at_most bound (def_token_levels d f) ≡ true → read_def left (def_tokens f ++ rest) ≡ Ok (f, rest)
def_again f bound zero d rest e h low =
    let fits = leb-true d bound (and_parts _ _ low).0 in
    absurd (omega (arith, e, fits))
def_again f bound (suc n) d rest e h low =
    let next : n ≡ suc bound - suc d = omega (arith, e) in
    let hs = and_parts (is_name f.name) (list_all param_names f.params && spec_names f.body) h in
    let is = and_parts (list_all param_names f.params) (spec_names f.body) hs.1 in
    let lp = listed_levels (param_token_levels (suc d)) f.params in
    let lb = spec_token_levels (suc d) f.body in
    let all = lp ++ (0 ∷ 0 ∷ lb) in
    let inner = tail_low bound 0 all (tail_low bound 0 (0 ∷ all) (tail_low bound d (0 ∷ 0 ∷ all) low)) in
    let behind = tail_low bound 0 lb (tail_low bound 0 (0 ∷ lb) (rest_low bound lp (0 ∷ 0 ∷ lb) inner)) in
    ap (λ l. read_def (suc n) (l ++ rest)) (def_parts f) ∙ def_opens n (behind_def f ++ rest) ∙ again_def (read_shape n) (read_spec n) f rest hs.0 (λ r. params_again f.params bound n (suc d) r next is.0 (front_low bound lp (0 ∷ 0 ∷ lb) inner)) (λ r. spec_again f.body bound n (suc d) r next is.1 behind)

-- no description begins with `def`
at_def : (left : ℕ) (ts : List Token) (c : WrittenTree × List Token) → read_spec left (token.Def ∷ ts) ≡ Ok c → ⊥
unfolding read_spec
at_def zero ts c e = cc
at_def (suc n) ts c e = cc

root_by : (left : ℕ) (x : Token) (ts : List Token) (c : WrittenTree × List Token) (b : Bool) → is_sign sign.Def x ≡ b → read_spec left (x ∷ ts) ≡ Ok c → b ≡ false
root_by left x ts c false h e = refl
root_by left x ts c true h e = absurd (at_def left ts c (ap (λ y. read_spec left (y ∷ ts)) (sym (sign_is sign.Def x h)) ∙ e))

is_root : (left : ℕ) (ts : List Token) (c : WrittenTree × List Token) → read_spec left ts ≡ Ok c → begins_def ts ≡ false
is_root left [] c e = refl
is_root left (x ∷ ts) c e = root_by left x ts c (is_sign sign.Def x) refl e

pub defs_end : (left n : ℕ) (done : List DefTree) (ts : List Token) → begins_def ts ≡ false → defs_from left n done ts ≡ Ok (done, ts)
unfolding defs_from
defs_end left zero done ts e = refl
defs_end left (suc n) done ts e = ap (λ b. cond b (added_at (read_def left) done ts >>= (λ c. defs_from left n c.0 c.1)) (Ok (done, ts))) e

-- a definition and those behind it
defs_next : (left n : ℕ) (done : List DefTree) (ts rest : List Token) (f : DefTree) → begins_def ts ≡ true → read_def left ts ≡ Ok (f, rest) → defs_from left (suc n) done ts ≡ defs_from left n (done ++ f ∷ []) rest
unfolding defs_from added_at
defs_next left n done ts rest f b e =
    let more : DefTree × List Token → Result (List DefTree × List Token) Stuck = λ c. Ok (done ++ c.0 ∷ [], c.1) in
    let go : List DefTree × List Token → Result (List DefTree × List Token) Stuck = λ c. defs_from left n c.0 c.1 in
    ap (λ b. cond b ((read_def left ts >>= more) >>= go) (Ok (done, ts))) b ∙ ap (λ r. (r >>= more) >>= go) e

module _ (bound left d : ℕ) (e : left ≡ suc bound - d) where
  defs_again : (fs : List DefTree) (n : ℕ) (done : List DefTree) (rest : List Token) → list_all def_names fs ≡ true → at_most bound (flat_map (def_token_levels d) fs) ≡ true → begins_def rest ≡ false → length (flat_map def_tokens fs ++ rest) ≤ n → defs_from left n done (flat_map def_tokens fs ++ rest) ≡ Ok (done ++ fs, rest)
  defs_again [] n done rest h low end few = defs_end left n done rest end ∙ ap (λ l. Ok (l, rest)) (sym (append-nil done))
  defs_again (f ∷ fs) zero done rest h low end few = absurd (omega (arith, few))
  defs_again (f ∷ fs) (suc n) done rest h low end few =
      let hs = and_parts (def_names f) (list_all def_names fs) h in
      let behind = flat_map def_tokens fs ++ rest in
      let parts : (def_tokens f ++ flat_map def_tokens fs) ++ rest ≡ def_tokens f ++ behind = append_assoc (def_tokens f) (flat_map def_tokens fs) rest in
      let size : length ((def_tokens f ++ flat_map def_tokens fs) ++ rest) ≡ length (def_tokens f) + length behind = ap length parts ∙ length-append (def_tokens f) behind in
      let one = def_again f bound left d behind e hs.0 (front_low bound (def_token_levels d f) (flat_map (def_token_levels d) fs) low) in
      ap (defs_from left (suc n) done) parts ∙ defs_next left n done (def_tokens f ++ behind) behind f refl one ∙ defs_again fs n (done ++ f ∷ []) rest hs.1 (rest_low bound (def_token_levels d f) (flat_map (def_token_levels d) fs) low) end (omega (arith, few, size)) ∙ ap (λ l. Ok (l, rest)) (append_assoc done (f ∷ []) fs)

  text_read : (t : TextTree) (rest : List Token) → defs_at left (flat_map def_tokens t.defs ++ (spec_tokens t.root ++ rest)) ≡ Ok (t.defs, spec_tokens t.root ++ rest) → read_spec left (spec_tokens t.root ++ rest) ≡ Ok (t.root, rest) → read_text left (flat_map def_tokens t.defs ++ (spec_tokens t.root ++ rest)) ≡ Ok (t, rest)
  unfolding read_text
  text_read t rest defs root =
      then_ok (defs_at left (flat_map def_tokens t.defs ++ (spec_tokens t.root ++ rest))) (t.defs, spec_tokens t.root ++ rest) _ defs ∙ then_ok (read_spec left (spec_tokens t.root ++ rest)) (t.root, rest) _ root

  defs_read : (fs : List DefTree) (rest : List Token) → list_all def_names fs ≡ true → at_most bound (flat_map (def_token_levels d) fs) ≡ true → begins_def rest ≡ false → defs_at left (flat_map def_tokens fs ++ rest) ≡ Ok (fs, rest)
  unfolding defs_at
  defs_read fs rest h low end = defs_again fs (length (flat_map def_tokens fs ++ rest)) [] rest h low end (omega arith)

text_again : (t : TextTree) (bound left d : ℕ) (rest : List Token) → left ≡ suc bound - d → text_names t ≡ true → at_most bound (text_token_levels d t) ≡ true → read_text left (text_tokens t ++ rest) ≡ Ok (t, rest)
text_again t bound left d rest e h low =
    let hs = and_parts (list_all def_names t.defs) (spec_names t.root) h in
    let defs = flat_map (def_token_levels d) t.defs in
    let behind = spec_tokens t.root ++ rest in
    let root = spec_again t.root bound left d rest e hs.1 (rest_low bound defs (spec_token_levels d t.root) low) in
    ap (read_text left) (append_assoc (flat_map def_tokens t.defs) (spec_tokens t.root) rest) ∙ text_read bound left d e t rest (defs_read bound left d e t.defs behind hs.0 (front_low bound defs (spec_token_levels d t.root) low) (is_root left behind (t.root, rest) root)) root

pub text_reader : Follows table descriptions Text read_text
text_reader = record { fits = text_fits; follows = text_follows; again = text_again }
