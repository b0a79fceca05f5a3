-- Lines and whole scripts stand for well-shaped transactions.
use Rattle.std.proofs.Common.{◌≡◌, ℕ, zero, suc, ◌+◌, ◌*◌, ◌<◌, ◌≤◌, leb, ◌==◌, Bool, true, false, cond, List, [], ◌∷◌, ◌++◌, map, length, All, refl, sym, ap, ◌∙◌, subst, arith, length-append}
use Rattle.std.specs.List.{list_all, flat_map, range_with_len}
use Rattle.std.proofs.lemmas.Bool.{leb-true, and_from}
use Rattle.std.proofs.lemmas.List.{append-nil}
use Rattle.std.proofs.lemmas.List.Elements.{All-nil, All-cons}
use Rattle.std.proofs.lemmas.List.Folds.{list_all-append}
use Rattle.fx_expr.specs.ShapeTree.{ShapeTree}
use Rattle.std.proofs.lemmas.Grind.{flat_map-append}
use Rattle.std.proofs.lemmas.List.FromFn.{length-map-range_with_len}
use Rattle.fx_lex.specs.Reading.{Piece, piece_bytes, ArePieces}
use Rattle.fx_spec.specs.CommandTree.{CommandTree}
use Rattle.fx_spec.specs.WellShaped as shaped
use Rattle.fx_grammar.specs.Texts.{HasTokens, IsScript}
use Rattle.fx_grammar.specs.TokenLevels.{txn_token_levels, script_token_levels}
use Rattle.fx_grammar.specs.Tokens.{txn_tokens, script_tokens, txn_names, script_names}
use Rattle.fx_gen.specs.Scripts.{count_line, log_line, txn_line, kind_of, project_of, first_lines}
use Rattle.fx_gen.specs.Draws.{draw}
use Rattle.fx_gen.proofs.Ranges.{count_short, log_short}
use Rattle.fx_gen.specs.Trees.{count_tree, log_tree, txn_tree, LinesStand, ScriptsStand}
use Rattle.fx_gen.proofs.Cutting.{bytes_of, join_pieces, tokens_in, tokens_join, has_tokens}
use Rattle.fx_gen.proofs.Lined.{count_pieces, log_pieces, count_stands, log_stands, count_text, log_text, count_tokens, log_tokens, count_length, log_length}

-- ---- each transaction

pub count_shaped : (p : ℕ) → shaped.IsTransaction (count_tree p)
count_shaped p = record {
  shapes =
      (tt, (tt, (tt, (refl, (tt, (tt, (tt, (refl, ((ShapeTree.str, (ShapeTree.int, (refl, refl), (ShapeTree.int, ShapeTree.int, (refl, refl, refl), (ShapeTree.str, (refl, refl), refl), refl))), tt)))))))));
  nested = leb-true _ _ refl;
  few = omega arith;
}

pub log_shaped : (p k j : ℕ) → shaped.IsTransaction (log_tree p k j)
log_shaped p k j = record {
  shapes =
      (tt, (tt, (tt, (refl, (tt, (tt, (tt, (tt, (tt, (refl, ((ShapeTree.names, (ShapeTree.names, ShapeTree.names, (refl, refl, refl), refl, (ShapeTree.str, (refl, refl), refl))), tt)))))))))));
  nested = leb-true _ _ refl;
  few = omega arith;
}

-- no name of the transaction is a kept word, and it is nested at most 64 deep
record IsTxn (t : List CommandTree) : Type 0 where
  names : txn_names t ≡ true
  nested : list_all (λ level. leb level 64) (txn_token_levels 1 t) ≡ true

count_txn : (p : ℕ) → IsTxn (count_tree p)
count_txn p = record { names = refl; nested = refl }

log_txn : (p k j : ℕ) → IsTxn (log_tree p k j)
log_txn p k j = record { names = refl; nested = refl }

one_more : (t : List CommandTree) (txns : List (List CommandTree)) → IsTxn t → list_all (λ level. leb level 64) (script_token_levels 1 txns) ≡ true → list_all (λ level. leb level 64) (script_token_levels 1 (t ∷ txns)) ≡ true
one_more t txns txn low =
    list_all-append (λ level. leb level 64) (txn_token_levels 1 t) (script_token_levels 1 txns) ∙ and_from _ _ txn.nested low

one_txn : (text : List ℕ) (ps : List Piece) (t : List CommandTree) → length text ≤ 65536 → ArePieces ps [] → bytes_of ps ≡ text → tokens_in ps ≡ txn_tokens t → IsTxn t → IsScript text (t ∷ [])
one_txn text ps t short right whole tokens txn = record {
  short = short;
  tokens = subst (λ l. HasTokens (λ ts. ts) l (txn_tokens t ++ [])) whole (subst (HasTokens (λ ts. ts) (bytes_of ps)) (tokens ∙ sym (append-nil (txn_tokens t))) (has_tokens ps right));
  names = and_from _ _ txn.names refl;
  nested = one_more t [] txn refl;
}

pub lines_stand : LinesStand
lines_stand = record {
  counts = λ p h. record { stands = one_txn (count_line p) (count_pieces p) (count_tree p) (count_length p) (count_stands p [] h) (count_text p) (count_tokens p) (count_txn p); shapes = count_shaped p };
  logs = λ p k j h kk jj. record {
    stands = one_txn (log_line p k j) (log_pieces p k j) (log_tree p k j) (log_length p k j kk jj) (log_stands p k j [] h kk jj) (log_text p k j) (log_tokens p k j) (log_txn p k j);
    shapes = log_shaped p k j;
  };
}

-- ---- whole scripts

-- pieces that stand before anything, and are a text of one transaction
record IsLine (ps : List Piece) (text : List ℕ) (t : List CommandTree) : Type 0 where
  stands : (rest : List ℕ) → ArePieces ps rest
  whole : bytes_of ps ≡ text
  tokens : tokens_in ps ≡ txn_tokens t
  txn : IsTxn t
  shapes : shaped.IsTransaction t
  short : length text ≤ 128

abbrev txn_pieces : Bool → ℕ → ℕ → ℕ → List Piece
txn_pieces logs p k j = cond logs (log_pieces p k j) (count_pieces p)

is_line : (logs : Bool) (p k j : ℕ) → p < 16 → k < 8 → j < 200 → IsLine (txn_pieces logs p k j) (cond logs (log_line p k j) (count_line p)) (cond logs (log_tree p k j) (count_tree p))
is_line true p k j pp kk jj = record {
  stands = λ rest. log_stands p k j rest (omega (arith, pp)) (omega (arith, kk)) (omega (arith, jj));
  whole = log_text p k j;
  tokens = log_tokens p k j;
  txn = log_txn p k j;
  shapes = log_shaped p k j;
  short = log_short p k j kk jj;
}
is_line false p k j pp kk jj = record {
  stands = λ rest. count_stands p rest (omega (arith, pp));
  whole = count_text p;
  tokens = count_tokens p;
  txn = count_txn p;
  shapes = count_shaped p;
  short = count_short p;
}

module _ (f : ℕ → List Piece) (g : ℕ → List ℕ) (h : ℕ → List CommandTree) (lines : (j : ℕ) → j < 200 → IsLine (f j) (g j) (h j)) where
  all_stand : (a n : ℕ) → a + n ≤ 200 → (rest : List ℕ) → ArePieces (flat_map f (range_with_len a n)) rest
  all_stand a zero low rest = tt
  all_stand a (suc n) low rest =
      join_pieces (f a) (flat_map f (range_with_len (a + 1) n)) rest ((lines a (omega (arith, low))).stands (bytes_of (flat_map f (range_with_len (a + 1) n)) ++ rest)) (all_stand (a + 1) n (omega (arith, low)) rest)

  all_bytes : (a n : ℕ) → a + n ≤ 200 → bytes_of (flat_map f (range_with_len a n)) ≡ flat_map g (range_with_len a n)
  all_bytes a zero low = refl
  all_bytes a (suc n) low =
      flat_map-append piece_bytes (f a) (flat_map f (range_with_len (a + 1) n))
      ∙ ap (λ l. l ++ bytes_of (flat_map f (range_with_len (a + 1) n))) (lines a (omega (arith, low))).whole
      ∙ ap (λ l. g a ++ l) (all_bytes (a + 1) n (omega (arith, low)))

  all_tokens : (a n : ℕ) → a + n ≤ 200 → tokens_in (flat_map f (range_with_len a n)) ≡ script_tokens (map h (range_with_len a n))
  all_tokens a zero low = refl
  all_tokens a (suc n) low =
      tokens_join (f a) (flat_map f (range_with_len (a + 1) n))
      ∙ ap (λ l. l ++ tokens_in (flat_map f (range_with_len (a + 1) n))) (lines a (omega (arith, low))).tokens
      ∙ ap (λ l. txn_tokens (h a) ++ l) (all_tokens (a + 1) n (omega (arith, low)))

  all_names : (a n : ℕ) → a + n ≤ 200 → script_names (map h (range_with_len a n)) ≡ true
  all_names a zero low = refl
  all_names a (suc n) low = and_from _ _ (lines a (omega (arith, low))).txn.names (all_names (a + 1) n (omega (arith, low)))

  all_nested : (a n : ℕ) → a + n ≤ 200 → list_all (λ level. leb level 64) (script_token_levels 1 (map h (range_with_len a n))) ≡ true
  all_nested a zero low = refl
  all_nested a (suc n) low =
      one_more (h a) (map h (range_with_len (a + 1) n)) (lines a (omega (arith, low))).txn (all_nested (a + 1) n (omega (arith, low)))

  all_shaped : (a n : ℕ) → a + n ≤ 200 → All shaped.IsTransaction (map h (range_with_len a n))
  all_shaped a zero low = All-nil shaped.IsTransaction
  all_shaped a (suc n) low = All-cons shaped.IsTransaction (h a) (map h (range_with_len (a + 1) n)) (lines a (omega (arith, low))).shapes (all_shaped (a + 1) n (omega (arith, low)))

  all_short : (a n : ℕ) → a + n ≤ 200 → length (flat_map g (range_with_len a n)) ≤ 128 * n
  all_short a zero low = omega arith
  all_short a (suc n) low =
      let one = (lines a (omega (arith, low))).short in
      let rest = all_short (a + 1) n (omega (arith, low)) in
      omega (arith, one, rest, length-append (g a) (flat_map g (range_with_len (a + 1) n)))

  whole_script : (n : ℕ) → n ≤ 200 → IsScript (flat_map g (range_with_len 0 n)) (map h (range_with_len 0 n))
  whole_script n low =
      let within : 0 + n ≤ 200 = omega (arith, low) in
      let ps = flat_map f (range_with_len 0 n) in
      let short = all_short 0 n within in
      record {
        short = omega (arith, short, low);
        tokens = subst (λ l. HasTokens (λ ts. ts) l (script_tokens (map h (range_with_len 0 n)))) (all_bytes 0 n within) (subst (HasTokens (λ ts. ts) (bytes_of ps)) (all_tokens 0 n within) (has_tokens ps (all_stand 0 n within [])));
        names = all_names 0 n within;
        nested = all_nested 0 n within;
      }

  whole_shaped : (n : ℕ) → n ≤ 200 → shaped.IsScript (map h (range_with_len 0 n))
  whole_shaped n low = all_shaped 0 n (omega (arith, low))

project_small : (number t : ℕ) → project_of number t < 16
unfolding project_of draw
project_small number t = omega arith

line_at : (number k : ℕ) → k < 8 → (j : ℕ) → j < 200 → IsLine (txn_pieces (kind_of number (200 * k + j) == 3) (project_of number (200 * k + j)) k j) (txn_line number k j) (txn_tree (kind_of number (200 * k + j)) (project_of number (200 * k + j)) k j)
line_at number k kk j jj = is_line (kind_of number (200 * k + j) == 3) (project_of number (200 * k + j)) k j (project_small number (200 * k + j)) kk jj

abbrev tree_at : ℕ → ℕ → ℕ → List CommandTree
tree_at number k j = txn_tree (kind_of number (200 * k + j)) (project_of number (200 * k + j)) k j

to_lines : (number k n : ℕ) → k < 8 → n ≤ 200 → IsScript (first_lines number k n) (map (tree_at number k) (range_with_len 0 n))
unfolding first_lines
to_lines number k n kk low =
    whole_script (λ j. txn_pieces (kind_of number (200 * k + j) == 3) (project_of number (200 * k + j)) k j) (txn_line number k) (tree_at number k) (line_at number k kk) n low

to_shaped : (number k n : ℕ) → k < 8 → n ≤ 200 → shaped.IsScript (map (tree_at number k) (range_with_len 0 n))
to_shaped number k n kk low =
    whole_shaped (λ j. txn_pieces (kind_of number (200 * k + j) == 3) (project_of number (200 * k + j)) k j) (txn_line number k) (tree_at number k) (line_at number k kk) n low

pub scripts_stand : ScriptsStand
scripts_stand number k kk = record {
  stands = to_lines number k 200 kk (omega arith);
  shapes = to_shaped number k 200 kk (omega arith);
  count = length-map-range_with_len (tree_at number k) 0 200;
}
