-- From readings of tokens to what the text of a script stands for.
use Rattle.std.proofs.Common.{◌≡◌, ◌≤◌, ◌<◌, ◌-◌, ℕ, zero, suc, true, Result, Ok, Err, List, [], ◌∷◌, ◌++◌, length, refl, sym, ap, ◌∙◌, subst, arith, append_assoc, length-append}
use Rattle.std.specs.Prelude.{slice_get, All}
use Rattle.std.specs.Option.{option_map_or}
use Rattle.std.proofs.lemmas.Bool.{and_parts}
use Rattle.std.proofs.lemmas.List.{append-nil, length-map}
use Rattle.std.proofs.lemmas.List.Elements.{All-nil, All-cons}
use Rattle.fx_lex.specs.declared.token.Token.{Token}
use Rattle.fx_lex.specs.declared.token.Spanned.{Spanned}
use Rattle.fx_lex.specs.TokenList.{TokenList}
use Rattle.fx_lex.specs.Reading.{AreTokensOf}
use Rattle.fx_parse.specs.declared.stop.Stop.{Stop}
use Rattle.fx_parse.specs.declared.stop.Stop.TheVariants as stop
use Rattle.fx_parse.specs.declared.fault.ParseFault.TheVariants as fault
use Rattle.fx_parse.specs.Stuck.{Stuck, Unexpected, TooNested, ◌>>=◌, Stops}
use Rattle.fx_parse.specs.Readable.{Stands, IsTooNested}
use Rattle.fx_parse.specs.Reader.{kinds}
use Rattle.fx_parse.specs.ReadAt.{fault_at}
use Rattle.fx_parse.proofs.Machine.{at_most}
use Rattle.fx_parse.proofs.ExprLink.{front_low, rest_low}
use Rattle.fx_parse.proofs.ReaderPlaces.{read_stands, read_unexpected, read_too_nested}
use Rattle.fx_parse.specs.declared.keyword.Keyword.TheVariants as keyword
use Rattle.fx_parse.specs.Keywords.{word}
use Rattle.fx_parse.specs.Grammars.{closing, expr_tokens}
use Rattle.fx_spec.specs.CommandTree.{CommandTree, Block, block, count, count_block}
use Rattle.fx_spec.specs.Levels.{txn_levels}
use Rattle.fx_grammar.specs.Tokens.{command_tokens, block_tokens, txn_tokens, txn_names, script_tokens, script_names}
use Rattle.fx_grammar.specs.TokenLevels.{txn_token_levels, script_token_levels}
use Rattle.fx_grammar.specs.Texts.{IsScript}
use Rattle.fx_grammar.specs.Grammars.{transactions, scripts}
use Rattle.fx_grammar.specs.Refused.{IsMisplaced, IsRefused}
use Rattle.fx_grammar.proofs.Deep.{txn_deep}
use Rattle.fx_source_parse.specs.Scripts.Reader.{read_txn, txn_added_at, txns_at, read_script}
use Rattle.fx_source_parse.proofs.Scripts.Machine.{Txn, table, act_parts, brace, end_brace, branch_tokens, each_tokens}
use Rattle.fx_source_parse.proofs.Scripts.Again.{txn_reader}
use Rattle.fx_source_parse.proofs.Scripts.Star.{misplaced_here, nested_here, stands_behind, misplaced_behind, nested_behind}

abbrev Txns : Type 0
Txns = List (List CommandTree)

-- what reading says of tokens, behind transactions that were read
abbrev pub Says : Txns → List Token → Result Txns Stuck → Type 0
Says done ts (Ok txns) = (us : Txns) × (txns ≡ done ++ us) × Stands scripts 1 ts us []
Says done ts (Err (Unexpected k)) = IsMisplaced scripts ts k
Says done ts (Err (TooNested k)) = IsTooNested scripts 1 ts k

says_behind : (ts rest : List Token) (t : List CommandTree) (done : Txns) → Stands transactions 1 ts t rest → (r : Result Txns Stuck) → Says (done ++ t ∷ []) rest r → Says done ts r
says_behind ts rest t done s (Ok txns) o =
    (t ∷ o.0, o.1 ∙ append_assoc done (t ∷ []) o.0, stands_behind ts rest t o.0 s o.2)
says_behind ts rest t done s (Err (Unexpected k)) o = misplaced_behind ts rest t s k o
says_behind ts rest t done s (Err (TooNested k)) o = nested_behind ts rest t s k o

-- a transaction has a token
has_token : (t : List CommandTree) → 1 ≤ length (txn_tokens t)
has_token t = omega arith

less : (ts rest : List Token) (t : List CommandTree) → Stands transactions 1 ts t rest → length rest < length ts
less ts rest t s =
    let size = ap length s.spelled ∙ length-append (txn_tokens t) rest in
    omega (arith, size, has_token t)

abbrev one_more : Txns → List CommandTree × List Token → Result (Txns × List Token) Stuck
one_more done t = Ok (done ++ t.0 ∷ [], t.1)

abbrev go_on : ℕ → Txns × List Token → Result Txns Stuck
go_on n t = txns_at n t.0 t.1

says_next : (n : ℕ) (done : Txns) (x : Token) (ts : List Token) → length (x ∷ ts) ≤ suc n → ((done : Txns) (rest : List Token) → length rest ≤ n → Says done rest (txns_at n done rest)) → (r : Result (List CommandTree × List Token) Stuck) → read_txn 64 (x ∷ ts) ≡ r → Says done (x ∷ ts) ((r >>= one_more done) >>= go_on n)
says_next n done x ts few again (Ok (t, rest)) e =
    let s = read_stands table transactions Txn read_txn txn_reader 1 64 refl (x ∷ ts) t rest e in
    let short = less (x ∷ ts) rest t s in
    says_behind (x ∷ ts) rest t done s (txns_at n (done ++ t ∷ []) rest) (again (done ++ t ∷ []) rest (omega (arith, short, few)))
says_next n done x ts few again (Err (Unexpected k)) e =
    misplaced_here x ts k (read_unexpected table transactions Txn read_txn txn_reader 1 64 refl (x ∷ ts) k e)
says_next n done x ts few again (Err (TooNested k)) e =
    nested_here (x ∷ ts) k (read_too_nested table transactions Txn read_txn txn_reader 1 64 refl (x ∷ ts) k e)

at_end : (done : Txns) → Says done [] (Ok done)
at_end done = ([], sym (append-nil done), record { right = refl; nested = refl; spelled = refl })

txns_say : (n : ℕ) (done : Txns) (ts : List Token) → length ts ≤ n → Says done ts (txns_at n done ts)
unfolding txns_at txn_added_at
txns_say zero done [] few = at_end done
txns_say zero done (x ∷ ts) few = absurd (omega (arith, few))
txns_say (suc n) done [] few = at_end done
txns_say (suc n) done (x ∷ ts) few = says_next n done x ts few (txns_say n) (read_txn 64 (x ∷ ts)) refl

pub script_says : (ts : List Token) → Says [] ts (read_script ts)
unfolding read_script
script_says ts = txns_say (length ts) [] ts (omega arith)

txn_next : (n : ℕ) (done : Txns) (t : List CommandTree) (x : Token) (ts rest : List Token) → read_txn 64 (x ∷ ts) ≡ Ok (t, rest) → txns_at (suc n) done (x ∷ ts) ≡ txns_at n (done ++ t ∷ []) rest
unfolding txns_at txn_added_at
txn_next n done t x ts rest e = ap (λ r. (r >>= one_more done) >>= go_on n) e

txns_end : (n : ℕ) (done : Txns) → txns_at n done [] ≡ Ok done
unfolding txns_at
txns_end zero done = refl
txns_end (suc n) done = refl

txns_again : (us : Txns) (n : ℕ) (done : Txns) → script_names us ≡ true → at_most 64 (script_token_levels 1 us) ≡ true → length (script_tokens us) ≤ n → txns_at n done (script_tokens us) ≡ Ok (done ++ us)
txns_again [] n done h low few = txns_end n done ∙ ap (λ l. Ok l) (sym (append-nil done))
txns_again (t ∷ us) zero done h low few = absurd (omega (arith, few, length-append (txn_tokens t) (script_tokens us), has_token t))
txns_again (t ∷ us) (suc n) done h low few =
    let hs = and_parts (txn_names t) (script_names us) h in
    let size = length-append (txn_tokens t) (script_tokens us) in
    let one : read_txn 64 (txn_tokens t ++ script_tokens us) ≡ Ok (t, script_tokens us) = txn_reader.again t 64 64 1 (script_tokens us) refl hs.0 (front_low 64 (txn_token_levels 1 t) (script_token_levels 1 us) low) in
    txn_next n done t _ _ (script_tokens us) one ∙ txns_again us n (done ++ t ∷ []) hs.1 (rest_low 64 (txn_token_levels 1 t) (script_token_levels 1 us) low) (omega (arith, few, size, has_token t)) ∙ ap (λ l. Ok l) (append_assoc done (t ∷ []) us)

script_again : (us : Txns) → script_names us ≡ true → at_most 64 (script_token_levels 1 us) ≡ true → read_script (script_tokens us) ≡ Ok us
unfolding read_script
script_again us h low = txns_again us (length (script_tokens us)) [] h low (omega arith)

abbrev IsNested : List CommandTree → Type 0
IsNested t = txn_levels t ≤ 64

-- the transactions of a script, one by one
pub all_nested : (us : Txns) → at_most 64 (script_token_levels 1 us) ≡ true → All IsNested us
all_nested [] low = All-nil IsNested
all_nested (t ∷ us) low =
    let deep = txn_deep 64 1 t (record { low = front_low 64 (txn_token_levels 1 t) (script_token_levels 1 us) low }) in
    All-cons IsNested t us (omega (arith, deep)) (all_nested us (rest_low 64 (txn_token_levels 1 t) (script_token_levels 1 us) low))

module _ (text : List ℕ) (list : TokenList) (short : length text ≤ 65536) (tokens : AreTokensOf text list.spanned) where
  stands : (us : Txns) → Stands scripts 1 (kinds list.spanned) us [] → IsScript text us
  stands us s = record {
    short = short;
    tokens = (list.spanned, tokens, s.spelled ∙ append-nil (script_tokens us));
    names = s.right;
    nested = s.nested;
  }

  pub scripted : (us : Txns) → read_script (kinds list.spanned) ≡ Ok us → IsScript text us
  scripted us e =
      let found = subst (λ r. Says [] (kinds list.spanned) r) e (script_says (kinds list.spanned)) in
      subst (IsScript text) (sym found.1) (stands found.0 found.2)

  pub refused : list.text_len ≡ length text → (why : Stop) → Stops why (read_script (kinds list.spanned)) → IsRefused scripts text (fault_at list why)
  refused len (stop.Unexpected k) e = record {
    short = short;
    spanned = list.spanned;
    tokens = tokens;
    left = k;
    wrong = subst (λ r. Says [] (kinds list.spanned) r) e (script_says (kinds list.spanned));
    stands = ap (λ n. option_map_or (λ s. s.start) (slice_get list.spanned (length list.spanned - k)) n) len;
  }
  refused len (stop.TooNested k) e = record {
    short = short;
    spanned = list.spanned;
    tokens = tokens;
    left = k;
    wrong = subst (λ r. Says [] (kinds list.spanned) r) e (script_says (kinds list.spanned));
    stands = ap (λ n. option_map_or (λ s. s.start) (slice_get list.spanned (length list.spanned - k)) n) len;
  }
  refused len stop.NoMemory e = tt

-- commands have a token each at least
mutual
  count_tokens : (c : CommandTree) → count c ≤ length (command_tokens c)
  count_tokens (CommandTree.act a) = omega (arith, ap length (act_parts a))
  count_tokens (CommandTree.attempt x a) = omega arith
  count_tokens (CommandTree.bind x e) = omega arith
  count_tokens (CommandTree.assign x e) = omega arith
  count_tokens (CommandTree.fetch x s) = omega arith
  count_tokens (CommandTree.whole x s) = omega arith
  count_tokens (CommandTree.validate x) = omega arith
  count_tokens (CommandTree.print e) = omega arith
  count_tokens (CommandTree.branch e a b) =
      let other = word keyword.Else ∷ brace ∷ (block_tokens b ++ end_brace ∷ []) in
      omega (arith, ap length (branch_tokens e a b), length-append (expr_tokens e) (closing ∷ brace ∷ (block_tokens a ++ end_brace ∷ other)), length-append (block_tokens a) (end_brace ∷ other), length-append (block_tokens b) (end_brace ∷ []), count_block_tokens a, count_block_tokens b)
  count_tokens (CommandTree.each x e a) =
      omega (arith, ap length (each_tokens x e a), length-append (expr_tokens e) (closing ∷ brace ∷ (block_tokens a ++ end_brace ∷ [])), length-append (block_tokens a) (end_brace ∷ []), count_block_tokens a)
  count_tokens CommandTree.abort = omega arith

  count_block_tokens : (b : Block) → count_block b ≤ length (block_tokens b)
  count_block_tokens Block.none = omega arith
  count_block_tokens (Block.then c cs) = omega (arith, count_tokens c, count_block_tokens cs, length-append (command_tokens c) (block_tokens cs))

abbrev IsFew : List CommandTree → Type 0
IsFew t = count_block (block t) ≤ 65536

all_few : (us : Txns) → length (script_tokens us) ≤ 65536 → All IsFew us
all_few [] h = All-nil IsFew
all_few (t ∷ us) h =
    let size = length-append (txn_tokens t) (script_tokens us) in
    let inside = length-append (block_tokens (block t)) (end_brace ∷ []) in
    All-cons IsFew t us (omega (arith, h, size, inside, count_block_tokens (block t))) (all_few us (omega (arith, h, size)))

pub few_commands : (spanned : List Spanned) (us : Txns) → length spanned ≤ 65536 → read_script (kinds spanned) ≡ Ok us → All IsFew us
few_commands spanned us few e =
    let found = subst (λ r. Says [] (kinds spanned) r) e (script_says (kinds spanned)) in
    let size = length-map spanned (λ s. s.token) in
    let spelled = ap length found.2.spelled in
    let end = length-append (script_tokens found.0) [] in
    subst (All IsFew) (sym found.1) (all_few found.0 (omega (arith, few, size, spelled, end)))

pub read_again : (text : List ℕ) (list : TokenList) (us : Txns) → ((spanned : List Spanned) → AreTokensOf text spanned → list.spanned ≡ spanned) → IsScript text us → read_script (kinds list.spanned) ≡ Ok us
read_again text list us only d =
    ap read_script (ap kinds (only d.tokens.0 d.tokens.1) ∙ d.tokens.2) ∙ script_again us d.names d.nested

pub same_whole : (s t : Txns) → ◌≡◌ {A = Result Txns Stuck} (Ok s) (Ok t) → s ≡ t
same_whole s t e = cc

-- what stops a reading that gives transactions is memory
pub stop_only : (list : TokenList) (why : Stop) (ts : List Token) (us : Txns) → Stops why (read_script ts) → read_script ts ≡ Ok us → fault_at list why ≡ fault.NoMemory
stop_only list (stop.Unexpected k) ts us e f = let no : Err (Unexpected k) ≡ Ok us = sym e ∙ f in absurd cc
stop_only list (stop.TooNested k) ts us e f = let no : Err (TooNested k) ≡ Ok us = sym e ∙ f in absurd cc
stop_only list stop.NoMemory ts us e f = refl
