-- From readings of tokens to what a text stands for.
use Rattle.std.proofs.Common.{◌≡◌, ◌≤◌, ◌-◌, ℕ, zero, suc, Result, Ok, Err, List, [], ◌∷◌, length, refl, sym, ap, ◌∙◌, subst, arith}
use Rattle.std.specs.Prelude.{map, slice_get}
use Rattle.std.specs.Option.{option_map_or}
use Rattle.std.proofs.lemmas.List.{append-nil, length-map}
use Rattle.fx_lex.specs.declared.token.Token.{Token}
use Rattle.fx_lex.specs.declared.token.Spanned.{Spanned}
use Rattle.fx_lex.specs.TokenList.{TokenList}
use Rattle.fx_lex.specs.Kept.{kept, kept_at}
use Rattle.fx_lex.specs.Reading.{AreTokensOf}
use Rattle.fx_parse.specs.declared.stop.Stop.{Stop}
use Rattle.fx_parse.specs.declared.stop.Stop.TheVariants as stop
use Rattle.fx_parse.specs.declared.fault.ParseFault.TheVariants as fault
use Rattle.fx_parse.specs.Stuck.{Stuck, Unexpected, TooNested, ◌>>=◌, Stops}
use Rattle.fx_parse.specs.Readable.{Stands, IsTooNested}
use Rattle.fx_parse.specs.Reader.{kinds}
use Rattle.fx_parse.specs.ReadAt.{place_left, fault_at}
use Rattle.fx_parse.proofs.ReaderPlaces.{stands_read, read_stands, read_unexpected, read_too_nested}
use Rattle.fx_spec.specs.Levels.{text_levels}
use Rattle.fx_spec.specs.Written.{TextTree}
use Rattle.fx_grammar.specs.Tokens.{text_tokens}
use Rattle.fx_grammar.specs.Texts.{IsDescription}
use Rattle.fx_grammar.specs.Grammars.{descriptions}
use Rattle.fx_grammar.specs.Refused.{IsMisplaced, IsRefusedDescription}
use Rattle.fx_grammar.proofs.Deep.{text_deep}
use Rattle.fx_grammar.proofs.Wholes.{wrong_in_front, wrong_behind}
use Rattle.fx_source_parse.specs.Descriptions.Reader.{read_text, ended, read_whole}
use Rattle.fx_source_parse.proofs.Descriptions.Machine.{Text, table}
use Rattle.fx_source_parse.proofs.Descriptions.Again.{text_reader}

abbrev Front : Type 0
Front = Result (TextTree × List Token) Stuck

ended_ok : (r : Front) (s : TextTree) → (r >>= ended) ≡ Ok s → r ≡ Ok (s, [])
ended_ok (Ok (t, [])) s e = let same : t ≡ s = cc in ap (λ u. Ok (u, [])) same
ended_ok (Ok (t, x ∷ more)) s e = absurd cc
ended_ok (Err k) s e = absurd cc

-- where reading the whole goes wrong
data Ends (r : Front) (k : Stuck) : Type 0 where
  Front_wrong : r ≡ Err k → Ends r k
  Behind : (t : TextTree) (x : Token) (more : List Token) → r ≡ Ok (t, x ∷ more) → k ≡ Unexpected (length (x ∷ more)) → Ends r k

ended_wrong : (r : Front) (k : Stuck) → (r >>= ended) ≡ Err k → Ends r k
ended_wrong (Ok (t, [])) k e = absurd cc
ended_wrong (Ok (t, x ∷ more)) k e = Behind t x more refl cc
ended_wrong (Err j) k e = let same : j ≡ k = cc in Front_wrong (ap (λ e. Err e) same)

whole_ok : (ts : List Token) (s : TextTree) → read_whole ts ≡ Ok s → read_text 64 ts ≡ Ok (s, [])
unfolding read_whole
whole_ok ts s e = ended_ok (read_text 64 ts) s e

whole_wrong : (ts : List Token) (k : Stuck) → read_whole ts ≡ Err k → Ends (read_text 64 ts) k
unfolding read_whole
whole_wrong ts k e = ended_wrong (read_text 64 ts) k e

whole_again : (ts : List Token) (s : TextTree) → read_text 64 ts ≡ Ok (s, []) → read_whole ts ≡ Ok s
unfolding read_whole
whole_again ts s e = ap (λ r. r >>= ended) e

misplaced : (ts : List Token) (k : ℕ) → Ends (read_text 64 ts) (Unexpected k) → IsMisplaced descriptions ts k
misplaced ts k (Front_wrong e) =
    wrong_in_front table descriptions Text read_text text_reader ts k (read_unexpected table descriptions Text read_text text_reader 1 64 refl ts k e)
misplaced ts k (Behind t x more e same) =
    let place : k ≡ length (x ∷ more) = cc in
    let stands = read_stands table descriptions Text read_text text_reader 1 64 refl ts t (x ∷ more) e in
    subst (λ n. IsMisplaced descriptions ts n) (sym place) (wrong_behind table descriptions Text read_text text_reader ts t x more stands)

nested : (ts : List Token) (k : ℕ) → Ends (read_text 64 ts) (TooNested k) → IsTooNested descriptions 1 ts k
nested ts k (Front_wrong e) = read_too_nested table descriptions Text read_text text_reader 1 64 refl ts k e
nested ts k (Behind t x more e same) = absurd cc

-- the word `def` is kept token by token, and each token stays where it is
kinds_kept : (spanned : List Spanned) → kinds (map kept_at spanned) ≡ map kept (kinds spanned)
kinds_kept [] = refl
kinds_kept (s ∷ spanned) = ap (λ l. kept s.token ∷ l) (kinds_kept spanned)

starts_kept : (spanned : List Spanned) (i end : ℕ) → option_map_or (λ s. s.start) (slice_get (map kept_at spanned) i) end ≡ option_map_or (λ s. s.start) (slice_get spanned i) end
starts_kept [] i end = refl
starts_kept (s ∷ spanned) zero end = refl
starts_kept (s ∷ spanned) (suc i) end = starts_kept spanned i end

abbrev pub keeping : List Spanned → ℕ → TokenList
keeping spanned end = record { spanned = map kept_at spanned; text_len = end }

place_kept : (spanned : List Spanned) (end k : ℕ) → place_left (keeping spanned end) k ≡ place_left (record { spanned = spanned; text_len = end }) k
place_kept spanned end k =
    ap (λ n. option_map_or (λ s. s.start) (slice_get (map kept_at spanned) (n - k)) end) (length-map spanned kept_at) ∙ starts_kept spanned (length spanned - k) end

-- the tokens of a text, and the list of them in which the word `def` is kept
module _ (text : List ℕ) (spanned : List Spanned) (short : length text ≤ 65536) (tokens : AreTokensOf text spanned) where
  pub described : (t : TextTree) → read_whole (kinds (map kept_at spanned)) ≡ Ok t → IsDescription text t
  described t e =
      let stands = read_stands table descriptions Text read_text text_reader 1 64 refl (kinds (map kept_at spanned)) t [] (whole_ok (kinds (map kept_at spanned)) t e) in
      record {
        short = short;
        tokens = (spanned, tokens, sym (kinds_kept spanned) ∙ stands.spelled ∙ append-nil (text_tokens t));
        names = stands.right;
        nested = stands.nested;
      }

  pub refused : (why : Stop) → Stops why (read_whole (kinds (map kept_at spanned))) → IsRefusedDescription text (fault_at (keeping spanned (length text)) why)
  refused (stop.Unexpected k) e = record {
    short = short;
    spanned = spanned;
    tokens = tokens;
    left = k;
    wrong = subst (λ ts. IsMisplaced descriptions ts k) (kinds_kept spanned) (misplaced (kinds (map kept_at spanned)) k (whole_wrong (kinds (map kept_at spanned)) (Unexpected k) e));
    stands = place_kept spanned (length text) k;
  }
  refused (stop.TooNested k) e = record {
    short = short;
    spanned = spanned;
    tokens = tokens;
    left = k;
    wrong = subst (λ ts. IsTooNested descriptions 1 ts k) (kinds_kept spanned) (nested (kinds (map kept_at spanned)) k (whole_wrong (kinds (map kept_at spanned)) (TooNested k) e));
    stands = place_kept spanned (length text) k;
  }
  refused stop.NoMemory e = tt

pub text_nested : (text : List ℕ) (t : TextTree) → IsDescription text t → text_levels t ≤ 64
text_nested text t d = let deep = text_deep 64 1 t (record { low = d.nested }) in omega (arith, deep)

pub read_again : (text : List ℕ) (spanned : List Spanned) (t : TextTree) → ((others : List Spanned) → AreTokensOf text others → spanned ≡ others) → IsDescription text t → read_whole (kinds (map kept_at spanned)) ≡ Ok t
read_again text spanned t only d =
    let same : kinds (map kept_at spanned) ≡ text_tokens t = kinds_kept spanned ∙ ap (λ l. map kept (kinds l)) (only d.tokens.0 d.tokens.1) ∙ d.tokens.2 in
    let stands : Stands descriptions 1 (kinds (map kept_at spanned)) t [] = record { right = d.names; nested = d.nested; spelled = same ∙ sym (append-nil (text_tokens t)) } in
    whole_again (kinds (map kept_at spanned)) t (stands_read table descriptions Text read_text text_reader 1 64 refl (kinds (map kept_at spanned)) t [] stands)

pub same_whole : (s t : TextTree) → ◌≡◌ {A = Result TextTree Stuck} (Ok s) (Ok t) → s ≡ t
same_whole s t e = cc

-- what stops a reading that gives a tree is memory
pub stop_only : (list : TokenList) (why : Stop) (ts : List Token) (t : TextTree) → Stops why (read_whole ts) → read_whole ts ≡ Ok t → fault_at list why ≡ fault.NoMemory
stop_only list (stop.Unexpected k) ts t e f = let no : Err (Unexpected k) ≡ Ok t = sym e ∙ f in absurd cc
stop_only list (stop.TooNested k) ts t e f = let no : Err (TooNested k) ≡ Ok t = sym e ∙ f in absurd cc
stop_only list stop.NoMemory ts t e f = refl
