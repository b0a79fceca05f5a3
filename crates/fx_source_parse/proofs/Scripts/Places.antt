-- The tokens of a script go wrong in one way and at one place.
use Rattle.std.proofs.Common.{◌≡◌, ◌⊎◌, inl, inr, ℕ, true, Result, Ok, Err, List, [], ◌∷◌, sym, ◌∙◌}
use Rattle.std.proofs.lemmas.Bool.{and_parts}
use Rattle.std.proofs.lemmas.List.{append-nil}
use Rattle.fx_lex.specs.declared.token.Token.{Token}
use Rattle.fx_parse.specs.Stuck.{Stuck, Unexpected, TooNested}
use Rattle.fx_parse.specs.Readable.{Stands, IsShallow, IsTooNested}
use Rattle.fx_parse.proofs.Machine.{at_most, shallow_at}
use Rattle.fx_parse.proofs.ExprLink.{front_low, rest_low}
use Rattle.fx_parse.proofs.OnePlace.{cut, too_nested_cut}
use Rattle.fx_spec.specs.CommandTree.{CommandTree}
use Rattle.fx_grammar.specs.Tokens.{txn_names, script_tokens, script_names}
use Rattle.fx_grammar.specs.TokenLevels.{txn_token_levels, script_token_levels}
use Rattle.fx_grammar.specs.Grammars.{scripts}
use Rattle.fx_grammar.specs.Refused.{IsMisplaced, HasOnePlace}
use Rattle.fx_grammar.proofs.Wholes.{misplaced_cut, kinds_cut}
use Rattle.fx_source_parse.specs.Scripts.Reader.{read_script}
use Rattle.fx_source_parse.proofs.Scripts.Star.{nothing_there, shallow_behind}
use Rattle.fx_source_parse.proofs.Scripts.Texts.{Says, script_says}

abbrev Txns : Type 0
Txns = List (List CommandTree)

-- no token of a script that is nested at most 64 deep begins a deeper form
shallow_script : (us : Txns) → script_names us ≡ true → at_most 64 (script_token_levels 1 us) ≡ true → IsShallow scripts 1 (script_tokens us)
shallow_script [] h low = λ f more x e d. nothing_there f x more e
shallow_script (t ∷ us) h low =
    let hs = and_parts (txn_names t) (script_names us) h in
    let first = front_low 64 (txn_token_levels 1 t) (script_token_levels 1 us) low in
    shallow_behind t hs.0 (λ i. shallow_at (txn_token_levels 1 t) i first) (script_tokens us) (shallow_script us hs.1 (rest_low 64 (txn_token_levels 1 t) (script_token_levels 1 us) low))

abbrev Some : List Token → Type 0
Some ts = ((us : Txns) × Stands scripts 1 ts us []) ⊎ (((k : ℕ) × IsMisplaced scripts ts k) ⊎ ((k : ℕ) × IsTooNested scripts 1 ts k))

some_of : (ts : List Token) (r : Result Txns Stuck) → Says [] ts r → Some ts
some_of ts (Ok us) o = inl (o.0, o.2)
some_of ts (Err (Unexpected k)) o = inr (inl (k, o))
some_of ts (Err (TooNested k)) o = inr (inr (k, o))

pub one_place : (ts : List Token) → HasOnePlace scripts ts
one_place ts = record {
  some = some_of ts (read_script ts) (script_says ts);
  misplaced = λ j k p q. misplaced_cut scripts ts j k p q (cut p.front p.rest q.front q.rest (sym p.parts ∙ q.parts));
  too_nested = λ j k p q. too_nested_cut scripts 1 ts j k p q (cut p.front (p.x ∷ p.more) q.front (q.x ∷ q.more) (sym p.parts ∙ q.parts));
  one_kind = λ j k p q. kinds_cut scripts ts j k p q (cut p.front p.rest q.front (q.x ∷ q.more) (sym p.parts ∙ q.parts));
  not_misplaced = λ us k s p. p.none us s.right (s.spelled ∙ append-nil (script_tokens us));
  not_too_nested = λ us k s q. shallow_script us s.right s.nested q.front q.more q.x (sym (append-nil (script_tokens us)) ∙ sym s.spelled ∙ q.parts) q.begins;
}
