use Rattle.std.proofs.Common.{◌≡◌, ◌≤◌, length, Ok, sym, ap, ◌∙◌, subst, arith}
use Rattle.std.specs.Prelude.{map}
use Rattle.fx_base.specs.Limits.{source_limit}
use Rattle.fx_base.proofs.Errors.{err_of, if_err_of}
use Rattle.fx_lex.specs.Kept.{kept, kept_at}
use Rattle.fx_parse.specs.Faults.{of_lex}
use Rattle.fx_parse.specs.Reader.{kinds}
use Rattle.fx_parse.specs.ReadAt.{fault_at}
use Rattle.fx_parse.specs.Stuck.{Stops}
use Rattle.fx_spec.specs.TextViews.{written}
use Rattle.fx_grammar.specs.Grammars.{descriptions}
use Rattle.fx_grammar.specs.Refused.{IsRefusedDescription}
use Rattle.fx_grammar.specs.Texts.{IsDescription}
use Rattle.fx_grammar.proofs.Unlexed.{unlexed_as}
use Rattle.fx_source_parse.specs.Descriptions.Reader.{read_whole}
use Rattle.fx_source_parse.proofs.Descriptions.Texts.{keeping, described, refused, text_nested, read_again, same_whole, stop_only}
use Rattle.fx_source_parse.proofs.spec.text.parse.Goals as goal

pub returns-in_err-tokens-clause-only : goal.returns-in_err-tokens-clause-only
returns-in_err-tokens-clause-only c =
    rw (err_of c.from_residual.result (of_lex c.in_err-tokens.field-0.0) c.from_residual.ensures.1)
    (λ t d. (tt, ap of_lex (c.in_err-tokens.ensures.given d.tokens.0 d.tokens.1).1))

pub returns-in_err-tokens-clause-fault : goal.returns-in_err-tokens-clause-fault
returns-in_err-tokens-clause-fault c =
    let short : length c.args.text.now ≤ source_limit = omega (arith, c.if-text-gt-SOURCE_LIMIT.false) in
    if_err_of (IsRefusedDescription c.args.text.now) c.from_residual.result (of_lex c.in_err-tokens.field-0.0) c.from_residual.ensures.1
    (unlexed_as descriptions (λ ts. map kept ts) c.args.text.now c.in_err-tokens.field-0.0 short c.in_err-tokens.ensures.fault)

read_ok : (c : goal.After-drop-tokens-inside) → read_whole (kinds (map kept_at c.in_ok-tokens.tokens.spanned)) ≡ Ok (written c.in-Ok.description)
read_ok c =
    ap (λ l. read_whole (kinds l)) (sym (c.as_slice.ensures.value ∙ ap (λ t. t.spanned) c.keep_def.ensures)) ∙ c.in-Ok.ensures

found : (c : goal.After-drop-tokens-inside) → IsDescription c.args.text.now (written c.in-Ok.description)
found c =
    let short : length c.args.text.now ≤ source_limit = omega (arith, c.if-text-gt-SOURCE_LIMIT.false) in
    described c.args.text.now c.in_ok-tokens.tokens.spanned short c.in_ok-tokens.ensures.tokens (written c.in-Ok.description) (read_ok c)

pub returns-in-Ok-clause-ok : goal.returns-in-Ok-clause-ok
returns-in-Ok-clause-ok c = found c

pub returns-in-Ok-clause-nested : goal.returns-in-Ok-clause-nested
returns-in-Ok-clause-nested c = text_nested c.args.text.now (written c.in-Ok.description) (found c)

pub returns-in-Ok-clause-only : goal.returns-in-Ok-clause-only
returns-in-Ok-clause-only c = λ t d.
    let again = read_again c.args.text.now c.in_ok-tokens.tokens.spanned t (λ spanned tokens. (c.in_ok-tokens.ensures.given spanned tokens).0) d in
    (same_whole (written c.in-Ok.description) t (sym (read_ok c) ∙ again), tt)

stopped : (c : goal.After-drop-tokens-inside-2) → Stops c.in-Err.stop (read_whole (kinds (map kept_at c.in_ok-tokens.tokens.spanned)))
stopped c =
    subst (λ l. Stops c.in-Err.stop (read_whole (kinds l))) (c.as_slice.ensures.value ∙ ap (λ t. t.spanned) c.keep_def.ensures) c.in-Err.ensures

told : (c : goal.After-drop-tokens-inside-2) → c.fault_at.result ≡ fault_at (keeping c.in_ok-tokens.tokens.spanned (length c.args.text.now)) c.in-Err.stop
told c =
    c.fault_at.ensures ∙ ap (λ l. fault_at l c.in-Err.stop) (c.keep_def.ensures ∙ ap (keeping c.in_ok-tokens.tokens.spanned) c.in_ok-tokens.ensures.length)

pub returns-clause-only : goal.returns-clause-only
returns-clause-only c = λ t d.
    let again = read_again c.args.text.now c.in_ok-tokens.tokens.spanned t (λ spanned tokens. (c.in_ok-tokens.ensures.given spanned tokens).0) d in
    (tt, told c ∙ stop_only (keeping c.in_ok-tokens.tokens.spanned (length c.args.text.now)) c.in-Err.stop (kinds (map kept_at c.in_ok-tokens.tokens.spanned)) t (stopped c) again)

pub returns-clause-fault : goal.returns-clause-fault
returns-clause-fault c =
    let short : length c.args.text.now ≤ source_limit = omega (arith, c.if-text-gt-SOURCE_LIMIT.false) in
    subst (λ f. IsRefusedDescription c.args.text.now f) (sym (told c)) (refused c.args.text.now c.in_ok-tokens.tokens.spanned short c.in_ok-tokens.ensures.tokens c.in-Err.stop (stopped c))
