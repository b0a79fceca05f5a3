use Rattle.std.proofs.Common.{◌≡◌, ◌≤◌, length, Ok, sym, ap, ◌∙◌, subst, arith}
use Rattle.fx_base.specs.Limits.{source_limit}
use Rattle.fx_base.proofs.Errors.{err_of, if_err_of}
use Rattle.fx_parse.specs.Faults.{of_lex}
use Rattle.fx_parse.specs.Reader.{kinds}
use Rattle.fx_parse.specs.Stuck.{Stops}
use Rattle.fx_grammar.specs.Grammars.{scripts}
use Rattle.fx_grammar.specs.Refused.{IsRefused}
use Rattle.fx_grammar.specs.Texts.{IsScript}
use Rattle.fx_grammar.proofs.Unlexed.{unlexed}
use Rattle.fx_source_parse.specs.Scripts.Reader.{read_script}
use Rattle.fx_source_parse.proofs.Scripts.Texts.{scripted, refused, all_nested, read_again, same_whole, stop_only, few_commands}
use Rattle.fx_source_parse.proofs.script.text.parse.Goals as goal

pub returns-in_err-tokens-clause-only : goal.returns-in_err-tokens-clause-only
returns-in_err-tokens-clause-only c =
    rw (err_of c.from_residual.result (of_lex c.in_err-tokens.field-0.0) c.from_residual.ensures.1)
    (λ t d. (tt, ap of_lex (c.in_err-tokens.ensures.given d.tokens.0 d.tokens.1).1))

pub returns-in_err-tokens-clause-fault : goal.returns-in_err-tokens-clause-fault
returns-in_err-tokens-clause-fault c =
    let short : length c.args.text.now ≤ source_limit = omega (arith, c.if-text-gt-SOURCE_LIMIT.false) in
    if_err_of (IsRefused scripts c.args.text.now) c.from_residual.result (of_lex c.in_err-tokens.field-0.0) c.from_residual.ensures.1
    (unlexed scripts c.args.text.now c.in_err-tokens.field-0.0 short c.in_err-tokens.ensures.fault)

read_ok : (c : goal.After-drop-tokens-inside) → read_script (kinds c.in_ok-tokens.tokens.spanned) ≡ Ok c.in-Ok.txns
read_ok c = ap (λ l. read_script (kinds l)) (sym c.as_slice.ensures.value) ∙ c.in-Ok.ensures

found : (c : goal.After-drop-tokens-inside) → IsScript c.args.text.now c.in-Ok.txns
found c =
    let short : length c.args.text.now ≤ source_limit = omega (arith, c.if-text-gt-SOURCE_LIMIT.false) in
    scripted c.args.text.now c.in_ok-tokens.tokens short c.in_ok-tokens.ensures.tokens c.in-Ok.txns (read_ok c)

pub returns-in-Ok-clause-ok : goal.returns-in-Ok-clause-ok
returns-in-Ok-clause-ok c = found c

pub returns-in-Ok-clause-nested : goal.returns-in-Ok-clause-nested
returns-in-Ok-clause-nested c = all_nested c.in-Ok.txns (found c).nested

pub returns-in-Ok-clause-few : goal.returns-in-Ok-clause-few
returns-in-Ok-clause-few c =
    let limit : length c.in_ok-tokens.tokens.spanned ≤ source_limit = c.as_slice.ensures.limit in
    few_commands c.in_ok-tokens.tokens.spanned c.in-Ok.txns limit (read_ok c)

pub returns-in-Ok-clause-only : goal.returns-in-Ok-clause-only
returns-in-Ok-clause-only c = λ t d.
    let again = read_again c.args.text.now c.in_ok-tokens.tokens t (λ spanned tokens. (c.in_ok-tokens.ensures.given spanned tokens).0) d in
    (same_whole c.in-Ok.txns t (sym (read_ok c) ∙ again), tt)

stopped : (c : goal.After-drop-tokens-inside-2) → Stops c.in-Err.stop (read_script (kinds c.in_ok-tokens.tokens.spanned))
stopped c = subst (λ l. Stops c.in-Err.stop (read_script (kinds l))) c.as_slice.ensures.value c.in-Err.ensures

pub returns-clause-only : goal.returns-clause-only
returns-clause-only c = λ t d.
    let again = read_again c.args.text.now c.in_ok-tokens.tokens t (λ spanned tokens. (c.in_ok-tokens.ensures.given spanned tokens).0) d in
    (tt, c.fault_at.ensures ∙ stop_only c.in_ok-tokens.tokens c.in-Err.stop (kinds c.in_ok-tokens.tokens.spanned) t (stopped c) again)

pub returns-clause-fault : goal.returns-clause-fault
returns-clause-fault c =
    let short : length c.args.text.now ≤ source_limit = omega (arith, c.if-text-gt-SOURCE_LIMIT.false) in
    subst (λ f. IsRefused scripts c.args.text.now f) (sym c.fault_at.ensures) (refused c.args.text.now c.in_ok-tokens.tokens short c.in_ok-tokens.ensures.tokens c.in_ok-tokens.ensures.length c.in-Err.stop (stopped c))
