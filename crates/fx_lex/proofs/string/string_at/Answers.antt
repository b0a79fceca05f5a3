use Rattle.std.proofs.Common.{◌≡◌, ◌+◌, ◌-◌, take, drop, sym, ap, ◌∙◌, subst, arith}
use Rattle.std.specs.List.{prefix_len}
use Rattle.std.proofs.lemmas.List.{take_rest}
use Rattle.fx_lex.specs.declared.token.Token.TheVariants as token
use Rattle.fx_lex.specs.Reading.{StandsAt}
use Rattle.fx_lex.specs.Items.{is_plain, first_item}
use Rattle.fx_lex.proofs.Strings.{StringSoFar, string_runs, item_is, string_goes_on, string_stands, string_none, head_no_quote, end_is_open}
use Rattle.fx_lex.proofs.string.string_at.Goals as goal

-- the bytes behind the quote that stand for themselves
pub loop-at-init : goal.loop-at-init
loop-at-init c =
    let bytes = c.args.bytes.now in
    let n = c.plain_len-plain.result in
    let runs = string_runs bytes n c.requires.some c.requires.quote (c.plain_len-plain.ensures.run ∙ ap (λ l. prefix_len is_plain l) (take_rest bytes 1)) in
    let size : 1 + n - 1 ≡ n = omega arith in
    subst (λ v. StringSoFar bytes (1 + n) v) (sym (c.in_ok-value.ensures.items ∙ ap (λ m. take m (drop 1 bytes)) size)) runs

pub returns-then-bytes-at-eq34 : goal.returns-then-bytes-at-eq34
returns-then-bytes-at-eq34 c =
    let bytes = c.args.bytes.now in
    let at = c.loop-at.at in
    let stands = string_stands bytes at c.loop-at.value.items c.loop-at.invariant c.loop-at-test.true c.if-bytes-at-eq34.true in
    (omega arith, omega (arith, c.loop-at-test.true), subst (λ v. StandsAt (take (at + 1) bytes) (drop (at + 1) bytes) (token.Str v)) (sym c.from_vec.ensures) stands)

pub loop-at-preserved : goal.loop-at-preserved
loop-at-preserved c =
    let bytes = c.args.bytes.now in
    let at = c.loop-at.at in
    let first = item_is (drop at bytes) (c.in-Some.byte, c.in-Some.len) (ap first_item (sym (take_rest bytes at)) ∙ sym c.first_item.ensures ∙ c.in-Some.is) in
    subst (λ v. StringSoFar bytes (at + c.in-Some.len) v) (sym c.in_ok-push-in-Some.ensures.items) (string_goes_on bytes at c.in-Some.byte c.in-Some.len c.loop-at.value.items c.loop-at.invariant first)

pub returns-in-None : goal.returns-in-None
returns-in-None c =
    let bytes = c.args.bytes.now in
    let at = c.loop-at.at in
    string_none bytes at c.loop-at.value.items c.loop-at.invariant (ap first_item (sym (take_rest bytes at)) ∙ sym c.first_item.ensures ∙ c.in-None.is) (head_no_quote bytes at c.loop-at-test.true c.if-bytes-at-eq34.false)

pub returns : goal.returns
returns c = end_is_open c.args.bytes.now c.loop-at.at c.loop-at.value.items c.loop-at.invariant c.loop-at-test.false
