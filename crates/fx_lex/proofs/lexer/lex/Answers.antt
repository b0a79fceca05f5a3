use Rattle.std.proofs.Common.{rules, ◌≡◌, ◌+◌, ◌-◌, [], ◌∷◌, ◌++◌, take, drop, sym, ap, ◌∙◌, subst, inl, arith, length-drop}
use Rattle.std.proofs.lemmas.Int.{to_z-of_z}
use Rattle.std.proofs.lemmas.List.{take_rest}
use Rattle.std.specs.Prelude.{slice_range}
use mir.Syntax.{w64}
use mir.Val.{SFits}
use Rattle.fx_expr.specs.Bytes.{IsWordAt}
use Rattle.fx_lex.specs.declared.token.Token.TheVariants as token
use Rattle.fx_lex.specs.declared.token.LexFault.TheVariants.{BadToken}
use Rattle.fx_lex.specs.Reading.{AreTokensOf, IsBadAt}
use Rattle.fx_lex.specs.Found.{IsFoundAt, IsStringAt}
use Rattle.fx_lex.proofs.Steps.{steps_gap, steps_on, reads_end, reads_bad}
use Rattle.fx_lex.proofs.Stands.{word_place}
use Rattle.fx_lex.proofs.Unique.{tokens_unique, place_unique, tokens_exclude}
use Rattle.fx_lex.proofs.lexer.lex.Goals as goal

pub loop-at-preserved-in-Gap : goal.loop-at-preserved-in-Gap
loop-at-preserved-in-Gap c =
    let text = c.args.text.now in
    let at = c.loop-at.at in
    let found = subst (λ l. IsFoundAt l c.found_at.result) (take_rest text at) c.found_at.ensures in
    let here = subst (λ f. IsFoundAt (drop at text) f) c.in-Gap.is found in
    record {
      reads = steps_gap text at c.in-Gap.len c.loop-at.items.items c.loop-at.invariant.reads here.1 here.2;
      within = omega (arith, here.1, length-drop at text, c.loop-at.invariant.within);
      few = omega (arith, c.loop-at.invariant.few);
      room = c.loop-at.invariant.room;
    }

-- the word that was found stands in the copy of the text
pub cut-requires : goal.cut-requires
cut-requires c =
    let text = c.args.text.now in
    let at = c.loop-at.at in
    let found = subst (λ l. IsFoundAt l c.found_at.result) (take_rest text at) c.found_at.ensures in
    let here = subst (λ f. IsFoundAt (drop at text) f) c.in-Word.is found in
    subst (λ l. IsWordAt l at (at + c.in-Word.len)) (sym c.in_ok-shared.ensures.ok) (word_place text at c.in-Word.len c.loop-at.invariant.within here)

-- there is room for as many tokens as the text has bytes
pub push_reserved-requires : goal.push_reserved-requires
push_reserved-requires c = omega (arith, c.loop-at.items.ok.0, c.loop-at.invariant.few, c.loop-at.invariant.room, c.loop-at-test.true)

pub push_reserved-requires-in-Mark : goal.push_reserved-requires-in-Mark
push_reserved-requires-in-Mark c = omega (arith, c.loop-at.items.ok.0, c.loop-at.invariant.few, c.loop-at.invariant.room, c.loop-at-test.true)

pub push_reserved-requires-in-Number : goal.push_reserved-requires-in-Number
push_reserved-requires-in-Number c = omega (arith, c.loop-at.items.ok.0, c.loop-at.invariant.few, c.loop-at.invariant.room, c.loop-at-test.true)

pub push_reserved-requires-in-Some : goal.push_reserved-requires-in-Some
push_reserved-requires-in-Some c = omega (arith, c.loop-at.items.ok.0, c.loop-at.invariant.few, c.loop-at.invariant.room, c.loop-at-test.true)

pub loop-at-preserved-in-Word : goal.loop-at-preserved-in-Word
loop-at-preserved-in-Word c =
    let text = c.args.text.now in
    let at = c.loop-at.at in
    let len = c.in-Word.len in
    let found = subst (λ l. IsFoundAt l c.found_at.result) (take_rest text at) c.found_at.ensures in
    let here = subst (λ f. IsFoundAt (drop at text) f) c.in-Word.is found in
    let size : at + len - at ≡ len = omega arith in
    let cut : c.in_ok-word-in-Word.word ≡ take len (drop at text) = c.in_ok-word-in-Word.ensures ∙ ap (λ l. slice_range l at (at + len)) c.in_ok-shared.ensures.ok ∙ ap (λ m. take m (drop at text)) size in
    let pushed = c.push_reserved.ensures.items ∙ ap (λ s. c.loop-at.items.items ++ s ∷ []) c.spanned.ensures ∙ ap (λ w. c.loop-at.items.items ++ record { token = token.Word w; start = at; stop = at + len } ∷ []) cut in
    let next = steps_on text at len c.loop-at.items.items (token.Word (take len (drop at text))) c.loop-at.invariant.reads c.loop-at.invariant.within c.loop-at.invariant.few here _ pushed in
    record { reads = next.0; within = next.1; few = next.2; room = omega (arith, c.loop-at.invariant.room, c.push_reserved.ensures.capacity) }

pub loop-at-preserved-in-Mark : goal.loop-at-preserved-in-Mark
loop-at-preserved-in-Mark c =
    let text = c.args.text.now in
    let at = c.loop-at.at in
    let found = subst (λ l. IsFoundAt l c.found_at.result) (take_rest text at) c.found_at.ensures in
    let here = subst (λ f. IsFoundAt (drop at text) f) c.in-Mark.is found in
    let next = steps_on text at c.in-Mark.len c.loop-at.items.items (token.Mark c.in-Mark.mark) c.loop-at.invariant.reads c.loop-at.invariant.within c.loop-at.invariant.few here _ (c.push_reserved-in-Mark.ensures.items ∙ ap (λ s. c.loop-at.items.items ++ s ∷ []) c.marked.ensures) in
    record { reads = next.0; within = next.1; few = next.2; room = omega (arith, c.loop-at.invariant.room, c.push_reserved-in-Mark.ensures.capacity) }

pub loop-at-preserved-in-Number : goal.loop-at-preserved-in-Number
loop-at-preserved-in-Number c =
    let text = c.args.text.now in
    let at = c.loop-at.at in
    let found = subst (λ l. IsFoundAt l c.found_at.result) (take_rest text at) c.found_at.ensures in
    let here = subst (λ f. IsFoundAt (drop at text) f) c.in-Number.is found in
    let len = c.in-Number.len in
    let number = c.in-Number.number in
    let fits : SFits w64 number = search rules in
    let pushed = c.push_reserved-in-Number.ensures.items ∙ ap (λ s. c.loop-at.items.items ++ s ∷ []) c.spanned-in-Number.ensures ∙ ap (λ n. c.loop-at.items.items ++ record { token = token.Number n; start = at; stop = at + len } ∷ []) (to_z-of_z w64 number fits) in
    let next = steps_on text at len c.loop-at.items.items (token.Number number) c.loop-at.invariant.reads c.loop-at.invariant.within c.loop-at.invariant.few here _ pushed in
    record { reads = next.0; within = next.1; few = next.2; room = omega (arith, c.loop-at.invariant.room, c.push_reserved-in-Number.ensures.capacity) }

pub loop-at-preserved : goal.loop-at-preserved
loop-at-preserved c =
    let text = c.args.text.now in
    let at = c.loop-at.at in
    let read = subst (λ l. IsStringAt l c.in_ok-value-in-Quote.field-0) (take_rest text at) c.in_ok-value-in-Quote.ensures in
    let here = subst (λ s. IsStringAt (drop at text) s) c.in-Some.is read in
    let next = steps_on text at c.in-Some.len c.loop-at.items.items (token.Str c.in-Some.value) c.loop-at.invariant.reads c.loop-at.invariant.within c.loop-at.invariant.few here _ (c.push_reserved-in-Some.ensures.items ∙ ap (λ s. c.loop-at.items.items ++ s ∷ []) c.spanned-in-Some.ensures) in
    record { reads = next.0; within = next.1; few = next.2; room = omega (arith, c.loop-at.invariant.room, c.push_reserved-in-Some.ensures.capacity) }

bad : (c : goal.After-drop-shared-in-Nothing) → IsBadAt c.args.text.now c.loop-at.at
bad c =
    let text = c.args.text.now in
    let at = c.loop-at.at in
    let found = subst (λ l. IsFoundAt l c.found_at.result) (take_rest text at) c.found_at.ensures in
    reads_bad text at c.loop-at.items.items c.loop-at.invariant.reads c.loop-at-test.true (subst (λ f. IsFoundAt (drop at text) f) c.in-Nothing.is found)

pub returns-in-Nothing-clause-given : goal.returns-in-Nothing-clause-given
returns-in-Nothing-clause-given c = λ spanned r. (tt, absurd (tokens_exclude c.args.text.now spanned c.loop-at.at r (bad c)))

pub returns-in-Nothing-clause-told : goal.returns-in-Nothing-clause-told
returns-in-Nothing-clause-told c = λ place b. inl (ap BadToken (place_unique c.args.text.now c.loop-at.at place (bad c) b))

pub returns-in-Nothing-clause-fault : goal.returns-in-Nothing-clause-fault
returns-in-Nothing-clause-fault c = bad c

-- a quote that begins no string
unquoted : (c : goal.After-drop-shared-in-None) → IsBadAt c.args.text.now c.loop-at.at
unquoted c =
    let text = c.args.text.now in
    let at = c.loop-at.at in
    let read = subst (λ l. IsStringAt l c.in_ok-value-in-Quote.field-0) (take_rest text at) c.in_ok-value-in-Quote.ensures in
    reads_bad text at c.loop-at.items.items c.loop-at.invariant.reads c.loop-at-test.true (subst (λ s. IsStringAt (drop at text) s) c.in-None.is read)

pub returns-in-None-clause-given : goal.returns-in-None-clause-given
returns-in-None-clause-given c = λ spanned r. (tt, absurd (tokens_exclude c.args.text.now spanned c.loop-at.at r (unquoted c)))

pub returns-in-None-clause-told : goal.returns-in-None-clause-told
returns-in-None-clause-told c = λ place b. inl (ap BadToken (place_unique c.args.text.now c.loop-at.at place (unquoted c) b))

pub returns-in-None-clause-fault : goal.returns-in-None-clause-fault
returns-in-None-clause-fault c = unquoted c

pub returns-clause-tokens : goal.returns-clause-tokens
returns-clause-tokens c =
    let all = reads_end c.args.text.now c.loop-at.at c.loop-at.items.items c.loop-at.invariant.reads c.loop-at.invariant.within c.loop-at-test.false in
    subst (λ l. AreTokensOf c.args.text.now l) (sym (ap (λ t. t.spanned) c.of.ensures)) all

pub returns-clause-given : goal.returns-clause-given
returns-clause-given c = λ spanned r. (tokens_unique c.args.text.now c.of.result.spanned spanned (returns-clause-tokens c) r, tt)

pub returns-clause-told : goal.returns-clause-told
returns-clause-told c = λ place b. tokens_exclude c.args.text.now c.of.result.spanned place (returns-clause-tokens c) b
