use Rattle.std.proofs.Common.{◌<◌, ◌≤◌, ◌+◌, length, Err, refl, sym, ◌∙◌, ap, subst, arith}
use Rattle.std.proofs.lemmas.List.{take_rest, length-map}
use Rattle.fx_base.specs.Limits.{txn_limit}
use Rattle.fx_durable.specs.Journal.{turn_of, turns_of, turn_in}
use Rattle.fx_durable.proofs.Spelling.{IsReadTo, begins, ends, goes_on, is_full, is_cut, turns-push}
use Rattle.fx_durable.proofs.reading.read_pairs.Goals as goal

pub records-init : goal.records-init
records-init c = begins c.args.bytes.now _ (ap turns_of c.new-pairs.ensures)

pub returns-then-number-ge-TXN_LIMIT-clause-reads : goal.returns-then-number-ge-TXN_LIMIT-clause-reads
returns-then-number-ge-TXN_LIMIT-clause-reads c =
    let count = length-map c.records.pairs turn_of in
    is_full c.args.bytes.now (turns_of c.records.pairs) c.records.place c.records.invariant (sym c.is_open.ensures.open ∙ c.records-test.true) (omega (arith, count, c.len-number.ensures, c.if-number-ge-TXN_LIMIT.true)) ∙ ap (λ n. Err n) (count ∙ sym c.len-number.ensures)

pub returns-in_default-clause-reads : goal.returns-in_default-clause-reads
returns-in_default-clause-reads c =
    let bytes = c.args.bytes.now in
    let rest = take_rest bytes (c.records.place + 1) in
    is_cut bytes (turns_of c.records.pairs) c.records.place c.records.invariant (sym c.is_open.ensures.open ∙ c.records-test.true) (subst (λ l. length l < 8) rest (c.in_default.ensures.none refl)) ∙ ap (λ n. Err n) (length-map c.records.pairs turn_of ∙ sym c.len-number.ensures)

pub records-preserved : goal.records-preserved
records-preserved c =
    let bytes = c.args.bytes.now in
    let rest = take_rest bytes (c.records.place + 1) in
    let pair = c.in-Some.pair in
    let long = subst (λ l. 8 ≤ length l) rest c.in-Some.ensures.some.0 in
    let is = c.in-Some.ensures.some.1 ∙ ap turn_in rest in
    let room : length (turns_of c.records.pairs) < txn_limit = omega (arith, length-map c.records.pairs turn_of, c.len-number.ensures, c.if-number-ge-TXN_LIMIT.false) in
    subst (λ order. IsReadTo bytes order (c.records.place + 9)) (sym (ap turns_of c.in_ok-push.ensures.ok ∙ turns-push c.records.pairs pair)) (goes_on bytes (turns_of c.records.pairs) c.records.place c.records.invariant (turn_of pair) (sym c.is_open.ensures.open ∙ c.records-test.true) room long is)

pub returns-clause-reads : goal.returns-clause-reads
returns-clause-reads c = ends c.args.bytes.now (turns_of c.records.pairs) c.records.place c.records.invariant (sym c.is_open.ensures.open ∙ c.records-test.false)
