use Rattle.std.proofs.Common.{◌+◌, nat_eq, length, ap, sym, subst, ◌∙◌}
use Rattle.std.proofs.lemmas.Bool.{both_ways}
use Rattle.std.proofs.lemmas.List.{take_rest}
use Rattle.fx_base.proofs.Lists.{no_length}
use Rattle.fx_read_report.specs.Stages.{State, state_of}
use Rattle.fx_read_report.proofs.FirstBad.{Reached, reached_more, reached_none}
use Rattle.fx_read_report.proofs.Reporting.{bad_line, bad_rest, read_as}
use Rattle.fx_read_report.proofs.Texts.{reports}
use Rattle.fx_read_report.proofs.report.read_report.Goals as goal

pub reading-init : goal.reading-init
reading-init c = subst (λ (s : State). Reached reports c.args.bytes.now s c.args.bytes.now 1) (sym c.new-reading.ensures) (reached_none reports c.args.bytes.now)

pub returns-then-not-branch-clause-cause : goal.returns-then-not-branch-clause-cause
returns-then-not-branch-clause-cause c =
    bad_line c.args.bytes.now (state_of c.reading.reading) (state_of c.take_text.new.reading) c.reading.rest.now c.reading.number c.in-Some.end c.reading.invariant c.in-Some.ensures (rw c.if-not-branch.true at c.in_ok-take_text.ensures)

pub reading-preserved : goal.reading-preserved
reading-preserved c =
    reached_more reports c.args.bytes.now (state_of c.reading.reading) (state_of c.take_text.new.reading) c.reading.rest.now _ c.reading.number c.in-Some.end c.reading.invariant c.in-Some.ensures (rw c.if-not-branch.false at c.in_ok-take_text.ensures) (take_rest c.reading.rest.now (c.in-Some.end + 1))

pub returns-then-not-is_empty-clause-cause : goal.returns-then-not-is_empty-clause-cause
returns-then-not-is_empty-clause-cause c =
    bad_rest c.args.bytes.now (state_of c.reading.reading) c.reading.rest.now c.reading.number c.reading.invariant c.in_default.ensures (λ none ended. both_ways _ (sym c.is_empty.ensures ∙ c.if-not-is_empty.true) (ap (λ x. nat_eq (length x) 0) none))

pub returns-then-not-is_ended-clause-cause : goal.returns-then-not-is_ended-clause-cause
returns-then-not-is_ended-clause-cause c =
    bad_rest c.args.bytes.now (state_of c.reading.reading) c.reading.rest.now c.reading.number c.reading.invariant c.in_default.ensures (λ none ended. both_ways _ (sym c.is_ended.ensures ∙ c.if-not-is_ended.true) ended)

pub returns-clause-read : goal.returns-clause-read
returns-clause-read c =
    let none = no_length c.reading.rest.now (sym c.is_empty.ensures ∙ c.if-not-is_empty.false) in
    read_as c.args.bytes.now (state_of c.reading.reading) c.reading.number _ _ (subst (λ x. Reached reports c.args.bytes.now (state_of c.reading.reading) x c.reading.number) none c.reading.invariant) (sym c.is_ended.ensures ∙ c.if-not-is_ended.false) c.in_ok-entries.ensures.entries c.in_ok-entries.ensures.retries
