use Rattle.std.proofs.Common.{◌+◌, ◌++◌, ◌≤◌, drop, length, refl, sym, ap, ◌∙◌, arith, append_assoc, append-nil}
use Rattle.std.proofs.lemmas.List.{drop_all}
use Rattle.fx_base.proofs.Lists.{drop_next}
use Rattle.fx_report.specs.Entries.{entries_of}
use Rattle.fx_report.specs.Report.{entries_text}
use Rattle.fx_report.proofs.Logs.{entry_there, entries_of_length}
use Rattle.fx_report.proofs.lines.add_log.Goals as goal
use Rattle.fx_report.proofs.lines.add_log.Goals.{in-Some+in_ok-add_settled, in_default}

pub loop-i-preserved : goal.loop-i-preserved
loop-i-preserved c =
    elim c.match-entry.branch [
      | in-Some+in_ok-add_settled w ↦
          let es = entries_of c.args.board.now.base c.args.board.now.order in
          let next = drop_next es c.loop-i.i _ (entry_there c.args.board.now c.loop-i.i _ w.in-Some.ensures.entry) in
          let so_far = ap (λ ds. c.loop-i.out.items ++ entries_text c.loop-i.i ds) (sym next) ∙ c.loop-i.invariant in
          rw (w.out-is, w.in_ok-add_settled.ensures) (append_assoc c.loop-i.out.items _ (entries_text (c.loop-i.i + 1) (drop (c.loop-i.i + 1) es)) ∙ so_far)
      | in_default w ↦ let past : length c.args.board.now.order ≤ c.loop-i.i = w.in_default.ensures.none.0 refl in absurd (omega arith)
    ]

pub returns : goal.returns
returns c =
    let es = entries_of c.args.board.now.base c.args.board.now.order in
    let all : length es ≤ c.loop-i.i = omega (arith, entries_of_length c.args.board.now.base c.args.board.now.order) in
    sym (append-nil c.loop-i.out.items) ∙ (ap (λ ds. c.loop-i.out.items ++ entries_text c.loop-i.i ds) (sym (drop_all c.loop-i.i es all)) ∙ c.loop-i.invariant)
