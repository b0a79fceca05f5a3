use Rattle.fx_table.proofs.Prelude.{◌≡◌, Some, ap, sym, ◌∙◌, slice_get, slice_get-get_or, lines_in, has_flags}
use Rattle.fx_table.proofs.Flagging.{flag_within}
use Rattle.fx_table.proofs.lines.has_flags.Goals as goal

pub returns-then-is_flag : goal.returns-then-is_flag
returns-then-is_flag c =
    let cs = c.as_slice-line-items.result.now in
    let there : slice_get cs c.loop-line.line-index ≡ Some c.line-item.result = slice_get-get_or cs c.loop-line.line-index c.line-item.result c.loop-line-test.true ∙ ap (λ x. Some x) (sym c.line-item.is) in
    sym (ap (λ l. has_flags (lines_in l)) (sym c.as_slice-line-items.ensures.changes) ∙ flag_within cs c.loop-line.line-index c.line-item.result there (sym c.is_flag.ensures ∙ c.if-is_flag.true))
