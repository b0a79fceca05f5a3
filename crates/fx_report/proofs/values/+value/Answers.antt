use Rattle.std.proofs.Common.{◌<◌, length, sym, ◌∙◌, arith, append_assoc, refl}
use Rattle.fx_report.specs.Print.{comma, row_text}
use Rattle.fx_report.proofs.Rows.{all_rows, row_at, table_text}
use Rattle.fx_base.proofs.Lists.{not_past}
use Rattle.fx_report.proofs.Steps.{join_by_next}
use Rattle.fx_report.proofs.values.+value.Goals as goal
use Rattle.fx_report.proofs.values.+value.Goals.{add_rows-in-Some+in_ok-add_row, add_rows-in_default}

pub add_rows-loop-i-preserved : goal.add_rows-loop-i-preserved
add_rows-loop-i-preserved t c =
    elim c.match-at.branch [
      | add_rows-in-Some+in_ok-add_row w ↦
          let row = row_at c.args.keys.now c.args.values.now c.loop-i.i _ c.index-values-i.result (sym w.in-Some.ensures) (omega arith) c.index-values-i.is in
          let next = join_by_next row_text comma _ c.loop-i.i _ row in
          rw (w.out-is, next, w.in_ok-add_row.ensures, c.loop-i.invariant) (simp append_assoc)
      | add_rows-in_default w ↦
          let inside : c.loop-i.i < length c.args.keys.now = omega (arith, c.requires) in
          absurd (not_past _ _ inside (sym w.in_default.ensures))
    ]

pub add_rows-returns : goal.add_rows-returns
add_rows-returns t c =
    let whole = all_rows c.args.keys.now c.args.values.now c.loop-i.i c.requires (omega arith) in
    c.loop-i.invariant ∙ rw whole refl

pub add_value-returns-in_ok-add_bytes-in-Table-2 : goal.add_value-returns-in_ok-add_bytes-in-Table-2
add_value-returns-in_ok-add_bytes-in-Table-2 t c =
    let text = table_text c.in-Table.rows in
    rw (c.in_ok-add_bytes-in-Table-2.ensures, c.in_ok-add_rows-in-Table.ensures, c.in_ok-add_bytes-in-Table.ensures, c.in-Table.is, text, c.keys.ensures, c.values.ensures) (simp append_assoc)
