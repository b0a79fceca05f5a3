use Rattle.fx_table.proofs.Prelude.{rules, arith, always_returns_same, path_cmp}
use Rattle.fx_table.proofs.Searching.{rises_in, found_in, absent_in}
use Rattle.fx_table.proofs.ground.node_in.Goals as goal

pub returns-in-Ok : goal.returns-in-Ok
returns-in-Ok c =
    let found = c.in-Ok.ensures.position (λ x. path_cmp x.path c.args.path.now) (always_returns_same _ _ _ (λ a r f called. (search rules, search rules))) in
    found_in c.args.changes.now c.as_slice-changes.result.now c.in-Ok.i c.args.path.now c.index-changes-i.result _ c.as_slice-changes.ensures.changes c.as_slice-changes.ensures.ascending c.in-Ok.ensures.bound (found c.index-changes-i.result) c.as_ref.ensures.value

pub returns-in-Err : goal.returns-in-Err
returns-in-Err c =
    let gap = c.in-Err.ensures.position (λ x. path_cmp x.path c.args.path.now) (always_returns_same _ _ _ (λ a r f called. (search rules, search rules))) in
    let parted = gap (rises_in c.args.changes.now c.as_slice-changes.result.now c.args.path.now c.as_slice-changes.ensures.changes c.as_slice-changes.ensures.ascending) in
    absent_in c.args.changes.now c.as_slice-changes.result.now c.in-Err.field-0 c.args.path.now c.as_slice-changes.ensures.changes c.as_slice-changes.ensures.ascending (λ j d lt. parted.0 j d (omega arith) lt) (λ j d le lt. parted.1 j d le lt)
