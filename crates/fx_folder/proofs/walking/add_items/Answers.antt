use Rattle.fx_folder.proofs.Prelude.{◌≡◌, ◌+◌, ◌-◌, ◌++◌, ◌∷◌, [], sym, ◌∙◌, ap, arith, entries, len-entries}
use Rattle.fx_folder.proofs.Items.{nothing_left, not_past, one_item, no_item}
use Rattle.fx_folder.proofs.walking.add_items.Goals as goal

pub loop-i-init : goal.loop-i-init
loop-i-init c = nothing_left c.args.parent.now (entries c.args.names.now) c.len-i.result c.args.todo.now.items (omega (arith, c.len-i.ensures, len-entries c.args.names.now))

pub unreachable-requires : goal.unreachable-requires
unreachable-requires c = not_past (entries c.args.names.now) (c.loop-i.i - 1) (omega (arith, c.len-i.ensures, len-entries c.args.names.now, c.loop-i.auto.i, c.loop-i-test.true)) c.in_default.ensures

pub loop-i-preserved-in_ok-push : goal.loop-i-preserved-in_ok-push
loop-i-preserved-in_ok-push c =
    let next : c.loop-i.i ≡ c.loop-i.i - 1 + 1 = omega (arith, c.loop-i-test.true) in
    c.in_ok-push.ensures.items ∙ (ap (λ x. c.loop-i.todo.items ++ x ∷ []) c.in_ok-new_item.ensures
    ∙ one_item c.args.parent.now (entries c.args.names.now) (c.loop-i.i - 1) c.loop-i.i c.in-Some.name.now c.in-Some.kind.now c.args.todo.now.items c.loop-i.todo.items next c.in-Some.ensures c.loop-i.invariant (sym c.is_table.ensures ∙ c.if-not-is_table.true))

pub loop-i-preserved : goal.loop-i-preserved
loop-i-preserved c =
    let next : c.loop-i.i ≡ c.loop-i.i - 1 + 1 = omega (arith, c.loop-i-test.true) in
    no_item c.args.parent.now (entries c.args.names.now) (c.loop-i.i - 1) c.loop-i.i c.in-Some.name.now c.in-Some.kind.now c.args.todo.now.items c.loop-i.todo.items next c.in-Some.ensures c.loop-i.invariant (sym c.is_table.ensures ∙ c.if-not-is_table.false)
