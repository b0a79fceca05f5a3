use Rattle.std.proofs.Common.{◌≡◌, [], length, sym, ap, ◌∙◌, arith, rules}
use Rattle.fx_expr.specs.Views.{tree_of}
use Rattle.fx_read_report.specs.Limits.{ascends, strict}
use Rattle.fx_read_report.specs.Values.{row_at, value_at}
use Rattle.fx_read_report.specs.declared.values.Kind.TheVariants as kind
use Rattle.fx_read_report.proofs.ValueLoops.{ascends_is, at_level, closes, going_more, going_none, lengths_push, no_comma, no_piece, sides, sides_more, sides_none, table_falls, table_stands, too_many}
use Rattle.fx_read_report.proofs.values.+value.Goals as goal

pub rows-loop-i-init : goal.rows-loop-i-init
rows-loop-i-init t c =
    let keys : c.new-keys.result.items ≡ [] = search rules in
    let values : c.new-values.result.items ≡ [] = search rules in
    record {
      going = going_none (row_at strict (value_at strict c.args.levels)) 93 c.args.most c.args.bytes.now (sides c.new-keys.result.items c.new-values.result.items) (sides_none c.new-keys.result.items c.new-values.result.items keys);
      same = ap length values ∙ sym (ap length keys);
    }

pub rows-returns-in-Some-clause-found : goal.rows-returns-in-Some-clause-found
rows-returns-in-Some-clause-found t c =
    closes (row_at strict (value_at strict c.args.levels)) 93 c.args.most c.args.bytes.now c.loop-i.i (sides c.loop-i.keys.items c.loop-i.values.items) c.loop-i.rest.now c.in-Some.end.now c.loop-i.invariant.going c.loop-i-test.true c.in-Some.ensures

pub rows-returns-in_default-piece_at-clause-found : goal.rows-returns-in_default-piece_at-clause-found
rows-returns-in_default-piece_at-clause-found t c =
    no_comma (row_at strict (value_at strict c.args.levels)) 93 c.args.most c.args.bytes.now c.loop-i.i (sides c.loop-i.keys.items c.loop-i.values.items) c.loop-i.rest.now c.loop-i.invariant.going c.loop-i-test.true c.in_default.ensures c.in_default-piece_at.ensures

pub rows-returns-in_default-2-clause-found : goal.rows-returns-in_default-2-clause-found
rows-returns-in_default-2-clause-found t c =
    no_piece (row_at strict (value_at strict c.args.levels)) 93 c.args.most c.args.bytes.now c.loop-i.i (sides c.loop-i.keys.items c.loop-i.values.items) c.loop-i.rest.now c.in-Some-piece_at.start.now c.loop-i.invariant.going c.loop-i-test.true c.in_default.ensures c.in-Some-piece_at.ensures (rw c.in_default-2.is at c.in_ok-key.ensures)

pub rows-loop-i-preserved : goal.rows-loop-i-preserved
rows-loop-i-preserved t c =
    let grown = sides_more c.loop-i.keys.items c.push.new.self.items c.loop-i.values.items c.push-in-loop-i.new.self.items c.in-Some-2.key c.in-Some-2.value c.loop-i.invariant.same c.in_ok-push.ensures.items c.in_ok-push-2.ensures.items in
    record {
      going =
          going_more (row_at strict (value_at strict c.args.levels)) 93 c.args.most c.args.bytes.now c.loop-i.i (sides c.loop-i.keys.items c.loop-i.values.items) (sides c.push.new.self.items c.push-in-loop-i.new.self.items) c.loop-i.rest.now c.in-Some-piece_at.start.now (c.in-Some-2.key, tree_of c.in-Some-2.value) c.in-Some-2.behind.now
          c.loop-i.invariant.going c.loop-i-test.true c.in_default.ensures c.in-Some-piece_at.ensures (rw c.in-Some-2.is at c.in_ok-key.ensures) grown;
      same = lengths_push c.loop-i.keys.items c.push.new.self.items c.loop-i.values.items c.push-in-loop-i.new.self.items c.in-Some-2.key c.in-Some-2.value c.loop-i.invariant.same c.in_ok-push.ensures.items c.in_ok-push-2.ensures.items;
    }

pub rows-returns-clause-found : goal.rows-returns-clause-found
rows-returns-clause-found t c =
    too_many (row_at strict (value_at strict c.args.levels)) 93 c.args.most c.args.bytes.now c.loop-i.i (sides c.loop-i.keys.items c.loop-i.values.items) c.loop-i.rest.now c.loop-i.invariant.going c.loop-i-test.false

pub table_value-returns-then-not-is_ascending : goal.table_value-returns-then-not-is_ascending
table_value-returns-then-not-is_ascending t c =
    let sides : length c.in-Some-2.values.items ≡ length c.in-Some-2.keys.items = rw c.in-Some-2.is at c.in_ok-keys.ensures.sides in
    table_falls c.args.levels c.args.bytes.now c.in-Some.inner.now c.in-Some-2.keys.items c.in-Some-2.values.items c.in-Some-2.rest.now sides c.in-Some.ensures (rw c.in-Some-2.is at c.in_ok-keys.ensures.found) (ap ascends (sym c.deref.ensures.value) ∙ sym c.is_ascending.ensures ∙ c.if-not-is_ascending.true)

pub table_value-from_ascending-requires : goal.table_value-from_ascending-requires
table_value-from_ascending-requires t c = ascends_is c.in-Some-2.keys.items (ap ascends (sym c.deref.ensures.value) ∙ sym c.is_ascending.ensures ∙ c.if-not-is_ascending.false)

pub table_value-returns : goal.table_value-returns
table_value-returns t c =
    let sides : length c.in-Some-2.values.items ≡ length c.in-Some-2.keys.items = rw c.in-Some-2.is at c.in_ok-keys.ensures.sides in
    table_stands c.args.levels c.args.bytes.now c.in-Some.inner.now c.in-Some-2.keys.items c.in-Some-2.values.items c.in-Some-2.rest.now _ _ sides c.in_ok-keys-2.ensures c.from_parts.ensures c.in-Some.ensures (rw c.in-Some-2.is at c.in_ok-keys.ensures.found) (ap ascends (sym c.deref.ensures.value) ∙ sym c.is_ascending.ensures ∙ c.if-not-is_ascending.false)

pub value-returns-in-Text : goal.value-returns-in-Text
value-returns-in-Text t c = at_level c.args.levels c.args.bytes.now kind.Text _ (omega arith) c.in-Text.ensures c.text_value.ensures

pub value-returns-in-Names : goal.value-returns-in-Names
value-returns-in-Names t c = at_level c.args.levels c.args.bytes.now kind.Names _ (omega arith) c.in-Names.ensures c.names_value.ensures

pub value-returns-in-Pair : goal.value-returns-in-Pair
value-returns-in-Pair t c = at_level c.args.levels c.args.bytes.now kind.Pair _ (omega arith) c.in-Pair.ensures c.pair_value.ensures

pub value-returns-in-Some : goal.value-returns-in-Some
value-returns-in-Some t c = at_level c.args.levels c.args.bytes.now kind.Some _ (omega arith) c.in-Some.ensures c.some_value.ensures

pub value-returns-in-Table : goal.value-returns-in-Table
value-returns-in-Table t c = at_level c.args.levels c.args.bytes.now kind.Table _ (omega arith) c.in-Table.ensures c.table_value.ensures
