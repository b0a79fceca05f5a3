use Rattle.std.proofs.Common.{◌≡◌, [], rules}
use Rattle.fx_read_report.specs.Limits.{strict}
use Rattle.fx_read_report.specs.Values.{text_at}
use Rattle.fx_read_report.proofs.ValueLoops.{closes, going_more, going_none, no_comma, no_piece, too_many}
use Rattle.fx_read_report.proofs.values.texts.Goals as goal

pub loop-i-init : goal.loop-i-init
loop-i-init c =
    let none : c.new-texts.result.items ≡ [] = search rules in
    going_none (text_at strict) 125 c.args.most c.args.bytes.now c.new-texts.result.items none

pub returns-in-Some : goal.returns-in-Some
returns-in-Some c = closes (text_at strict) 125 c.args.most c.args.bytes.now c.loop-i.i c.loop-i.texts.items c.loop-i.rest.now c.in-Some.end.now c.loop-i.invariant c.loop-i-test.true c.in-Some.ensures

pub returns-in_default-piece_at : goal.returns-in_default-piece_at
returns-in_default-piece_at c = no_comma (text_at strict) 125 c.args.most c.args.bytes.now c.loop-i.i c.loop-i.texts.items c.loop-i.rest.now c.loop-i.invariant c.loop-i-test.true c.in_default.ensures c.in_default-piece_at.ensures

pub returns-in_default-2 : goal.returns-in_default-2
returns-in_default-2 c = no_piece (text_at strict) 125 c.args.most c.args.bytes.now c.loop-i.i c.loop-i.texts.items c.loop-i.rest.now c.in-Some-piece_at.start.now c.loop-i.invariant c.loop-i-test.true c.in_default.ensures c.in-Some-piece_at.ensures (rw c.in_default-2.is at c.in_ok-text.ensures)

pub loop-i-preserved : goal.loop-i-preserved
loop-i-preserved c =
    going_more (text_at strict) 125 c.args.most c.args.bytes.now c.loop-i.i c.loop-i.texts.items c.push.new.self.items c.loop-i.rest.now c.in-Some-piece_at.start.now c.in-Some-2.text c.in-Some-2.behind.now
    c.loop-i.invariant c.loop-i-test.true c.in_default.ensures c.in-Some-piece_at.ensures (rw c.in-Some-2.is at c.in_ok-text.ensures) c.in_ok-push.ensures.items

pub returns : goal.returns
returns c = too_many (text_at strict) 125 c.args.most c.args.bytes.now c.loop-i.i c.loop-i.texts.items c.loop-i.rest.now c.loop-i.invariant c.loop-i-test.false
