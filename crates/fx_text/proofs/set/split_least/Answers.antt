use Rattle.std.proofs.Common.{sym}
use Rattle.fx_text.proofs.Merging.{split_first, split_second, split_less, split_equal, split_greater}
use Rattle.fx_text.proofs.set.split_least.Goals as goal

pub returns-in-Some-split_first : goal.returns-in-Some-split_first
returns-in-Some-split_first c =
    split_second c.args.a c.args.b c.in-Some-split_first.t.now c.in-Some-split_first.d c.requires.second c.in-None.ensures c.in-Some-split_first.ensures

pub returns-in-None-split_first-2 : goal.returns-in-None-split_first-2
returns-in-None-split_first-2 c =
    split_first c.args.a c.args.b c.in-Some.s.now c.in-Some.c c.requires.first c.in-Some.ensures c.in-None-split_first-2.ensures

pub returns-in-Less : goal.returns-in-Less
returns-in-Less c =
    split_less c.args.a c.args.b c.in-Some.s.now c.in-Some-split_first-2.t.now c.in-Some.c c.in-Some-split_first-2.d c.requires.first c.requires.second c.in-Some.ensures c.in-Some-split_first-2.ensures (sym c.in-Less.ensures)

pub returns-in-Equal : goal.returns-in-Equal
returns-in-Equal c =
    split_equal c.args.a c.args.b c.in-Some.s.now c.in-Some-split_first-2.t.now c.in-Some.c c.in-Some-split_first-2.d c.requires.first c.requires.second c.in-Some.ensures c.in-Some-split_first-2.ensures (sym c.in-Equal.ensures)

pub returns-in-Greater : goal.returns-in-Greater
returns-in-Greater c =
    split_greater c.args.a c.args.b c.in-Some.s.now c.in-Some-split_first-2.t.now c.in-Some.c c.in-Some-split_first-2.d c.requires.first c.requires.second c.in-Some.ensures c.in-Some-split_first-2.ensures (sym c.in-Greater.ensures)
