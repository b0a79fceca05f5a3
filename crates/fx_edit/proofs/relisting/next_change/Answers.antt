use Rattle.std.proofs.Common.{sym}
use Rattle.fx_edit.proofs.Relists.{passed_both, old_alone, new_alone, old_less, new_less}
use Rattle.fx_edit.proofs.relisting.next_change.Goals as goal

pub returns-in-None-clause-left : goal.returns-in-None-clause-left
returns-in-None-clause-left c =
    (old_alone c.args.olds.now c.args.news.now c.loop-name.olds c.loop-name.news c.loop-name.invariant c.in-Some.name.now c.in-Some.rest c.in-Some.ensures c.in-None.ensures).0

pub returns-in-None-clause-next : goal.returns-in-None-clause-next
returns-in-None-clause-next c =
    (old_alone c.args.olds.now c.args.news.now c.loop-name.olds c.loop-name.news c.loop-name.invariant c.in-Some.name.now c.in-Some.rest c.in-Some.ensures c.in-None.ensures).1

pub returns-in-Less-clause-left : goal.returns-in-Less-clause-left
returns-in-Less-clause-left c =
    (old_less c.args.olds.now c.args.news.now c.loop-name.olds c.loop-name.news c.loop-name.invariant c.in-Some.name.now c.in-Some-split_first.other.now c.in-Some.rest c.in-Some-split_first.others c.in-Some.ensures c.in-Some-split_first.ensures (sym c.in-Less.ensures)).0

pub returns-in-Less-clause-next : goal.returns-in-Less-clause-next
returns-in-Less-clause-next c =
    (old_less c.args.olds.now c.args.news.now c.loop-name.olds c.loop-name.news c.loop-name.invariant c.in-Some.name.now c.in-Some-split_first.other.now c.in-Some.rest c.in-Some-split_first.others c.in-Some.ensures c.in-Some-split_first.ensures (sym c.in-Less.ensures)).1

pub loop-name-preserved : goal.loop-name-preserved
loop-name-preserved c =
    passed_both c.args.olds.now c.args.news.now c.loop-name.olds c.loop-name.news c.loop-name.invariant c.in-Some.name.now c.in-Some-split_first.other.now c.in-Some.rest c.in-Some-split_first.others c.in-Some.ensures c.in-Some-split_first.ensures (sym c.in-Equal.ensures)

pub returns-in-Greater-clause-left : goal.returns-in-Greater-clause-left
returns-in-Greater-clause-left c =
    (new_less c.args.olds.now c.args.news.now c.loop-name.olds c.loop-name.news c.loop-name.invariant c.in-Some.name.now c.in-Some-split_first.other.now c.in-Some.rest c.in-Some-split_first.others c.in-Some.ensures c.in-Some-split_first.ensures (sym c.in-Greater.ensures)).0

pub returns-in-Greater-clause-next : goal.returns-in-Greater-clause-next
returns-in-Greater-clause-next c =
    (new_less c.args.olds.now c.args.news.now c.loop-name.olds c.loop-name.news c.loop-name.invariant c.in-Some.name.now c.in-Some-split_first.other.now c.in-Some.rest c.in-Some-split_first.others c.in-Some.ensures c.in-Some-split_first.ensures (sym c.in-Greater.ensures)).1

pub returns-in-Some-split_first-2-clause-left : goal.returns-in-Some-split_first-2-clause-left
returns-in-Some-split_first-2-clause-left c =
    (new_alone c.args.olds.now c.args.news.now c.loop-name.olds c.loop-name.news c.loop-name.invariant c.in-Some-split_first-2.other.now c.in-Some-split_first-2.others c.in_default.ensures c.in-Some-split_first-2.ensures).0

pub returns-in-Some-split_first-2-clause-next : goal.returns-in-Some-split_first-2-clause-next
returns-in-Some-split_first-2-clause-next c =
    (new_alone c.args.olds.now c.args.news.now c.loop-name.olds c.loop-name.news c.loop-name.invariant c.in-Some-split_first-2.other.now c.in-Some-split_first-2.others c.in_default.ensures c.in-Some-split_first-2.ensures).1
