use Rattle.std.proofs.Common.{◌+◌, length}
use Rattle.fx_edit.proofs.Relists.{IsRelisting}
use Rattle.fx_edit.proofs.relisting.change_entries.Given as goal

abbrev pub invariant-loop-name : goal.invariant-loop-name
invariant-loop-name g l =
    IsRelisting g.R.Reader.meaning l.list.path l.list.old l.list.new l.initial.session l.session l.initial.edits l.edits l.olds l.news

abbrev pub decreases-loop-name : goal.decreases-loop-name
decreases-loop-name g l = length l.olds + length l.news
