use Rattle.fx_table.proofs.Prelude.{sym, ap, ◌∙◌, option_copied, get}
use Rattle.fx_table.proofs.Descents.{stepped, child_there, next_below, next_in, gone}
use Rattle.fx_table.proofs.descent.step.Goals as goal

pub unreachable-requires : goal.unreachable-requires
unreachable-requires c =
    let nodes = c.args.store.now.nodes in
    gone (get nodes c.in_ok-path.path) (sym c.in_ok-node.ensures.node ∙ ap option_copied c.in-None.is) (child_there nodes c.requires.whole c.args.level c.in_ok-path.path c.requires.level c.in_ok-path.ensures)

pub returns-clause-next : goal.returns-clause-next
returns-clause-next c =
    let nodes = c.args.store.now.nodes in
    record {
      some = next_below c.args.level c.in_ok-path.path c.in_ok-path.ensures;
      node = sym c.in_ok-node.ensures.node ∙ ap option_copied c.in-Some.is;
      next = stepped nodes c.requires.whole c.args.levels.now.items c.go_on.new.levels.items c.enter.new.levels.items c.args.level c.in_ok-path.path c.in_ok-path.ensures
          (child_there nodes c.requires.whole c.args.level c.in_ok-path.path c.requires.level c.in_ok-path.ensures) (c.in_ok-go_on.ensures.left nodes) c.in_ok-node.ensures.left;
      parent = next_in c.args.level c.in_ok-parent.parent c.in_ok-path.path c.in_ok-parent.ensures c.in_ok-path.ensures;
    }
