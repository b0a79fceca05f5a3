use Rattle.fx_edit.proofs.Naming.{named_by}
use Rattle.fx_edit.proofs.nodes.next_name.Goals as goal

pub returns-in_ok-copy-in-Some : goal.returns-in_ok-copy-in-Some
returns-in_ok-copy-in-Some c = named_by c.args.text.now c.in-Some.name.now c.in_ok-copy-in-Some.field-0 c.in_ok-copy-in-Some.ensures.copied c.in-Some.ensures c.in_ok-copy-in-Some.ensures.name
