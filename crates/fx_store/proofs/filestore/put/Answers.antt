use Rattle.std.proofs.Common.{sym, ap, ◌∙◌}
use Rattle.std.specs.Map.{keys_of}
use Rattle.std.specs.Ordering.{eq_by_cmp}
use Rattle.std.proofs.lemmas.Result.{IfOk-at_ok}
use Rattle.indexmap.proofs.CallerLemmas.{keys-insert_entry-present}
use Rattle.fx_store.specs.Names.{path_cmp}
use Rattle.fx_store.proofs.Tables.{nodes_of_absent, nodes_of_put}
use Rattle.fx_store.proofs.filestore.put.Goals as goal

pub returns-then-not-contains_key-clause-nodes : goal.returns-then-not-contains_key-clause-nodes
returns-then-not-contains_key-clause-nodes c = nodes_of_absent _ c.args.change.path c.args.change.node (sym c.if-not-contains_key.ensures) c.requires

pub returns-clause-nodes : goal.returns-clause-nodes
returns-clause-nodes c = nodes_of_put _ _ c.args.change.path c.args.change.node (IfOk-at_ok _ c.unwrap.ensures c.insert.ensures.updates).0

pub returns-clause-places : goal.returns-clause-places
returns-clause-places c =
    ap keys_of (IfOk-at_ok _ c.unwrap.ensures c.insert.ensures.entries) ∙ keys-insert_entry-present (eq_by_cmp path_cmp) c.args.table.now c.args.change.path c.args.change.node (sym c.if-not-contains_key.ensures)
