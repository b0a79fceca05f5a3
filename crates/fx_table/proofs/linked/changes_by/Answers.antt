use Rattle.fx_table.proofs.Prelude.{ap, ◌∙◌, over_nodes}
use Rattle.fx_table.proofs.Reaching.{bare_set, bare_merge, all_is, all_set, bare_sets, all_listed, kept_ascend, makes_lines}
use Rattle.fx_table.proofs.linked.changes_by.Goals as goal

pub merged-requires-clause-found : goal.merged-requires-clause-found
merged-requires-clause-found c = bare_set c.args.store.now.nodes c.in_ok-bare.ensures.whole c.args.lines c.requires c.in_ok-bare.bare.items c.in_ok-bare.ensures.bare

pub merged-requires-clause-merge : goal.merged-requires-clause-merge
merged-requires-clause-merge c = bare_merge c.args.store.now.nodes c.in_ok-bare.ensures.whole c.args.lines c.requires c.in_ok-bare.bare.items c.in_ok-bare.ensures.bare

pub list_names-requires-clause-set : goal.list_names-requires-clause-set
list_names-requires-clause-set c = all_set c.args.store.now.nodes c.in_ok-bare.ensures.whole c.args.lines c.requires c.in_ok-bare.bare.items c.in_ok-all.all.items c.in_ok-bare.ensures.bare c.in_ok-all.ensures

pub list_names-requires-clause-sets : goal.list_names-requires-clause-sets
list_names-requires-clause-sets c = bare_sets c.args.store.now.nodes c.in_ok-bare.ensures.whole c.args.lines c.requires c.in_ok-all.all.items (all_is c.args.store.now.nodes c.in_ok-bare.ensures.whole c.args.lines c.requires c.in_ok-bare.bare.items c.in_ok-all.all.items c.in_ok-bare.ensures.bare c.in_ok-all.ensures)

pub from_vec-requires : goal.from_vec-requires
from_vec-requires c = kept_ascend c.args.store.now.nodes c.in_ok-bare.ensures.whole c.args.lines c.requires c.list_names.new.found.items c.in_ok-kept_of.field-0.items (all_listed c.args.store.now.nodes c.in_ok-bare.ensures.whole c.args.lines c.requires c.in_ok-bare.bare.items c.in_ok-all.all.items c.list_names.new.found.items c.in_ok-bare.ensures.bare c.in_ok-all.ensures c.in_ok-list_names.ensures) c.in_ok-kept_of.ensures

pub returns : goal.returns
returns c =
    ap (over_nodes c.args.store.now.nodes) c.from_vec.ensures
    ∙ makes_lines c.args.store.now.nodes c.in_ok-bare.ensures.whole c.args.lines c.requires c.list_names.new.found.items c.in_ok-kept_of.field-0.items (all_listed c.args.store.now.nodes c.in_ok-bare.ensures.whole c.args.lines c.requires c.in_ok-bare.bare.items c.in_ok-all.all.items c.list_names.new.found.items c.in_ok-bare.ensures.bare c.in_ok-all.ensures c.in_ok-list_names.ensures) c.in_ok-kept_of.ensures
