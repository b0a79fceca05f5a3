use Rattle.fx_base.proofs.Results.{OnErr-from}
use Rattle.fx_folder.proofs.Writes.{opened, free_for_table, saved_all, stopped_in_table, stopped_in_front, stopped_at_folder}
use Rattle.fx_folder.proofs.saving.save.Goals as goal

pub returns-in_err-make_folder-clause-part : goal.returns-in_err-make_folder-clause-part
returns-in_err-make_folder-clause-part g c =
    OnErr-from _ _ (stopped_at_folder (g.H.Host.view c.args.host.now).told _ c.args.folder.now c.args.there c.args.store.now.nodes (record { whole = g.met.H.Host.whole c.args.host.now; ready = c.requires.ready; stored = c.in_ok-descent.ensures.whole }) c.in_err-make_folder.ensures.partly)

pub write_entries-requires-clause-open : goal.write_entries-requires-clause-open
write_entries-requires-clause-open g c =
    opened (g.H.Host.view c.args.host.now).told _ c.args.folder.now c.args.there (g.met.H.Host.whole c.args.host.now) c.requires.ready c.in_ok-make_folder.ensures.made

pub returns-in_err-table-clause-part : goal.returns-in_err-table-clause-part
returns-in_err-table-clause-part g c =
    OnErr-from _ _ (stopped_in_front (g.H.Host.view c.args.host.now).told _ _ c.args.folder.now c.args.there c.args.store.now.nodes c.in_ok-descent.ensures.whole c.in_ok-make_folder.ensures.made c.in_err-table.ensures.partly)

pub add_table-requires : goal.add_table-requires
add_table-requires g c =
    free_for_table (g.H.Host.view c.args.host.now).told _ _ c.args.folder.now c.args.there c.args.store.now.nodes (record { whole = g.met.H.Host.whole c.args.host.now; ready = c.requires.ready; stored = c.in_ok-descent.ensures.whole }) c.in_ok-make_folder.ensures.made c.in_ok-table.ensures.written

pub returns-clause-saved : goal.returns-clause-saved
returns-clause-saved g c =
    saved_all (g.H.Host.view c.args.host.now).told (g.H.Host.view c.make_folder.new.host).told (g.H.Host.view c.write_entries.new.host).told (g.H.Host.view c.add_table.new.host).told c.args.folder.now c.args.there c.args.store.now.nodes c.in_ok-table.table c.in_ok-descent.ensures.whole c.in_ok-table.ensures.text c.in_ok-make_folder.ensures.made c.in_ok-table.ensures.written c.in_ok-add_table.ensures.written

pub returns-in_err-add_table-clause-part : goal.returns-in_err-add_table-clause-part
returns-in_err-add_table-clause-part g c =
    OnErr-from _ _ (stopped_in_table (g.H.Host.view c.args.host.now).told (g.H.Host.view c.make_folder.new.host).told (g.H.Host.view c.write_entries.new.host).told (g.H.Host.view c.add_table.new.host).told c.args.folder.now c.args.there c.args.store.now.nodes c.in_ok-table.table c.in_ok-descent.ensures.whole c.in_ok-table.ensures.text c.in_ok-make_folder.ensures.made c.in_ok-table.ensures.written c.in_err-add_table.ensures.partly)
