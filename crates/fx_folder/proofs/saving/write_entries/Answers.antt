use Rattle.fx_folder.proofs.Prelude.{◌++◌, OnErr-from, parts, listing_starts, listing_more}
use Rattle.fx_folder.proofs.Writes.{starts_writing, stops_before, stops_in, is_free, goes_on, wrote_there, part_there}
use Rattle.fx_folder.proofs.saving.write_entries.Goals as goal

pub writing-init : goal.writing-init
writing-init g c = (
  starts_writing (g.H.Host.view c.args.host.now) c.args.folder.now c.args.store.now.nodes _ c.requires.«open» c.requires.left,
  listing_starts c.args.store.now.nodes c.new-table.result _ c.requires.levels c.requires.left c.new-table.ensures.lines c.new-table.ensures.flags,
)

pub returns-in_err-entry-clause-partly : goal.returns-in_err-entry-clause-partly
returns-in_err-entry-clause-partly g c = OnErr-from _ _ (stops_before (g.H.Host.view c.args.host.now) (g.H.Host.view c.writing.host) c.args.folder.now c.args.store.now.nodes _ (c.writing.invariant).0)

pub write_entry-requires-clause-parent : goal.write_entry-requires-clause-parent
write_entry-requires-clause-parent g c =
    let entry = rw c.in-Some.is at c.in_ok-entry.ensures.next in
    entry.parent

pub write_entry-requires-clause-free : goal.write_entry-requires-clause-free
write_entry-requires-clause-free g c =
    let entry = rw c.in-Some.is at c.in_ok-entry.ensures.next in
    is_free (g.H.Host.view c.args.host.now) (g.H.Host.view c.writing.host) c.args.folder.now c.args.store.now.nodes _ _ c.in-Some.entry.path c.requires.whole c.requires.«open» (c.writing.invariant).0 entry.next

pub returns-in_err-write_entry-clause-partly : goal.returns-in_err-write_entry-clause-partly
returns-in_err-write_entry-clause-partly g c =
    let entry = rw c.in-Some.is at c.in_ok-entry.ensures.next in
    OnErr-from _ _ (stops_in (g.H.Host.view c.args.host.now) (g.H.Host.view c.writing.host) (g.H.Host.view c.write_entry.new.host) c.args.folder.now c.args.store.now.nodes _ _ c.in-Some.entry.path (c.writing.invariant).0 entry.next
    (part_there _ _ (parts c.args.folder.now ++ c.in-Some.entry.path) c.args.store.now.nodes c.in-Some.entry.path c.in-Some.entry.node.now entry.node c.in_err-write_entry.ensures.partly))

pub returns-in_err-add-clause-partly : goal.returns-in_err-add-clause-partly
returns-in_err-add-clause-partly g c =
    let entry = rw c.in-Some.is at c.in_ok-entry.ensures.next in
    OnErr-from _ _ (stops_before (g.H.Host.view c.args.host.now) (g.H.Host.view c.write_entry.new.host) c.args.folder.now c.args.store.now.nodes _
    (goes_on (g.H.Host.view c.args.host.now) (g.H.Host.view c.writing.host) (g.H.Host.view c.write_entry.new.host) c.args.folder.now c.args.store.now.nodes _ _ c.in-Some.entry.path (c.writing.invariant).0 entry.next c.write_entry.ensures.later c.write_entry.ensures.fit
    (wrote_there _ _ (parts c.args.folder.now ++ c.in-Some.entry.path) c.args.store.now.nodes c.in-Some.entry.path c.in-Some.entry.node.now entry.node c.in_ok-write_entry.ensures.written)))

pub writing-preserved : goal.writing-preserved
writing-preserved g c =
    let entry = rw c.in-Some.is at c.in_ok-entry.ensures.next in (
      goes_on (g.H.Host.view c.args.host.now) (g.H.Host.view c.writing.host) (g.H.Host.view c.write_entry.new.host) c.args.folder.now c.args.store.now.nodes _ _ c.in-Some.entry.path (c.writing.invariant).0 entry.next c.write_entry.ensures.later c.write_entry.ensures.fit
          (wrote_there _ _ (parts c.args.folder.now ++ c.in-Some.entry.path) c.args.store.now.nodes c.in-Some.entry.path c.in-Some.entry.node.now entry.node c.in_ok-write_entry.ensures.written),
      listing_more c.args.store.now.nodes c.writing.table c.add.new.self _ _ c.in-Some.entry (c.writing.invariant).1 c.in_ok-entry.ensures.levels entry c.in_ok-add.ensures,
    )

pub returns-in_err-into_text-clause-partly : goal.returns-in_err-into_text-clause-partly
returns-in_err-into_text-clause-partly g c = OnErr-from _ _ (stops_before (g.H.Host.view c.args.host.now) (g.H.Host.view c.writing.host) c.args.folder.now c.args.store.now.nodes _ (c.writing.invariant).0)
