use Rattle.std.proofs.Common.{sym, ◌∙◌}
use Rattle.fx_outside.proofs.Whole.{whole_after, free_parts, only_files}
use Rattle.fx_outside.proofs.memory_host.MemoryHost.put.Goals as goal

pub invariant_of-self : goal.invariant_of-self
invariant_of-self c =
    let read = sym c.in-Some.is ∙ c.in_ok-read.ensures in
    record { whole = whole_after c.add.result _ _ c.args.path.now c.in-Some.names _ c.args.self.now.whole read (free_parts _ c.args.path.now c.in-Some.names read c.requires.free) (only_files c.args.kind c.args.bytes.now _ c.in_ok-bytes-in-Some.ensures.items c.requires.bytes) c.add.ensures.added c.add.ensures.same }
