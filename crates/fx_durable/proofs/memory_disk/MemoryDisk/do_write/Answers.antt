use Rattle.std.proofs.Common.{refl, sym, ◌∙◌, ap, arith, [], ◌∷◌, length, length-append, ◌≡◌, ◌+◌, ◌≤◌}
use Rattle.fx_durable.specs.Disk.{with_bytes}
use Rattle.fx_durable.specs.Replay.{no_file, replay}
use Rattle.fx_durable.specs.declared.disk_call.DiskCall.TheVariants as call
use Rattle.fx_durable.proofs.Replays.{more_is, last_write, write_placed, written_size}
use Rattle.fx_durable.proofs.memory_disk.MemoryDisk.do_write.Goals as goal

pub invariant_of-self : goal.invariant_of-self
invariant_of-self c =
    let self = c.args.self.now in
    let piece = c.args.bytes.now in
    let from = c.args.from in
    let file = replay (no_file self.path) self.made.items self.taken.items in
    let last = call.Wrote from (length piece) in
    let more = more_is self.path self.made.items self.taken.items last piece c.note.new.made.items c.add_within_capacity.new.bytes.items self.spent self.placed c.note.ensures.added c.add_within_capacity.ensures.added (omega arith) (write_placed file from (length piece) piece c.requires.place) in
    let calls : length c.note.new.made.items ≡ length self.made.items + 1 = omega (arith, ap length c.note.ensures.added, length-append self.made.items (last ∷ [])) in
    let size : length c.add_within_capacity.new.bytes.items ≡ length self.taken.items + length piece = ap length c.add_within_capacity.ensures.added ∙ length-append self.taken.items piece in
    let place : from ≤ length self.bytes.items = omega (arith, c.requires.place, ap length self.seen) in
    record {
      spent = more.spends;
      seen = ap (λ f. f.seen) (more.file ∙ last_write file from (length piece) piece refl) ∙ ap (λ l. with_bytes from piece l) self.seen ∙ sym c.put.ensures.put;
      placed = more.placed;
      long = omega (arith, ap length c.put.ensures.put, size, written_size from piece self.bytes.items (length self.taken.items) place self.long);
      within = omega (arith, size, c.requires.room);
      recorded = omega (arith, calls, c.requires.place_in_record);
      bytes_reserved = omega (arith, self.bytes_reserved, c.put.ensures.reserved);
      taken_reserved = omega (arith, self.taken_reserved, c.add_within_capacity.ensures.reserved);
      record_reserved = omega (arith, self.record_reserved, c.note.ensures.reserved);
    }

pub returns-clause-file : goal.returns-clause-file
returns-clause-file c =
    let self = c.args.self.now in
    let piece = c.args.bytes.now in
    let from = c.args.from in
    let file = replay (no_file self.path) self.made.items self.taken.items in
    let last = call.Wrote from (length piece) in
    let more = more_is self.path self.made.items self.taken.items last piece c.note.new.made.items c.add_within_capacity.new.bytes.items self.spent self.placed c.note.ensures.added c.add_within_capacity.ensures.added (omega arith) (write_placed file from (length piece) piece c.requires.place) in
    more.file ∙ last_write file from (length piece) piece refl
