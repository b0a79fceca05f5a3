use Rattle.std.proofs.Common.{◌∙◌, ap, arith, [], ◌∷◌, length, length-append, ◌≡◌, ◌+◌, inr}
use Rattle.fx_durable.proofs.Replays.{idle_is, idle_spends, idle_placed, idle_seen}
use Rattle.fx_durable.proofs.memory_disk.MemoryDisk.log.Goals as goal

pub invariant_of-self : goal.invariant_of-self
invariant_of-self c =
    let self = c.args.self.now in
    let more = idle_is self.path self.made.items self.taken.items c.args.call c.note.new.made.items self.spent self.placed c.note.ensures.added (idle_spends c.args.call c.requires) (idle_placed _ c.args.call c.requires) in
    let size : length c.note.new.made.items ≡ length self.made.items + 1 = omega (arith, ap length c.note.ensures.added, length-append self.made.items (c.args.call ∷ [])) in
    record {
      spent = more.spends;
      seen = ap (λ f. f.seen) more.file ∙ idle_seen _ c.args.call c.requires ∙ self.seen;
      placed = more.placed;
      long = self.long;
      within = self.within;
      recorded = omega (arith, size, c.len.ensures, c.if-len-self.true);
      bytes_reserved = self.bytes_reserved;
      taken_reserved = self.taken_reserved;
      record_reserved = omega (arith, self.record_reserved, c.note.ensures.reserved);
    }

pub returns-then-len-self-clause-file : goal.returns-then-len-self-clause-file
returns-then-len-self-clause-file c =
    let self = c.args.self.now in
    inr (idle_is self.path self.made.items self.taken.items c.args.call c.note.new.made.items self.spent self.placed c.note.ensures.added (idle_spends c.args.call c.requires) (idle_placed _ c.args.call c.requires)).file

pub returns-then-len-self-clause-logged : goal.returns-then-len-self-clause-logged
returns-then-len-self-clause-logged c =
    let self = c.args.self.now in
    λ _. (idle_is self.path self.made.items self.taken.items c.args.call c.note.new.made.items self.spent self.placed c.note.ensures.added (idle_spends c.args.call c.requires) (idle_placed _ c.args.call c.requires)).file
