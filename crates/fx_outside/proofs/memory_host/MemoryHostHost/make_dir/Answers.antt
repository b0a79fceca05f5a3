use Rattle.std.proofs.Common.{◌==◌, length, sym, ◌∙◌, ap}
use Rattle.fx_outside.proofs.Whole.{whole_after}
use Rattle.fx_outside.proofs.memory_host.MemoryHostHost.make_dir.Goals as goal

pub invariant_of-self : goal.invariant_of-self
invariant_of-self c =
    let read = sym c.in-Some.is ∙ c.in_ok-names.ensures in
    record { whole = whole_after c.add.result _ _ c.args.path.now c.in-Some.names _ c.begin-fails.new.self.whole read (sym c.in_ok-is_free.ensures ∙ c.if-not-branch.false) (ap (λ b. length b == 0) c.new.ensures.items) c.add.ensures.added c.add.ensures.same }
