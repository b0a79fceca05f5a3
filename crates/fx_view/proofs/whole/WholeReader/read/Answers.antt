use Rattle.std.proofs.Common.{◌≡◌, rules}
use Rattle.std.specs.FinMap.{get}
use Rattle.fx_view.proofs.Wholes.{of_added}
use Rattle.fx_view.proofs.whole.WholeReader.read.Goals as goal

pub invariant_of-self-2 : goal.invariant_of-self-2
invariant_of-self-2 c =
    let S = get c.args.self.now.store.now.nodes in
    let there : S c.in_ok-copy.copy ≡ c.in_ok-clone-2.field-0 = search rules in
    record { of_store = of_added c.args.self.now.reads c.add.new.self c.in_ok-copy.copy S c.in_ok-clone-2.field-0 c.add.result c.add.ensures.ok c.add.ensures.err there c.args.self.now.of_store }
