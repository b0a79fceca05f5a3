-- The examples of resolution, computed.
use Rattle.std.proofs.Common.{refl}
use Rattle.fx_store.specs.Resolve.{resolve}
use Rattle.fx_store.specs.Examples.{ResolveExamples}

pub resolve_examples : ResolveExamples
unfolding resolve
resolve_examples = record { through_link = refl; absent = refl; link_itself = refl; no_way_up = refl; below_file = refl }
