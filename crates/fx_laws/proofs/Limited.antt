-- The worked transactions at the limits, computed.
use Rattle.std.proofs.Common.{refl, [], ◌∷◌}
use Rattle.std.specs.Str.{is_utf8, chars}
use lib.Utf8.{encode}
use Rattle.fx_store.specs.Names.{is_name}
use Rattle.fx_store.specs.declared.node.Node.TheVariants.{Dir}
use Rattle.fx_store.specs.Examples.{store_of}
use Rattle.fx_store.specs.Resolve.{resolve}
use Rattle.fx_store.specs.Whole.{over}
use Rattle.fx_spec.specs.Describe.{value}
use Rattle.fx_spec.specs.Place.{place}
use Rattle.fx_spec.specs.Edit.{clear}
use Rattle.fx_spec.specs.Transaction.{transaction}
use Rattle.fx_laws.specs.Shorthands.{into, down, create}
use Rattle.fx_laws.specs.Limited.{deep_files, nested_file, StopsAfterForty, StopsAtLoop, MakesDeepFile, LeavesDeepFile, GoesNoDeeper}
use Rattle.fx_laws.proofs.Left.{leaves_kept}

pub stops_after_forty : StopsAfterForty
unfolding is_utf8 chars encode is_name resolve value place clear transaction
stops_after_forty = record { landed = refl; lost = refl; link_itself = refl; read = record { outputs = refl; end = refl; way = refl; kept = refl }; fetched = record { outputs = refl; end = refl; way = refl; kept = refl }; stored = record { outputs = refl; end = refl; way = refl; kept = refl } }

pub stops_at_loop : StopsAtLoop
unfolding is_utf8 chars encode is_name resolve value place clear transaction
stops_at_loop = record { landed = refl; lost = refl; link_itself = refl; read = record { outputs = refl; end = refl; way = refl; kept = refl }; fetched = record { outputs = refl; end = refl; way = refl; kept = refl }; stored = record { outputs = refl; end = refl; way = refl; kept = refl } }

pub makes_deep_file : MakesDeepFile
unfolding is_utf8 chars encode is_name resolve value place clear transaction
makes_deep_file = record { outputs = refl; end = refl; way = refl; kept = refl }

pub goes_no_deeper : GoesNoDeeper
unfolding is_utf8 chars encode is_name resolve value place clear transaction
goes_no_deeper = record { outputs = refl; end = refl; way = refl; kept = refl }

pub leaves_deep_file : LeavesDeepFile
leaves_deep_file = leaves_kept deep_files (into ∷ down ∷ create ∷ []) (store_of (([], Dir []) ∷ [])) (over (store_of (([], Dir []) ∷ [])) nested_file) nested_file makes_deep_file.kept (λ p. refl)
