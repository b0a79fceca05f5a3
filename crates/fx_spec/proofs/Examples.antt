-- The worked transactions, computed.
use Rattle.std.proofs.Common.{refl}
use Rattle.std.specs.Str.{is_utf8, chars}
use lib.Utf8.{encode}
use Rattle.fx_store.specs.Names.{is_name}
use Rattle.fx_store.specs.Resolve.{resolve}
use Rattle.fx_spec.specs.Describe.{value}
use Rattle.fx_spec.specs.Place.{place}
use Rattle.fx_spec.specs.Edit.{clear}
use Rattle.fx_spec.specs.Transaction.{transaction}
use Rattle.fx_spec.specs.Examples.{FetchesFile, StopsAfterStore, StoreAtRoot, StoresNames, CreatesEntry, JoinsFiles, ValuesCall, EntersBodies, StopsUnfolded, NoEndNoValue}

pub fetches_file : FetchesFile
unfolding is_utf8 chars encode is_name resolve value place clear transaction
fetches_file = record { outputs = refl; end = refl; way = refl; kept = refl }

pub stops_after_store : StopsAfterStore
unfolding is_utf8 chars encode is_name resolve value place clear transaction
stops_after_store = record { outputs = refl; end = refl; way = refl; kept = refl }

pub store_at_root : StoreAtRoot
unfolding is_utf8 chars encode is_name resolve value place clear transaction
store_at_root = record { outputs = refl; end = refl; way = refl; kept = refl }

pub stores_names : StoresNames
unfolding is_utf8 chars encode is_name resolve value place clear transaction
stores_names = record { outputs = refl; end = refl; way = refl; kept = refl }

pub creates_entry : CreatesEntry
unfolding is_utf8 chars encode is_name resolve value place clear transaction
creates_entry = record { outputs = refl; end = refl; way = refl; kept = refl }

pub joins_files : JoinsFiles
unfolding is_utf8 chars encode is_name resolve value place clear transaction
joins_files = record { outputs = refl; end = refl; way = refl; kept = refl }

pub values_call : ValuesCall
unfolding is_utf8 chars encode is_name resolve value place clear transaction
values_call = record { outputs = refl; end = refl; way = refl; kept = refl }

pub enters_bodies : EntersBodies
unfolding is_utf8 chars encode is_name resolve value place clear transaction
enters_bodies = record { outputs = refl; end = refl; way = refl; kept = refl }

pub stops_unfolded : StopsUnfolded
unfolding is_utf8 chars encode is_name resolve value place clear transaction
stops_unfolded = record { outputs = refl; end = refl; way = refl; kept = refl }

pub no_end_no_value : NoEndNoValue
unfolding is_utf8 chars encode is_name resolve value place clear transaction
no_end_no_value = record { outputs = refl; end = refl; way = refl; kept = refl }
