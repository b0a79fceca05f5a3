use Rattle.fx_spec.proofs.Examples.{fetches_file, stops_after_store, store_at_root, stores_names, creates_entry, joins_files, values_call, enters_bodies, stops_unfolded, no_end_no_value}
use Rattle.fx_spec.proofs.laws.worked_transactions.Goals as goal

pub returns : goal.returns
returns c = record { fetches_file = fetches_file; stops_after_store = stops_after_store; store_at_root = store_at_root; stores_names = stores_names; creates_entry = creates_entry; joins_files = joins_files; values_call = values_call; enters_bodies = enters_bodies; stops_unfolded = stops_unfolded; no_end_no_value = no_end_no_value }
