use Rattle.fx_table.proofs.Prelude.{◌≡◌, ℕ, ◌<◌, false, Some, is_some, slice_get, keys_of, Parts, name_in, mapped_of}
use Rattle.fx_table.proofs.listing.folder_of.Given as goal

abbrev pub invariant-loop-i : goal.invariant-loop-i
invariant-loop-i l = (k : ℕ) (dir : Parts) → k < l.i → slice_get (keys_of (mapped_of l.found)) k ≡ Some dir → is_some (name_in dir l.path) ≡ false
