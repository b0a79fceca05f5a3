-- What the bytes of a name are held in: in the value itself, or shared.
use Rattle.std.specs.Prelude.{ℕ, List}
use Rattle.std.specs.Arc.{arc_slice_items}
use Rattle.fx_store.specs.declared.name.Held.{Held}
use Rattle.fx_store.specs.declared.name.Held.TheVariants.{Few, Shared}

abbrev pub held_bytes : Held → List ℕ
held_bytes (Few bytes) = bytes
held_bytes (Shared bytes) = arc_slice_items bytes
