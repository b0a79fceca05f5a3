-- What bytes are held in: by themselves, or shared with their copies.
use Rattle.std.specs.Prelude.{◌≡◌, ◌≤◌, ◌<◌, ℕ, List, [], All, length}
use Rattle.std.specs.Vec.{vec_capacity}
use Rattle.fx_base.specs.declared.content.Held.{Held}
use Rattle.fx_base.specs.declared.content.Held.TheVariants.{Few, Own, Shared}
use Rattle.fx_base.specs.declared.content.Taken.{Taken}
use Rattle.fx_base.specs.declared.content.Taken.TheVariants as taken

abbrev pub held_bytes : Held → List ℕ
held_bytes (Few bytes) = bytes
held_bytes (Own bytes) = bytes.items
held_bytes (Shared bytes spare) = bytes.value.items

-- the bytes that are handed out
abbrev pub taken_bytes : Taken → List ℕ
taken_bytes (taken.Few bytes) = bytes
taken_bytes (taken.Many bytes) = bytes.items

-- what is shared can be copied out at any time: there is room for it beside it
abbrev pub HasRoom : Held → Type 0
HasRoom (Few bytes) = Unit {0}
HasRoom (Own bytes) = Unit {0}
HasRoom (Shared bytes spare) = (spare.items ≡ []) × (length bytes.value.items ≤ vec_capacity spare)

-- each number is a byte
abbrev pub AreBytes : List ℕ → Type 0
AreBytes bytes = All (λ b. b < 256) bytes
