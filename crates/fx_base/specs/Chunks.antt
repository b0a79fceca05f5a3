-- Lists in chunks, each of which says how many items stand before it.
use Rattle.std.specs.Prelude.{◌≡◌, ℕ, ◌+◌, ◌^◌, ◌<◌, ◌≤◌, List, [], ◌∷◌, ◌++◌, Option, Some, None, length, take, slice_index_or}
use Rattle.std.specs.List.{flat_map}
use Rattle.std.specs.declared.sync.Arc.{Arc}

pub record Piece (X : Type 0) : Type 0 where
  pub before : ℕ
  pub items : List X

-- the items of all chunks
abbrev pub joined : {X : Type 0} → List (Piece X) → List X
joined {X} chunks = flat_map (λ (c : Piece X). c.items) chunks

-- the items of parts of which the last comes first
abbrev pub from_last : {X V : Type 0} → (V → List X) → List V → List X
from_last items [] = []
from_last items (part ∷ parts) = from_last items parts ++ items part

-- each chunk says how many items stand before it, and there are fewer than 2 ^ 63
pub record AreChunks {X : Type 0} (chunks : List (Piece X)) : Type 0 where
  pub before : (k : ℕ) (d : Piece X) → k < length chunks → (slice_index_or chunks k d).before ≡ length (joined (take k chunks))
  pub few : length (joined chunks) < 2 ^ 63

-- each of the first n chunks says how many items stand before it
abbrev pub AreCounted : {X : Type 0} → List (Piece X) → ℕ → Type 0
AreCounted {X} chunks n = (k : ℕ) (d : Piece X) → k < n → k < length chunks → (slice_index_or chunks k d).before ≡ length (joined (take k chunks))

-- the chunk at k is where the item at i stands, or the last one where no item does
pub record IsChunkOf {X : Type 0} (chunks : List (Piece X)) (i k : ℕ) : Type 0 where
  pub there : 0 < length chunks → k < length chunks
  pub before : length (joined (take k chunks)) ≤ i
  pub after : k + 1 < length chunks → i < length (joined (take (k + 1) chunks))

-- a list that many values may share; where there is none, it is empty
abbrev pub shared_list : {X Z : Type 0} → Option (Arc (List X) Z) → List X
shared_list None = []
shared_list (Some a) = a.value
