-- Reads whose looks came one after another.
use Rattle.std.specs.Prelude.{ℕ, ◌≤◌, List, [], ◌∷◌}
use Rattle.std.specs.Coded.{Coded-set, coded_bool, Π_prop, le_prop}
use mathlib.Core.HLevel.{×₃_prop}
use Rattle.fx_store.specs.Names.{IsPath}
use Rattle.fx_view.specs.ReadList.{ReadList}

-- each read is of a path; the positions of the looks never fall, and are from a number on up to another
abbrev pub InTurn : ℕ → ℕ → ReadList → Type 0
InTurn low high [] = low ≤ high
InTurn low high (r ∷ reads) = (low ≤ r.1.1) × IsPath r.0 × InTurn r.1.1 high reads

IsPath-prop : (path : List (List ℕ)) → IsProp (IsPath path)
IsPath-prop path a b = λ i. record {
  names = Π_prop (λ k. Π_prop (λ d. Π_prop (λ h. Coded-set coded_bool _ _))) a.names b.names i;
  short = le_prop a.short b.short i;
}

pub InTurn-prop : (low high : ℕ) (reads : ReadList) → IsProp (InTurn low high reads)
InTurn-prop low high [] = le_prop
InTurn-prop low high (r ∷ reads) = ×₃_prop le_prop (IsPath-prop r.0) (InTurn-prop r.1.1 high reads)
