-- A file that is taken from those that were read ahead; all that is left of a small file.
use Rattle.std.proofs.Common.{◌≡◌, ◌++◌, ◌∷◌, [], ◌+◌, ◌≤◌, ℕ, List, length, take, arith, Option, None, Some, IfSome}
use Rattle.std.proofs.lemmas.Grind.{common_steps}
use Rattle.std.specs.Option.{option_map}
use Rattle.fx_disk.specs.declared.ahead.Held.{Held}
use Rattle.fx_disk.specs.Held.{IsTaken}

-- the last of what is left is taken, and some that stood behind it were given up before
pub taken : (path : List ℕ) (old now new before : List Held) (held : Held) → held.path ≡ path → old ≡ now ++ before → now ≡ new ++ held ∷ [] → IsTaken path old new held
taken path old now new before held p e f = record { place = p; before = before; rest = grind (arith, e, f, common_steps) }

-- what is read up to a limit, and is less, is all
whole : (most : ℕ) (left bytes : List ℕ) → bytes ≡ [] ++ take (most + 1) left → length bytes ≤ most → bytes ≡ left
whole most left bytes e m = grind (arith, e, m, common_steps)

pub whole_known : (limit most len told : ℕ) (known : Option (List ℕ)) (before bytes : List ℕ) → limit ≡ most + 1 → before ≡ [] → IfSome (option_map (take limit) known) (λ xs. bytes ≡ before ++ xs) → len ≡ length bytes → told ≡ len → told ≤ most → IfSome known (λ left. bytes ≡ left)
whole_known limit most len told None before bytes l b e n t m = tt
whole_known limit most len told (Some left) before bytes l b e n t m = whole most left bytes (grind (arith, l, b, e, common_steps)) (omega (arith, n, t, m))
