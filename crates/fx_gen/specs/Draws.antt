-- The draws of a number: a state that each draw moves on once, and of which it gives a part.
use Rattle.std.specs.Prelude.{ℕ, zero, suc, ◌+◌, ◌*◌, ◌/◌, ◌%◌, ◌^◌, refl}
use Rattle.std.specs.Coded.{Coded, code_by, coded×, coded_ℕ}

-- the state that follows a state
unfoldable pub next : ℕ → ℕ
next x = (x * 1664525 + 1013904223) % 2 ^ 32

-- the state after so many draws; the number itself is the first
unfoldable pub state_after : ℕ → ℕ → ℕ
state_after number zero = number
state_after number (suc n) = next (state_after number n)

-- what the draw of this place gives, counted from 0: a number below `m`
unfoldable pub draw : ℕ → ℕ → ℕ → ℕ
draw number place m = (state_after number (suc place) / 65536) % m

-- so many draws of a number have been made
pub record Drawn : Type 0 where
  pub number : ℕ
  pub made : ℕ

abbrev pub drawn_code : Coded Drawn
drawn_code = code_by (ℕ × ℕ) (coded× coded_ℕ coded_ℕ) (λ d. (d.number, d.made)) (λ p. record { number = p.0; made = p.1 }) (λ _. refl)

-- after so many more
abbrev pub draws_after : ℕ → Drawn → Drawn
draws_after n d = record { number = d.number; made = d.made + n }
