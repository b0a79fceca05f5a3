-- What each step tells the seat that makes it.
use Rattle.std.specs.Prelude.{◌≡◌, ◌≢◌, ℕ, List, [], ◌∷◌, Option, Some, None}
use Rattle.atomic_table.specs.Table.{Me, Step, rest}
use Rattle.fx_turn.specs.declared.view.View.{View}
use Rattle.fx_turn.specs.Histories.{Begins, own}
use Rattle.fx_turn.specs.Views.{taking, posting, releasing, learning}

abbrev pub carried_by : {K I : Type 0} → (K → List I) → Option K → List I
carried_by history None = []
carried_by history (Some k) = history k

-- the history of the value that a seat carries
abbrev pub carried : {K I : Type 0} → (K → List I) → List (ℕ × Option K) → List I
carried history [] = []
carried history (x ∷ xs) = carried_by history x.1

module _ {K O I : Type 0} (base : K → O) (history : K → List I) (shell : I → ℕ) where
  -- what a turn hands out: the value has the seat's base, begins with all that the seat had seen, and has as many of its entries as the seat counts
  pub record Fits (v : View O I) (k : K) : Type 0 where
    pub base_is : v.base ≡ Some (base k)
    pub begins : Begins v.seen (history k)
    pub own_is : own shell v.number (history k) ≡ v.mine

  -- the word was 0: the seat has the value; or it was not, and nothing changed
  abbrev pub tried : Step (Option K) → Me (Option K) (View O I) → ℕ → Me (Option K) (View O I) → Type 0
  tried st m found m' =
      (found ≡ 0 → (k : K) × (m' ≡ (taking m.0 (history k), (0, Some k) ∷ m.1)) × Fits m.0 k)
      × (found ≢ 0 → m' ≡ m)

  -- the seat has the history of the value that it holds
  abbrev pub posted : Step (Option K) → Me (Option K) (View O I) → ℕ → Me (Option K) (View O I) → Type 0
  posted st m found m' = m' ≡ (posting m.0 (carried history m.1), m.1)

  -- the value is home
  abbrev pub released : Step (Option K) → Me (Option K) (View O I) → ℕ → Me (Option K) (View O I) → Type 0
  released st m found m' = m' ≡ (releasing m.0, rest m.1)

  -- the seat's count is that of its entries in what it has seen
  abbrev pub known : Step (Option K) → Me (Option K) (View O I) → ℕ → Me (Option K) (View O I) → Type 0
  known st m found m' = (m' ≡ m) × (own shell m.0.number m.0.seen ≡ m.0.mine)

  -- of what was seen and what was told of, the longer begins with the other
  abbrev pub learned : Step (Option K) → Me (Option K) (View O I) → ℕ → Me (Option K) (View O I) → Type 0
  learned st m found m' =
      (m' ≡ (learning m.0, m.1)) × Begins m.0.seen (learning m.0).seen × Begins m.0.told (learning m.0).seen
