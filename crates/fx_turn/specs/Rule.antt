-- What holds between any two steps.
use Rattle.std.specs.Prelude.{◌≡◌, ◌≢◌, ℕ, ◌+◌, ◌<◌, ◌≤◌, List, [], ◌∷◌, length, Bool, true, false, Option, Some, None}
use Rattle.std.specs.List.{All, sum_by}
use mathlib.Core.Option.{Option as Maybe, none, some}
use lib.ListN.{get_elem?}
use Rattle.atomic_table.specs.Table.{State}
use Rattle.fx_base.specs.Limits.{shell_limit}
use Rattle.fx_turn.specs.declared.view.View.{View}
use Rattle.fx_turn.specs.Histories.{Begins, count, own}
use Rattle.fx_turn.specs.Views.{IsNumbered}

abbrev pub weight_of : Bool → Option ℕ → ℕ
weight_of true (Some n) = 1
weight_of true None = 0
weight_of false o = 0

-- what the rule says of a split seat: its number is below the splits, is its own, and is no joined seat's
pub record IsOneOf (splits : ℕ) (joined : List (ℕ × ℕ)) (place : ℕ → ℕ) (id n : ℕ) : Type 0 where
  pub made : n < splits
  pub own_place : place n ≡ id
  pub apart : All (λ (j : ℕ × ℕ). j.0 ≢ n) joined

module _ {O I : Type 0} where
  -- 1 for a seat that was split and not joined
  abbrev pub weight : View O I → ℕ
  weight v = weight_of v.live v.number

  -- what the rule says of the maker's seat
  pub record IsMaker (splits : ℕ) (joined : List (ℕ × ℕ)) (id : ℕ) (v : View O I) : Type 0 where
    pub first : id ≡ 0
    pub splits_is : v.splits ≡ splits
    pub joined_is : v.joined ≡ joined

  -- what the rule says of a seat in its turn: it alone is, and it stands for the whole history
  pub record IsHolder (log : List I) (held holder id : ℕ) (v : View O I) : Type 0 where
    pub one : held ≡ 1
    pub alone : id ≡ holder
    pub whole : v.seen ≡ log
    pub numbered : IsNumbered v

  -- what the rule says of each seat that was not joined
  pub record Knows (shell : I → ℕ) (origin : O) (log : List I) (held holder splits : ℕ) (joined : List (ℕ × ℕ)) (place : ℕ → ℕ) (id : ℕ) (v : View O I) : Type 0 where
    pub base_is : v.base ≡ Some origin
    pub seen_is : Begins v.seen log
    pub told_is : Begins v.told log
    pub mine_seen : own shell v.number v.seen ≡ v.mine
    pub mine_is : own shell v.number log ≡ v.mine
    pub turn : v.in_turn ≡ true → IsHolder log held holder id v
    pub split : (n : ℕ) → v.number ≡ Some n → IsOneOf splits joined place id n
    pub maker : v.number ≡ None → IsMaker splits joined id v

-- There is one origin and one history, of which each seat has seen a beginning.
-- The log is the history at home, and while a seat is in its turn the one that this seat stands for.
pub record Ordered {K O I : Type 0} (base : K → O) (history : K → List I) (shell : I → ℕ) (s : State (Option K) (View O I)) : Type 0 where
  pub origin : O
  pub log : List I
  pub held : ℕ
  pub holder : ℕ
  pub splits : ℕ
  pub joined : List (ℕ × ℕ)
  pub home : Maybe (Option K)
  pub place : ℕ → ℕ
  pub words : s.words ≡ held ∷ length log ∷ []
  pub homes : s.homes ≡ home ∷ []
  pub bit : held < 2
  pub full : held ≡ 0 → (k : K) × (home ≡ some (Some k)) × (base k ≡ origin) × (history k ≡ log)
  pub away : held ≡ 1 → (home ≡ none) × ((v : View O I) × (get_elem? s.views holder ≡ some v) × (v.live ≡ true) × (v.in_turn ≡ true))
  pub each : (id : ℕ) (v : View O I) → get_elem? s.views id ≡ some v → v.live ≡ true → Knows shell origin log held holder splits joined place id v
  pub unmade : (n : ℕ) → splits ≤ n → count shell n log ≡ 0
  pub few : splits ≤ shell_limit
  pub counts : sum_by weight s.views + length joined ≡ splits
  pub ended : All (λ (j : ℕ × ℕ). (j.0 < splits) × (count shell j.0 log ≡ j.1)) joined
