-- What a seat knows, before and after each step.
use Rattle.std.specs.Prelude.{◌≡◌, ℕ, ◌+◌, ◌-◌, List, [], ◌∷◌, length, true, false, Option, Some, None}
use Rattle.fx_turn.specs.declared.view.View.{View}
use Rattle.fx_turn.specs.Histories.{longer}

-- the number of a seat that was split
abbrev pub number_of : Option ℕ → ℕ
number_of None = 0
number_of (Some n) = n

module _ {O I : Type 0} where
  -- the maker's first view
  abbrev pub maker_of : O → View O I
  maker_of origin = record { live = true; number = None; base = Some origin; seen = []; told = []; mine = 0; in_turn = false; splits = 0; joined = [] }

  -- how many seats the maker has joined
  abbrev pub joins : View O I → ℕ
  joins v = length v.joined

  -- the maker's view after it has split a seat
  abbrev pub parted : View O I → View O I
  parted v = record v { splits = v.splits + 1 }

  -- what the seat that the maker splits knows
  abbrev pub newcomer : View O I → View O I
  newcomer v = record { live = true; number = Some v.splits; base = v.base; seen = v.seen; told = []; mine = 0; in_turn = false; splits = 0; joined = [] }

  -- a seat that has taken a value with this history
  abbrev pub taking : View O I → List I → View O I
  taking v h = record v { seen = h; in_turn = true }

  -- a seat that is to give a value with this history, each new entry its own
  abbrev pub posting : View O I → List I → View O I
  posting v h = record v { seen = h; mine = v.mine + (length h - length v.seen) }

  abbrev pub releasing : View O I → View O I
  releasing v = record v { in_turn = false }

  abbrev pub giving : View O I → List I → View O I
  giving v h = releasing (posting v h)

  -- the maker's view with a note of what the joined seat had seen
  abbrev pub noting : View O I → View O I → View O I
  noting v w = record v { told = w.seen; joined = (number_of w.number, w.mine) ∷ v.joined }

  -- a seat that has compared the note with what it had seen
  abbrev pub learning : View O I → View O I
  learning v = record v { seen = longer v.seen v.told; told = [] }

  abbrev pub joining : View O I → View O I → View O I
  joining v w = learning (noting v w)

  -- a seat that was joined
  abbrev pub spent : View O I
  spent = record { live = false; number = None; base = None; seen = []; told = []; mine = 0; in_turn = false; splits = 0; joined = [] }

  -- a seat that was split
  abbrev pub IsNumbered : View O I → Type 0
  IsNumbered v = (n : ℕ) × (v.number ≡ Some n)
