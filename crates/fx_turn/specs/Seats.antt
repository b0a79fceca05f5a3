-- A seat as callers see it.
use Rattle.std.specs.Prelude.{◌≡◌, false}
use Rattle.fx_turn.specs.Views.{IsNumbered}
use Rattle.fx_turn.specs.declared.kept.Kept.{Ghosts}
use Rattle.fx_turn.specs.declared.view.View.{View}
use Rattle.fx_turn.specs.declared.seat.Seat.{Seat}
use Rattle.fx_turn.specs.declared.turn.Turn.{Turn}

module _ {K O I : Type 0} {g : Ghosts K O I} where
  -- what a seat knows
  abbrev pub view : Seat K O I g → View O I
  view s = s.place.me.0

  -- the seat is one of this turn
  abbrev pub IsSeatOf : Turn K O I → Seat K O I g → Type 0
  IsSeatOf t s = s.place.table_id ≡ t.board.shared.table_id

  -- the seat is a split one of this turn, and not in its turn
  pub record IsReady (t : Turn K O I) (s : Seat K O I g) : Type 0 where
    pub turn : IsSeatOf t s
    pub numbered : IsNumbered (view s)
    pub idle : (view s).in_turn ≡ false
