-- The numbers of refusals.
use Rattle.std.specs.Prelude.{ℕ}
use Rattle.fx_spec.specs.declared.refusal.Refusal.{Refusal}

abbrev pub refusal_number : Refusal → ℕ
refusal_number Refusal.NoStep = 1
refusal_number Refusal.NoElement = 2
refusal_number Refusal.NoPlace = 3
refusal_number Refusal.Lacks = 4
refusal_number Refusal.WrongForm = 5
refusal_number (Refusal.Blocked p) = 6
refusal_number Refusal.TooDeep = 7
refusal_number Refusal.BadName = 8
refusal_number Refusal.NoDefault = 9
refusal_number (Refusal.Expr f) = 10
refusal_number Refusal.Absent = 11
refusal_number Refusal.Exists = 12
refusal_number Refusal.TooUnfolded = 13
