-- The numbers of faults, and what they are printed as.
use Rattle.std.specs.Prelude.{ℕ, List, codes}
use Rattle.fx_expr.specs.declared.fault.ExprFault.{ExprFault}
use Rattle.fx_expr.specs.declared.fault.ExprFault.TheVariants.{TooLong, Overflow, NotNumber}

abbrev pub fault_number : ExprFault → ℕ
fault_number TooLong = 1
fault_number Overflow = 2
fault_number NotNumber = 3

abbrev pub fault_text : ExprFault → List ℕ
fault_text TooLong = codes "TooLong"
fault_text Overflow = codes "Overflow"
fault_text NotNumber = codes "NotNumber"
