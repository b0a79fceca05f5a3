use Rattle.std.proofs.Common.{◌≡◌, drop}
use Rattle.fx_read_report.specs.Quotes.{scan, IsPlace}
use Rattle.fx_read_report.specs.declared.quotes.Place.TheVariants.{Plain}
use Rattle.fx_read_report.proofs.Scans.{prepended}
use Rattle.fx_read_report.proofs.quotes.scanned.Given as goal

abbrev pub invariant-loop-at : goal.invariant-loop-at
invariant-loop-at l = record {
  within : IsPlace l.place;
  so_far : scan Plain l.bytes ≡ prepended l.text.items (scan l.place (drop l.at l.bytes));
}
