-- Printed texts are read in one way: different values have different texts.
use Rattle.std.specs.Prelude.{◌≡◌, ℕ, ◌^◌, ◌<◌, false, nat_eq, ℤ, pos, negsuc, List, [], ◌∷◌, ◌++◌, length}
use Rattle.fx_expr.specs.Tree.{Tree, TreeRows, str, int, bool, names, pair, nothing, some, table, no_rows, row}
use Rattle.fx_spec.specs.declared.refusal.Refusal.{Refusal}
use Rattle.fx_spec.specs.declared.refusal.Refusal.TheVariants.{Blocked}
use Rattle.fx_spec.specs.declared.refusal.End.{End}
use Rattle.fx_spec.specs.declared.refusal.End.TheVariants.{Done, Stopped, Aborted}
use Rattle.fx_report.specs.Print.{quote, value_text}
use Rattle.fx_report.specs.Report.{report_text}
use Rattle.fx_report.specs.declared.printed.PrintedEntry.{PrintedEntry}
use Rattle.fx_machine.specs.declared.retry.Retry.{Retry}

-- every number is a byte
abbrev pub AreBytes : List ℕ → Type 0
AreBytes [] = Unit {0}
AreBytes (b ∷ rest) = (b < 256) × AreBytes rest

abbrev pub AreTexts : List (List ℕ) → Type 0
AreTexts [] = Unit {0}
AreTexts (text ∷ rest) = AreBytes text × AreTexts rest

-- an integer of 64 bits
abbrev pub IsInteger : ℤ → Type 0
IsInteger (pos n) = n < 2 ^ 63
IsInteger (negsuc n) = n < 2 ^ 63

abbrev mutual
  -- a value of texts of bytes, and of integers of 64 bits
  pub IsHeld : Tree → Type 0
  IsHeld (str bytes) = AreBytes bytes
  IsHeld (int n) = IsInteger n
  IsHeld (bool b) = Unit {0}
  IsHeld (names texts) = AreTexts texts
  IsHeld (pair a b) = IsHeld a × IsHeld b
  IsHeld nothing = Unit {0}
  IsHeld (some a) = IsHeld a
  IsHeld (table rows) = AreHeld rows

  pub AreHeld : TreeRows → Type 0
  AreHeld no_rows = Unit {0}
  AreHeld (row key a rest) = AreBytes key × IsHeld a × AreHeld rest

-- bytes between quotation marks tell what they are and where they end
abbrev pub QuotesAreReadable : Type 0
QuotesAreReadable =
    (a b x y : List ℕ) → AreBytes a → AreBytes b → quote a ++ x ≡ quote b ++ y → (a ≡ b) × (x ≡ y)

-- different values have different texts
abbrev pub ValuesAreReadable : Type 0
ValuesAreReadable = (v w : Tree) → IsHeld v → IsHeld w → value_text v ≡ value_text w → v ≡ w

-- bytes, none of them a `/`
abbrev pub LacksSlash : List ℕ → Type 0
LacksSlash [] = Unit {0}
LacksSlash (b ∷ rest) = (b < 256) × (nat_eq b 47 ≡ false) × LacksSlash rest

-- the name of an entry: some bytes, none of them a `/`
abbrev pub IsEntryName : List ℕ → Type 0
IsEntryName [] = ⊥
IsEntryName (b ∷ rest) = LacksSlash (b ∷ rest)

abbrev pub AreEntryNames : List (List ℕ) → Type 0
AreEntryNames [] = Unit {0}
AreEntryNames (name ∷ rest) = IsEntryName name × AreEntryNames rest

abbrev pub IsHeldRefusal : Refusal → Type 0
IsHeldRefusal (Blocked path) = AreEntryNames path
IsHeldRefusal other = Unit {0}

abbrev pub IsHeldEnd : End → Type 0
IsHeldEnd Done = Unit {0}
IsHeldEnd (Stopped command refusal) = (command < 2 ^ 32) × IsHeldRefusal refusal
IsHeldEnd Aborted = Unit {0}

abbrev pub AreTrees : List Tree → Type 0
AreTrees [] = Unit {0}
AreTrees (v ∷ rest) = IsHeld v × AreTrees rest

-- an entry as the program holds it: numbers of 32 bits, names of bytes, values as above
pub record IsHeldEntry (e : PrintedEntry) : Type 0 where
  pub shell : e.shell < 2 ^ 32
  pub txn : e.txn < 2 ^ 32
  pub outputs : AreTrees e.outputs
  pub ended : IsHeldEnd e.end

abbrev pub AreEntries : List PrintedEntry → Type 0
AreEntries [] = Unit {0}
AreEntries (e ∷ rest) = IsHeldEntry e × AreEntries rest

pub record IsHeldRetry (r : Retry) : Type 0 where
  pub shell : r.shell < 2 ^ 32
  pub txn : r.txn < 2 ^ 32
  pub entry : r.entry < 2 ^ 64
  pub path : AreEntryNames r.path

abbrev pub AreRetries : List Retry → Type 0
AreRetries [] = Unit {0}
AreRetries (r ∷ rest) = IsHeldRetry r × AreRetries rest

-- the lists of a report, each of fewer than 2^64 items
pub record IsHeldReport (entries : List PrintedEntry) (retries : List Retry) : Type 0 where
  pub entries_fit : length entries < 2 ^ 64
  pub retries_fit : length retries < 2 ^ 64
  pub entries_held : AreEntries entries
  pub retries_held : AreRetries retries

-- different entries or retries have different reports
abbrev pub ReportsAreReadable : Type 0
ReportsAreReadable =
    (es fs : List PrintedEntry) (rs ss : List Retry) → IsHeldReport es rs → IsHeldReport fs ss → report_text es rs ≡ report_text fs ss → (es ≡ fs) × (rs ≡ ss)
