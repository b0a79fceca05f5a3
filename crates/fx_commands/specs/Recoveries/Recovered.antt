-- What `recover` comes to: the order that the journal spells, the filestore after it, and the line that tells its length.
use Rattle.std.specs.Prelude.{◌≡◌, ◌++◌, ℕ, List, codes, length, IfSome}
use Rattle.std.specs.Fmt.{decimal}
use Rattle.fx_store.specs.Whole.{Nodes}
use Rattle.fx_outside.specs.Tree.{Tree}
use Rattle.fx_spec.specs.Plans.{Turn}
use Rattle.fx_spec.specs.Order.{BaseTree, IsLegal, state}
use Rattle.fx_report.specs.Report.{line}
use Rattle.fx_words.specs.Job.{RecoverJob}
use Rattle.fx_inputs.specs.Inputs.{HasBase, IsOnlyBase}
use Rattle.fx_durable.specs.Disk.{DiskView}
use Rattle.fx_durable.specs.Journal.{Spells}
use Rattle.fx_commands.specs.Recoveries.Wrong.{GoesWrong}

-- the line that is printed after so many transactions
abbrev pub recovered_line : ℕ → List ℕ
recovered_line count = line (codes "recovered " ++ decimal count)

-- the file that the disk tells, if it tells one, is at this path, and its bytes are such
abbrev pub HasImage : List ℕ → DiskView → (List ℕ → Type 0) → Type 0
HasImage path disk P = IfSome disk.told (λ file. (file.path ≡ path) × P file.seen)

-- the texts and the folder stand for this base alone, and the file at JOURNAL spells this legal order of it
pub record HasOrder (t : Tree) (j : RecoverJob) (disk : DiskView) (base : BaseTree) (order : List Turn) : Type 0 where
  pub begins : HasBase t j.inputs base
  pub only : IsOnlyBase t j.inputs base
  pub spelled : HasImage j.journal disk (Spells order)
  pub legal : IsLegal base order

abbrev pub HasSomeOrder : Tree → RecoverJob → DiskView → Type 0
HasSomeOrder t j disk = (base : BaseTree) × (order : List Turn) × HasOrder t j disk base order

-- the filestore after the order's transactions, run whole one after another, and the line
pub record IsRecoveryOutcome (t : Tree) (j : RecoverJob) (disk : DiskView) (nodes : Nodes) (output : List ℕ) : Type 0 where
  pub base : BaseTree
  pub order : List Turn
  pub read : HasOrder t j disk base order
  pub last : nodes ≡ state base order (length order)
  pub printed : output ≡ recovered_line (length order)

-- The inputs stand for one base alone, and of the file at JOURNAL the record of this number, counted from 0, is the first that
-- is cut short or is one too many, or with whose transaction the order is not legal.
abbrev pub IsBad : Tree → RecoverJob → DiskView → ℕ → Type 0
IsBad t j disk place =
    (base : BaseTree) × HasBase t j.inputs base × IsOnlyBase t j.inputs base × HasImage j.journal disk (λ image. GoesWrong base image place)
