-- What `show` prints of a filestore by a description.
use Rattle.std.specs.Prelude.{ℕ, List, [], ◌++◌, codes, Option, Some, None}
use Rattle.fx_store.specs.Rule.{answer}
use Rattle.fx_store.specs.Whole.{Store}
use Rattle.fx_expr.specs.Tree.{Tree}
use Rattle.fx_report.specs.Report.{line, value_line}
use Rattle.fx_spec.specs.Describe.{value}
use Rattle.fx_spec.specs.SpecTree.{SpecTree}

-- the value of the description at the root, around which no name is bound, if there is one
abbrev pub root_value : Store → SpecTree → Option Tree
root_value S spec = answer S (value [] [] spec)

-- whether there is a value, and which
abbrev pub shown : Option Tree → List ℕ
shown None = line (codes "valid no")
shown (Some v) = line (codes "valid yes") ++ value_line v
