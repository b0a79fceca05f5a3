use Rattle.std.proofs.Common.{arith}
use Rattle.fx_report.proofs.Steps.{path_text_of_names}
use Rattle.fx_report.proofs.quotes.add_spelled_path.Goals as goal

pub returns : goal.returns
returns c =
    let text = path_text_of_names c.args.path.now (λ none. omega arith) in
    rw text c.add_spelled_names.ensures
