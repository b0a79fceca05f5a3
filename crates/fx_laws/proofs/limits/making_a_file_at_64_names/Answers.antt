use Rattle.fx_laws.proofs.Limited.{makes_deep_file, leaves_deep_file}
use Rattle.fx_laws.proofs.limits.making_a_file_at_64_names.Goals as goal

pub returns : goal.returns
returns c = record { does = makes_deep_file; leaves = leaves_deep_file }
