use Rattle.std.proofs.Common.{refl}
use Rattle.fx_laws_above.proofs.numbers.limits_are_these_numbers.Goals as goal

pub returns : goal.returns
returns c = record {
  name = refl;
  path = refl;
  file = refl;
  link = refl;
  components = refl;
  text = refl;
  set = refl;
  word = refl;
  source = refl;
  scripts = refl;
  txns = refl;
  levels = refl;
  report = refl;
  report_word = refl;
  nodes = refl;
  bytes = refl;
  table = refl;
  entries = refl;
  views_word = refl;
}
