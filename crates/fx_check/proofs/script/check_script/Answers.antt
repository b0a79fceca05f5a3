use Rattle.fx_check.proofs.Checking.{txns_are}
use Rattle.fx_check.proofs.script.check_script.Goals as goal

pub of-requires : goal.of-requires
of-requires c = λ k d within. record {
  shapes = (txns_are c.args.txns c.args.txns c.in-Ok.ensures).1 k d within;
  nested = (c.requires.small k d within).nested;
  few = (c.requires.small k d within).few;
}
