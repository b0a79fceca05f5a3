use Rattle.std.proofs.Common.{◌∙◌}
use Rattle.fx_store.proofs.NameTests.{is_utf8-read}
use Rattle.fx_store.proofs.name.is_text.Goals as goal

pub returns : goal.returns
returns c = c.is_ok.ensures.value ∙ is_utf8-read c.args.bytes.now _ _ c.from_utf8.result c.from_utf8.ensures.cases
