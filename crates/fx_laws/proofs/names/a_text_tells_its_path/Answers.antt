use Rattle.fx_laws.proofs.PathTexts.{texts_tell_paths}
use Rattle.fx_laws.proofs.names.a_text_tells_its_path.Goals as goal

pub returns : goal.returns
returns c = texts_tell_paths
