-- A path is read from its text.
use Rattle.std.proofs.Common.{◌≡◌, ℕ, List, Result, Ok, ap, sym, ◌∙◌}
use Rattle.fx_store.specs.declared.name.PathFault.{PathFault}
use Rattle.fx_store.specs.Faults.{read_path}
use Rattle.fx_store.proofs.PathLists.{read_path_text}
use Rattle.fx_laws.specs.PathTexts.{TextsTellPaths}

pub texts_tell_paths : TextsTellPaths
texts_tell_paths p q is_p is_q e =
    let read : ◌≡◌ {A = Result (List (List ℕ)) PathFault} (Ok p) (Ok q) = sym (read_path_text p is_p) ∙ (ap read_path e ∙ read_path_text q is_q) in
    cc
