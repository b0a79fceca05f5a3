-- The changes that a transaction's attempt keeps.
use Rattle.std.specs.Prelude.{◌≡◌, List, []}
use Rattle.fx_store.specs.declared.changes.Change.{Change}
use Rattle.fx_store.specs.Changes.{IsChanges}
use Rattle.fx_spec.specs.declared.refusal.End.{End}
use Rattle.fx_view.specs.OwnList.{OwnList}
use Rattle.fx_view.specs.ReadList.{ReadList}
use Rattle.fx_view.specs.Own.{IsNet}

-- what is left of the own changes if it is done, and else none
abbrev pub AreKept : End → OwnList → ReadList → List Change → Type 0
AreKept End.Done own reads changes = IsNet own reads changes × IsChanges changes
AreKept (End.Stopped i f) own reads changes = changes ≡ []
AreKept End.Aborted own reads changes = changes ≡ []
