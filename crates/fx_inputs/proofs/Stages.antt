-- From one stage of reading to the next.
use Rattle.std.proofs.Common.{◌≡◌, ℕ, List, Option, Some, None, IfSome, sym, ap, ◌∙◌, subst}
use Rattle.std.specs.FinMap.{get}
use Rattle.fx_store.specs.Whole.{Nodes, IsWhole}
use Rattle.fx_outside.specs.Host.{HostView, ReadsOnly}
use Rattle.fx_outside.specs.Tree.{Tree, IsWhole as IsWholeTree}
use Rattle.fx_folder.specs.HasFolder.{HasFolder}
use Rattle.fx_folder.specs.Loads.{Loads}
use Rattle.fx_folder.proofs.FolderLoads.{folder_loads, loads_folder, one_folder}
use Rattle.fx_spec.specs.SpecTree.{SpecTree}
use Rattle.fx_spec.specs.CommandTree.{CommandTree}
use Rattle.fx_spec.specs.Order.{BaseTree}
use Rattle.fx_words.specs.Job.{Inputs}
use Rattle.fx_inputs.specs.Inputs.{HasSpec, IsOnlySpec, HasScripts, AreOnlyScripts, HasSomeSpec, HasInputs, HasBase, IsOnlyBase}
use Rattle.fx_command.proofs.Told.{if_some_map, if_some_both, some_back}

abbrev Plan : Type 0
Plan = List (List (List CommandTree))

-- after a stage that only reads
pub then_told : (P : Tree → Type 0) (a b : HostView) → ReadsOnly a b → IfSome a.told P → IfSome b.told P
then_told P a b reads is = subst (λ o. IfSome o P) (sym reads.same) is

pub some_spec : (inputs : Inputs) (spec : SpecTree) (a b : HostView) → ReadsOnly a b → IfSome a.told (λ t. HasSpec t inputs spec) → IfSome b.told (λ t. HasSomeSpec t inputs)
some_spec inputs spec a b reads is = then_told (λ t. HasSomeSpec t inputs) a b reads (if_some_map (λ t. HasSpec t inputs spec) (λ t. HasSomeSpec t inputs) a.told (λ t is. (spec, is)) is)

three : (P Q R S : Tree → Type 0) (o : Option Tree) → ((t : Tree) → P t → Q t → R t → S t) → IfSome o P → IfSome o Q → IfSome o R → IfSome o S
three P Q R S None f p q r = tt
three P Q R S (Some t) f p q r = f t p q r

-- all that a run begins with
pub whole_base : (inputs : Inputs) (base : BaseTree) (spec : SpecTree) (plan : Plan) (nodes : Nodes) (a b c : HostView) → ReadsOnly a b → ReadsOnly b c → base ≡ record { description = spec; plan = plan; loaded = nodes } → IfSome a.told (λ t. HasSpec t inputs spec) → IfSome b.told (λ t. HasScripts t 0 inputs.scripts plan) → IfSome c.told (λ t. HasFolder t inputs.folder nodes) → IfSome a.told (λ t. HasBase t inputs base)
whole_base inputs base spec plan nodes a b c first then is has scripts loads =
    subst (λ base. IfSome a.told (λ t. HasBase t inputs base)) (sym is)
    (three (λ t. HasSpec t inputs spec) (λ t. HasScripts t 0 inputs.scripts plan) (λ t. HasFolder t inputs.folder nodes) (λ t. HasBase t inputs (record { description = spec; plan = plan; loaded = nodes })) a.told
    (λ t spec scripts folder. record { spec = spec; scripts = scripts; folder = folder }) has (some_back _ a b first scripts) (some_back _ a b first (some_back _ b c then loads)))

-- a base is all that is read
pub has_inputs : (t : Tree) (inputs : Inputs) (base : BaseTree) → HasBase t inputs base → HasInputs t inputs
has_inputs t inputs base is = (((base.description, is.spec), (base.plan, is.scripts)), (base.loaded, folder_loads t inputs.folder base.loaded is.folder))

pub has_inputs_told : (inputs : Inputs) (base : BaseTree) (told : Option Tree) → IfSome told (λ t. HasBase t inputs base) → IfSome told (λ t. HasInputs t inputs)
has_inputs_told inputs base told is = if_some_map (λ t. HasBase t inputs base) (λ t. HasInputs t inputs) told (λ t is. has_inputs t inputs base is) is

-- the folder that was loaded is that of the filestore, which is whole
pub folder_told : (path : List ℕ) (nodes : Nodes) (told : Option Tree) → IfSome told IsWholeTree → IsWhole (get nodes) → IfSome told (λ t. Loads t path nodes) → IfSome told (λ t. HasFolder t path nodes)
folder_told path nodes told whole store loads =
    if_some_both IsWholeTree (λ t. Loads t path nodes) (λ t. HasFolder t path nodes) told (λ t whole loads. loads_folder t whole path nodes store loads) whole loads

pub inputs_read : (inputs : Inputs) (base : BaseTree) (a b : HostView) → ReadsOnly a b → IfSome a.told (λ t. HasBase t inputs base) → IfSome b.told (λ t. HasInputs t inputs)
inputs_read inputs base a b reads is =
    then_told (λ t. HasInputs t inputs) a b reads
    (has_inputs_told inputs base a.told is)

-- ---- nothing else

abbrev made : SpecTree → Plan → Nodes → BaseTree
made spec plan nodes = record { description = spec; plan = plan; loaded = nodes }

same_base : (a b : BaseTree) → a.description ≡ b.description → a.plan ≡ b.plan → a.loaded ≡ b.loaded → a ≡ b
same_base a b spec plan nodes =
    ap (λ x. made x a.plan a.loaded) spec ∙ ap (λ x. made b.description x a.loaded) plan ∙ ap (λ x. made b.description b.plan x) nodes

base_alone : (t : Tree) (inputs : Inputs) (base : BaseTree) (spec : SpecTree) → base.description ≡ spec → IsOnlySpec t inputs spec → AreOnlyScripts t inputs base.plan → HasBase t inputs base → IsOnlyBase t inputs base
base_alone t inputs base spec is only_spec only_scripts has other others =
    same_base other base (only_spec other.description others.spec ∙ sym is) (only_scripts other.plan others.scripts) (one_folder t inputs.folder other.loaded base.loaded others.folder has.folder)

pub base_only : (inputs : Inputs) (base : BaseTree) (spec : SpecTree) (a b : HostView) → ReadsOnly a b → base.description ≡ spec → IfSome a.told (λ t. IsOnlySpec t inputs spec) → IfSome b.told (λ t. AreOnlyScripts t inputs base.plan) → IfSome b.told (λ t. HasBase t inputs base) → IfSome a.told (λ t. IsOnlyBase t inputs base)
base_only inputs base spec a b reads is only_spec only_scripts has =
    three (λ t. IsOnlySpec t inputs spec) (λ t. AreOnlyScripts t inputs base.plan) (λ t. HasBase t inputs base) (λ t. IsOnlyBase t inputs base) a.told
    (λ t only_spec only_scripts has. base_alone t inputs base spec is only_spec only_scripts has) only_spec (some_back _ a b reads only_scripts) (some_back _ a b reads has)
