-- Where all is read, nothing is refused, and all is there.
use Rattle.std.proofs.Common.{◌≡◌, inl, inr, ℕ, ◌+◌, length, subst, List, [], ◌∷◌, sym}
use Rattle.fx_base.proofs.Booleans.{never_both}
use Rattle.fx_outside.specs.Tree.{Tree, is_file_at, is_folder_at}
use Rattle.fx_spec.specs.CommandTree.{CommandTree}
use Rattle.fx_command.specs.declared.status.TextFault.{TextFault}
use Rattle.fx_inputs.specs.Inputs.{HasTexts, HasInputs, CannotRead, IsFirstRefused, HasScript, HasNoScript, HasScripts, StopsAtScript, LacksFile}
use Rattle.fx_words.specs.Job.{Inputs}

-- scripts that are all read are not stopped at
pub not_stopped : (stops : Tree → List ℕ → ℕ → Type 0) (t : Tree) (before : ℕ) (paths : List (List ℕ)) (plan : List (List (List CommandTree))) → ((path : List ℕ) (before : ℕ) (txns : List (List CommandTree)) → HasScript t path before txns → stops t path before → ⊥) → HasScripts t before paths plan → (i : ℕ) → StopsAtScript stops t before paths i → ⊥
not_stopped stops t before [] plan apart has i stopped = stopped
not_stopped stops t before (path ∷ paths) [] apart has i stopped = has
not_stopped stops t before (path ∷ paths) (txns ∷ plan) apart has i (inl here) = apart path before txns has.0 here.1
not_stopped stops t before (path ∷ paths) (txns ∷ plan) apart has i (inr later) =
    let read = later.3 in
    let same : txns ≡ later.2 = read.only txns has.0.script in
    not_stopped stops t (before + length txns) paths plan apart has.1 later.0 (subst (λ us. StopsAtScript stops t (before + length us) paths later.0) (sym same) later.4)

-- no text is refused
pub none_refused : (t : Tree) (inputs : Inputs) (word : ℕ) (cause : TextFault) → HasTexts t inputs → IsFirstRefused t inputs word cause → ⊥
none_refused t inputs word cause has (inl first) = first.1.refused.none has.0.0 has.0.1.describes
none_refused t inputs word cause has (inr second) = not_stopped (HasNoScript cause) t 0 inputs.scripts has.1.0 (λ path before txns read none. none.refused.none txns read.script) has.1.1 second.1.0 second.1.2

-- all is there
pub can_read : (t : Tree) (inputs : Inputs) → HasInputs t inputs → CannotRead t inputs → ⊥
can_read t inputs has (inl spec) = never_both (is_file_at t inputs.spec) has.0.0.1.file spec
can_read t inputs has (inr (inl scripts)) = not_stopped LacksFile t 0 inputs.scripts has.0.1.0 (λ path before txns read lacks. never_both (is_file_at t path) read.file lacks) has.0.1.1 scripts.1.0 scripts.1.1
can_read t inputs has (inr (inr folder)) = never_both (is_folder_at t inputs.folder) has.1.1.0 folder.1
