-- A text that is read ahead of those that it follows.
use Rattle.std.proofs.Common.{◌≡◌, ℕ, List, length, sym, ap, subst, ◌∙◌}
use Rattle.std.specs.Prelude.{Ok}
use Rattle.fx_check.specs.Gives.{IsScriptAnswer}
use Rattle.fx_grammar.specs.Texts as texts
use Rattle.fx_spec.specs.CommandTree.{CommandTree}
use Rattle.fx_spec.specs.WellShaped.{IsScript}
use Rattle.fx_command.specs.Ahead.{IsAlone}
use Rattle.fx_command.specs.Scripted.{Scripts}
use Rattle.fx_command.specs.declared.source.Alone.{Alone}

abbrev Txns : Type 0
Txns = List (List CommandTree)

pub found_alone : (text : List ℕ) (txns : Txns) (alone : Alone) → texts.IsScript text txns → ((others : Txns) → texts.IsScript text others → txns ≡ others) → IsScriptAnswer 0 txns (Ok alone.script) → alone.count ≡ length txns → IsScript alone.script → IsAlone text alone
found_alone text txns alone read only found count shaped = record {
  read = subst (λ x. Scripts text 0 x) (sym found.0) (record { read = read; fits = found.1; few = found.2 });
  only = λ others is. sym (only others is.read) ∙ sym found.0;
  shaped = shaped;
  count = count ∙ ap (λ x. length x) (sym found.0);
}
