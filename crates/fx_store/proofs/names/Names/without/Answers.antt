use Rattle.std.proofs.Common.{◌≡◌, ap, sym, ◌∙◌}
use Rattle.std.proofs.lemmas.Result.{IfOk-weaker}
use Rattle.fx_base.specs.Sets.{without_name}
use Rattle.fx_base.proofs.Placing.{kept, removed}
use Rattle.fx_store.proofs.Placing.{IsNameSet-without}
use Rattle.fx_store.proofs.names.Names.without.Goals as goal
use Rattle.fx_store.proofs.names.Names.without.Goals.{In_ok-without-in-Ok}

fewer : (c : In_ok-without-in-Ok) → c.in_ok-without-in-Ok.field-0 ≡ without_name c.args.name.now c.self.inside.names
fewer c =
    c.in_ok-without-in-Ok.ensures
    ∙ removed c.self.inside.names c.args.name.now c.in-Ok.i c.self.invariant.set.ascending c.in-Ok.ensures.bound c.in-Ok.ensures.position

pub invariant_of-result : goal.invariant_of-result
invariant_of-result c = record {
  set = rw (fewer c) (IsNameSet-without _ _ c.self.invariant.set);
  same = c.in_ok-texts-in-Ok.ensures ∙ ap (without_name c.args.name.now) c.self.invariant.same ∙ sym (fewer c);
}

pub returns-in_ok-without-in-Ok : goal.returns-in_ok-without-in-Ok
returns-in_ok-without-in-Ok c = fewer c ∙ ap (without_name c.args.name.now) c.self.view_is

pub returns-in-Err : goal.returns-in-Err
returns-in-Err c =
    let same = kept c.self.inside.names c.args.name.now c.in-Err.field-0 c.self.invariant.set.ascending c.in-Err.ensures.position in
    IfOk-weaker c.copy.result _ _ (λ s e. e ∙ sym c.self.view_is ∙ same ∙ ap (without_name c.args.name.now) c.self.view_is) c.copy.ensures.copied
