use Rattle.std.proofs.Common.{◌≡◌, ap, sym, ◌∙◌}
use Rattle.std.specs.List.{insert}
use Rattle.std.proofs.lemmas.Result.{IfOk-weaker}
use Rattle.fx_base.specs.Sets.{with_text}
use Rattle.fx_base.proofs.Placing.{inserted, present}
use Rattle.fx_store.proofs.Placing.{IsNameSet-with}
use Rattle.fx_store.proofs.names.Names.with.Goals as goal
use Rattle.fx_store.proofs.names.Names.with.Goals.{In_ok-with-in-Err}

more : (c : In_ok-with-in-Err) → c.in_ok-with-in-Err.field-0 ≡ with_text c.args.name.now c.self.inside.names
more c =
    let names = c.self.inside.names in
    c.in_ok-with-in-Err.ensures
    ∙ ap (insert names c.in-Err.i) c.in_ok-name-in-Err.ensures.copied
    ∙ inserted names c.args.name.now c.in-Err.i c.self.invariant.set.ascending c.in-Err.ensures.bound c.in-Err.ensures.position

pub invariant_of-result : goal.invariant_of-result
invariant_of-result c = record {
  set = rw (more c) (IsNameSet-with _ _ c.in_ok-name-in-Err.ensures.name c.self.invariant.set);
  same = c.in_ok-texts-in-Err.ensures ∙ ap (with_text c.args.name.now) c.self.invariant.same ∙ sym (more c);
}

pub returns-in_ok-with-in-Err : goal.returns-in_ok-with-in-Err
returns-in_ok-with-in-Err c = more c ∙ ap (with_text c.args.name.now) c.self.view_is

pub returns-in-Ok : goal.returns-in-Ok
returns-in-Ok c =
    let same = present c.self.inside.names c.args.name.now c.in-Ok.field-0 c.self.invariant.set.ascending c.in-Ok.ensures.bound c.in-Ok.ensures.position in
    IfOk-weaker c.copy.result _ _ (λ s e. e ∙ sym c.self.view_is ∙ same ∙ ap (with_text c.args.name.now) c.self.view_is) c.copy.ensures.copied
