use Rattle.std.proofs.Common.{◌≡◌, [], ◌++◌, ap, subst, ◌∙◌, rules}
use Rattle.std.specs.FinMap.{get}
use Rattle.fx_spec.specs.Bases.{base_tree}
use Rattle.fx_spec.specs.Order.{BaseTree}
use Rattle.fx_watch.specs.Validity.{has_value}
use Rattle.fx_watch.specs.WatchView.{AnswersFor}
use Rattle.fx_watch.specs.Lines.{valid_line}
use Rattle.fx_watch.proofs.Watchings.{started_with}
use Rattle.fx_watch.proofs.run.begin.Goals as goal

pub returns-in-Ok : goal.returns-in-Ok
returns-in-Ok g c =
    let base = g.B.Based.base in
    let watch = c.in_ok-watch.watch in
    let same = ap base_tree c.in_ok-base.ensures ∙ c.requires in
    let none : c.new-output.result.items ≡ [] = search rules in
    let loaded = ap (λ (b : BaseTree). b.loaded) same in
    let root = c.in_ok-watch.ensures.root ∙ ap (λ (b : BaseTree). b.description) same in
    let told = subst (λ nodes. AnswersFor watch (get nodes)) loaded c.in_ok-watch.ensures.told in
    started_with base watch c.valid.result c.add_valid.new.output.items root told (c.valid.ensures (get base.loaded) told ∙ ap (λ r. has_value r (get base.loaded)) root) (c.in-Ok.ensures ∙ ap (λ o. o ++ valid_line c.valid.result) none)
