-- What the worker of the views has answered, view by view.
use Rattle.std.proofs.Common.{◌≡◌, ℕ, ◌+◌, ◌<◌, ◌≤◌, List, [], ◌∷◌, ◌++◌, length, take, Some, refl, sym, ap, subst, ◌∙◌, arith}
use Rattle.std.specs.FinMap.{get}
use Rattle.std.proofs.lemmas.Option.{same_Some}
use Rattle.fx_base.proofs.Lists.{take_next, some_at}
use Rattle.fx_store.specs.Whole.{Nodes, IsWhole}
use Rattle.fx_spec.specs.CommandTree.{CommandTree}
use Rattle.fx_spec.specs.SpecTree.{SpecTree}
use Rattle.fx_spec.specs.Plans.{Turn, script_of, txn_of}
use Rattle.fx_spec.specs.Order.{BaseTree, state}
use Rattle.fx_spec.specs.Transaction.{outputs, end}
use Rattle.fx_spec.proofs.Transactions.{states_are_whole}
use Rattle.fx_machine.specs.declared.attempt.Attempt.{Attempt}
use Rattle.fx_machine.specs.Explained.{IsExplained}
use Rattle.fx_turn.specs.Histories.{Begins}
use Rattle.fx_shared.specs.Passes.{LogView}
use Rattle.fx_shared.proofs.Truths.{begins_short, state_later}
use Rattle.fx_report.specs.declared.printed.View.{View}
use Rattle.fx_shared.specs.Past.{AreAt}
use Rattle.fx_views.specs.Viewing.{AreAlike, IsViewSeen}
use Rattle.fx_views.specs.Views.{IsView, AreViewsFrom, AreViews}

-- an attempt whose reads are of one state is the transaction, run whole there
pub view_there : (base views : BaseTree) (v : LogView) (position txn : ℕ) (a : Attempt) (seen : View) → AreAlike base views → IsWhole (get views.loaded) → v.base ≡ Some base → position ≤ length v.seen → AreAt v position a.reads → a.shell ≡ 0 → a.txn ≡ txn → IsExplained views a → seen.position ≡ position → seen.outputs ≡ a.outputs → seen.end ≡ a.end → IsViewSeen base views txn v seen
view_there base views v position txn a seen alike whole based within stand shell number explained here outs ends t planned =
    let turn : txn_of views.plan (a.shell, a.txn) ≡ txn_of views.plan (0, txn) = ap (λ k. txn_of views.plan (k, a.txn)) shell ∙ ap (λ j. txn_of views.plan (0, j)) number in
    let same : explained.txn ≡ t = same_Some explained.txn t (sym explained.planned ∙ (turn ∙ planned)) in
    let all : IsWhole (get (state base v.seen position)) = states_are_whole base (subst (λ (n : Nodes). IsWhole (get n)) alike.loaded whole) v.seen position in
    let runs = explained.runs (state base v.seen position) all (stand base based) in
    record {
      within = omega (arith, here, within);
      outputs =
          ap (λ p. outputs base.description t (get (state base v.seen p))) here
          ∙ (ap (λ (u : List CommandTree). outputs base.description u (get (state base v.seen position))) (sym same)
          ∙ (ap (λ (d : SpecTree). outputs d explained.txn (get (state base v.seen position))) (sym alike.description) ∙ (runs.outputs ∙ sym outs)));
      end =
          ap (λ p. end base.description t (get (state base v.seen p))) here
          ∙ (ap (λ (u : List CommandTree). end base.description u (get (state base v.seen position))) (sym same)
          ∙ (ap (λ (d : SpecTree). end d explained.txn (get (state base v.seen position))) (sym alike.description) ∙ (runs.end ∙ sym ends)));
    }

-- the same over a longer order
view_later : (base : BaseTree) (t : List CommandTree) (o o' : List Turn) (v : View) → Begins o o' → IsView base t o v → IsView base t o' v
view_later base t o o' v b is =
    let same = state_later base o o' v.position b is.within in
    record {
      within = (let longer = begins_short o o' b in let within = is.within in omega (arith, longer, within));
      outputs = ap (λ (n : Nodes). outputs base.description t (get n)) same ∙ is.outputs;
      end = ap (λ (n : Nodes). end base.description t (get n)) same ∙ is.end;
    }

views_later_from : (base : BaseTree) (o o' : List Turn) (least : ℕ) (ts : List (List CommandTree)) (vs : List View) → Begins o o' → AreViewsFrom base o least ts vs → AreViewsFrom base o' least ts vs
views_later_from base o o' least [] [] b are = tt
views_later_from base o o' least [] (v ∷ vs) b are = are
views_later_from base o o' least (t ∷ ts) [] b are = are
views_later_from base o o' least (t ∷ ts) (v ∷ vs) b are = (are.0, view_later base t o o' v b are.1, views_later_from base o o' v.position ts vs b are.2)

pub views_later : (base : BaseTree) (ts : List (List CommandTree)) (o o' : List Turn) (vs : List View) → Begins o o' → AreViews base ts o vs → AreViews base ts o' vs
views_later base ts o o' vs b are = views_later_from base o o' 0 ts vs b are

-- and with one more view, at a state that none of those before is later than
views_push : (base : BaseTree) (o o' : List Turn) (least : ℕ) (ts : List (List CommandTree)) (vs : List View) (t : List CommandTree) (v : View) → Begins o o' → least ≤ length o → length o ≤ v.position → IsView base t o' v → AreViewsFrom base o least ts vs → AreViewsFrom base o' least (ts ++ t ∷ []) (vs ++ v ∷ [])
views_push base o o' least [] [] t v b low up is are = (omega (arith, low, up), is, tt)
views_push base o o' least [] (w ∷ vs) t v b low up is are = absurd are
views_push base o o' least (u ∷ ts) [] t v b low up is are = absurd are
views_push base o o' least (u ∷ ts) (w ∷ vs) t v b low up is are = (are.0, view_later base u o o' w b are.1, views_push base o o' w.position ts vs t v b are.1.within up is are.2)

-- the next view is answered
pub views_next : (base views : BaseTree) (txn : ℕ) (o : List Turn) (now : LogView) (vs all : List View) (v : View) → txn < length (script_of views.plan 0) → Begins o now.seen → length o ≤ v.position → IsViewSeen base views txn now v → AreViews base (take txn (script_of views.plan 0)) o vs → all ≡ vs ++ v ∷ [] → AreViews base (take (txn + 1) (script_of views.plan 0)) now.seen all
views_next base views txn o now vs all v inside b up is are pushed =
    let t = some_at (script_of views.plan 0) txn inside in
    let more = views_push base o now.seen 0 (take txn (script_of views.plan 0)) vs t.0 v b (omega arith) up (is t.0 t.1) are in
    subst (AreViews base (take (txn + 1) (script_of views.plan 0)) now.seen) (sym pushed) (subst (λ ts. AreViews base ts now.seen (vs ++ v ∷ [])) (sym (take_next (script_of views.plan 0) txn t.0 t.1)) more)

-- ---- the view that was answered last

abbrev end_of : View → List View → View
end_of v [] = v
end_of v (w ∷ ws) = end_of w ws

end_is : (d v : View) (vs : List View) → end_of d (vs ++ v ∷ []) ≡ v
end_is d v [] = refl
end_is d v (w ∷ ws) = end_is w v ws

pub last_same : (vs ws : List View) (v w : View) → vs ++ v ∷ [] ≡ ws ++ w ∷ [] → v ≡ w
last_same vs ws v w same = sym (end_is v v vs) ∙ ap (end_of v) same ∙ end_is v w ws
