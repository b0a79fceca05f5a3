-- A whole transaction, from its start.
use Rattle.std.proofs.Common.{◌≡◌, List, [], Option, Some, None, Result, Ok, Err, refl, ap, ◌∙◌, sym, subst}
use Rattle.std.specs.Prelude.{IfOk, IsErrAnd}
use Rattle.std.specs.Option.{unwrap_or}
use Rattle.fx_store.specs.Rule.{Known}
use Rattle.fx_spec.specs.declared.base.Base.{Base}
use Rattle.fx_spec.specs.declared.refusal.End.{End}
use Rattle.fx_spec.specs.CommandTree.{CommandTree, block}
use Rattle.fx_spec.specs.SpecTree.{SpecTree}
use Rattle.fx_spec.specs.Transaction.{Flow, flow_end, flow_outputs, run_block, transaction}
use Rattle.fx_spec.specs.WellShaped.{IsTransaction}
use Rattle.fx_expr.specs.Shapes.{BindingsHave}
use Rattle.fx_view.specs.declared.reader.Stop.{Stop}
use Rattle.fx_view.specs.Follows.{GoesBy}
use Rattle.fx_view.specs.Meaning.{Meaning}
use Rattle.fx_view.specs.Own.{AreRead, no_own, own_at}
use Rattle.fx_view.specs.ReadList.{ReadList}
use Rattle.fx_base.proofs.Errors.{err_of}
use Rattle.fx_view.proofs.Owning.{AreRead-none}
use Rattle.fx_view.proofs.Rulings.{by_same}
use Rattle.fx_session.specs.declared.session.Session.{Session}
use Rattle.fx_zip.specs.Fresh.{IsFresh}
use Rattle.fx_run.specs.declared.leave.Leave.{Leave}
use Rattle.fx_run.specs.declared.work.Work.{Work}
use Rattle.fx_run.specs.declared.pursuing.Ran.{Ran}
use Rattle.fx_run.specs.Course.{pursued, Pursues}
use Rattle.fx_run.specs.Leaving.{ended}
use Rattle.fx_run.specs.Pursuing.{Came, pursuit}
use Rattle.fx_run.specs.Scopes.{HasBlock}
use Rattle.fx_run.proofs.Going.{stop_as}
use Rattle.fx_run.specs.Works.{root_of, standing_of, reader_of, own_of, flow_by, came_by, IsSound, Obeys}

-- nothing bound, printed or changed yet, at the root description
pub record Begins {R L : Type 0} (root : SpecTree) (w : Work R L) : Type 0 where
  pub rooted : root_of w ≡ root
  pub address : w.walk.zip.address ≡ []
  pub own : own_of w ≡ []
  pub variables : w.variables ≡ []
  pub outputs : w.outputs ≡ []
  pub fresh : (reads : ReadList) (own : Known) → IsFresh reads own w.walk.zip

pub begins_from : {R L : Type 0} (w : Work R L) (s : Session R L) (clone base : Base) → clone ≡ base → root_of w ≡ clone.description → w.walk.zip.address ≡ [] → w.walk.session ≡ s → s.own ≡ [] → w.variables ≡ [] → w.outputs ≡ [] → ((reads : ReadList) (own : Known) → IsFresh reads own w.walk.zip) → Begins base.description w
begins_from {R = R} {L = L} w s clone base same root address session own variables outputs fresh = record {
  rooted = root ∙ ap (λ (b : Base). b.description) same;
  address = address;
  own = ap (λ (s : Session R L). s.own) session ∙ own;
  variables = variables;
  outputs = outputs;
  fresh = fresh;
}

pub begins_shaped : {R L : Type 0} {root : SpecTree} {w : Work R L} (t : List CommandTree) → Begins root w → IsTransaction t → HasBlock w.variables (block t)
begins_shaped t begins is = record { scope = []; bindings = subst (λ e. BindingsHave e []) (sym begins.variables) tt; shaped = is.shapes }

end_by : {R L : Type 0} (w : Work R L) (over : Option End) → flow_end (flow_by w over) ≡ unwrap_or over End.Done
end_by w None = refl
end_by w (Some end) = refl

ends_by : {R L : Type 0} (w : Work R L) (over : Option End) → flow_outputs (flow_by w over) ≡ w.outputs
ends_by w None = refl
ends_by w (Some end) = refl

module _ {R L : Type 0} (m : Meaning R) {root : SpecTree} {w : Work R L} (begins : Begins root w) where
  pub begins_sound : IsSound m w.walk
  begins_sound = record {
    fresh = begins.fresh (m.reads (reader_of w)) (own_at (own_of w));
    read = subst (λ own. AreRead own (m.reads (reader_of w))) (sym begins.own) (AreRead-none (m.reads (reader_of w)));
  }

  module _ (t : List CommandTree) {new : Work R L} (r : Result (Unit {0}) Leave) (h : Obeys m (run_block (root_of w) 0 (block t) (standing_of w)) w new r) where
    follows_whole : GoesBy m (came_by new) no_own (reader_of w) (reader_of new) (pursued root t) (ended r)
    unfolding transaction
    follows_whole =
        by_same m (came_by new) no_own (reader_of w) (reader_of new) (pursuit (own_of w) (run_block (root_of w) 0 (block t) (standing_of w))) (pursued root t) (ended r)
        (λ k. pursuit (begins.own k) (run_block (begins.rooted k) 0 (block t) (record { vars = begins.variables k; address = begins.address k; outputs = begins.outputs k }))) h.follows

    ran : (over : Option End) → GoesBy m (came_by new) no_own (reader_of w) (reader_of new) (pursued root t) (Ok over) → IsSound m new.walk → Pursues m root t (reader_of w) (reader_of new) (Ok (record { own = own_of new; outputs = new.outputs; over = over }))
    ran over goes sound = record {
      came = came_by new over;
      goes = goes;
      own = refl;
      outputs = ends_by new over;
      end = end_by new over;
      read = sound.read;
    }

    module _ (result : Result (Option End) Stop) (same : result ≡ ended r) where
      pub ran_to : (over : Option End) → result ≡ Ok over → Pursues m root t (reader_of w) (reader_of new) (Ok (record { own = own_of new; outputs = new.outputs; over = over }))
      ran_to over is =
          ran over
          (subst (λ (o : Result (Option End) Stop). GoesBy m (came_by new) no_own (reader_of w) (reader_of new) (pursued root t) o) (sym same ∙ is) follows_whole)
          (subst (λ (o : Result (Option End) Stop). IfOk o (λ _. IsSound m new.walk)) (sym same ∙ is) h.sound)

      pub ran_stopped : (why : Stop) (outcome : Result Ran Stop) → IsErrAnd outcome (λ d. d ≡ why) → result ≡ Err why → Pursues m root t (reader_of w) (reader_of new) outcome
      ran_stopped why outcome err is =
          subst (Pursues m root t (reader_of w) (reader_of new)) (sym (err_of outcome why err))
          (stop_as m (came_by new) no_own (reader_of w) (reader_of new) (pursued root t) (λ (c : Came Flow). c) why
          (subst (λ (o : Result (Option End) Stop). GoesBy m (came_by new) no_own (reader_of w) (reader_of new) (pursued root t) o) (sym same ∙ is) follows_whole))
