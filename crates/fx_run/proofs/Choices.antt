-- Commands with blocks: what their own expression decides.
use Rattle.std.proofs.Common.{◌≡◌, ℕ, ◌+◌, Bool, true, false, cond, List, Result, Ok, Err, refl, ap, sym, subst, ◌∙◌}
use Rattle.fx_expr.specs.Eval.{eval_of, names_in, truth_in}
use Rattle.fx_expr.specs.ExprTree.{ExprTree}
use Rattle.fx_spec.specs.CommandTree.{CommandTree, Block, count_block}
use Rattle.fx_spec.specs.Move.{evaluated}
use Rattle.fx_spec.specs.Task.{Task}
use Rattle.fx_spec.specs.Transaction.{Flow, within, each_in, run, run_block}
use Rattle.fx_session.specs.declared.session.Session.{Session}
use Rattle.fx_session.specs.Implements.{ticked}
use Rattle.fx_view.specs.Meaning.{Meaning}
use Rattle.fx_run.specs.declared.leave.Leave.{Leave}
use Rattle.fx_run.specs.declared.walk.Walk.{Walk}
use Rattle.fx_run.specs.declared.work.Work.{Work}
use Rattle.fx_run.specs.Leaving.{OrStops, answer_part}
use Rattle.fx_run.specs.Works.{root_of, standing_of, IsSound, Obeys}
use Rattle.fx_run.proofs.Obeyed.{Leaves, obeys_quiet, obeys_same}
use Rattle.fx_run.proofs.Cycles.{obeys_from}
use Rattle.fx_run.proofs.Quiet.{quiet_part_leaves, ticked_walk, of_part}

-- after the evaluation
abbrev pub behind : {R L : Type 0} → Work R L → Session R L → Work R L
behind w s = record { walk = record { zip = w.walk.zip; session = s }; variables = w.variables; outputs = w.outputs }

-- what stands after an evaluation is as sound as before
pub sound_on : {R L : Type 0} {m : Meaning R} (old : Walk R L) {s : Session R L} → s ≡ ticked old.session → IsSound m old → IsSound m (record { zip = old.zip; session = s })
sound_on {R = R} {L = L} {m = m} old one sound = subst (λ (s : Session R L). IsSound m (record { zip = old.zip; session = s })) (sym one) (record { fresh = sound.fresh; read = sound.read })

abbrev choice : {R L : Type 0} → Work R L → ℕ → Block → Block → Bool → Task Flow
choice w i first second b = within (standing_of w) (cond b (run_block (root_of w) (1 + i) first (standing_of w)) (run_block (root_of w) (1 + (i + count_block first)) second (standing_of w)))

abbrev repeats : {R L : Type 0} → Work R L → ℕ → List ℕ → Block → List (List ℕ) → Task Flow
repeats w i x b texts = each_in (λ s. run_block (root_of w) (1 + i) b s) x texts (standing_of w)

module _ {R L : Type 0} {m : Meaning R} (i : ℕ) (e : ExprTree) (old : Work R L) {s : Session R L} (one : s ≡ ticked old.walk.session) where
  module _ (yes no : Block) where
    pub choice_leaves : {r : Result (Unit {0}) Leave} (l : Leave) → IsSound m old.walk → OrStops {A = Bool} {X = Bool} i (λ b. b) (answer_part truth_in (evaluated (eval_of old.variables e))) (Err l) → Leaves r l → Obeys m (run (root_of old) i (CommandTree.branch e yes no) (standing_of old)) old (behind old s) r
    choice_leaves l sound stops is =
        obeys_quiet sound (quiet_part_leaves i (λ v. choice old i yes no (truth_in v)) (evaluated (eval_of old.variables e)) (ticked_walk old.walk one) truth_in (λ (b : Bool). b) l stops is refl)

    pub chosen_yes : {new : Work R L} {r : Result (Unit {0}) Leave} (n : ℕ) → n ≡ 1 + i → answer_part truth_in (evaluated (eval_of old.variables e)) ≡ Ok true → Obeys m (within (standing_of old) (run_block (root_of old) n yes (standing_of old))) (behind old s) new r → Obeys m (run (root_of old) i (CommandTree.branch e yes no) (standing_of old)) old new r
    chosen_yes n is holds h =
        obeys_same (within (standing_of old) (run_block (root_of old) n yes (standing_of old))) (run (root_of old) i (CommandTree.branch e yes no) (standing_of old))
        (ap (λ n. within (standing_of old) (run_block (root_of old) n yes (standing_of old))) is ∙ sym (of_part i (standing_of old) truth_in (evaluated (eval_of old.variables e)) true (choice old i yes no) holds))
        (obeys_from (ticked_walk old.walk one) h)

    pub chosen_no : {new : Work R L} {r : Result (Unit {0}) Leave} (n : ℕ) → n ≡ 1 + (i + count_block yes) → answer_part truth_in (evaluated (eval_of old.variables e)) ≡ Ok false → Obeys m (within (standing_of old) (run_block (root_of old) n no (standing_of old))) (behind old s) new r → Obeys m (run (root_of old) i (CommandTree.branch e yes no) (standing_of old)) old new r
    chosen_no n is holds h =
        obeys_same (within (standing_of old) (run_block (root_of old) n no (standing_of old))) (run (root_of old) i (CommandTree.branch e yes no) (standing_of old))
        (ap (λ n. within (standing_of old) (run_block (root_of old) n no (standing_of old))) is ∙ sym (of_part i (standing_of old) truth_in (evaluated (eval_of old.variables e)) false (choice old i yes no) holds))
        (obeys_from (ticked_walk old.walk one) h)

  module _ (x : List ℕ) (b : Block) where
    pub each_leaves : {r : Result (Unit {0}) Leave} (l : Leave) → IsSound m old.walk → OrStops {A = List (List ℕ)} {X = List (List ℕ)} i (λ s. s) (answer_part names_in (evaluated (eval_of old.variables e))) (Err l) → Leaves r l → Obeys m (run (root_of old) i (CommandTree.each x e b) (standing_of old)) old (behind old s) r
    each_leaves l sound stops is =
        obeys_quiet sound (quiet_part_leaves i (λ v. repeats old i x b (names_in v)) (evaluated (eval_of old.variables e)) (ticked_walk old.walk one) names_in (λ (s : List (List ℕ)). s) l stops is refl)

    pub repeated : {new : Work R L} {r : Result (Unit {0}) Leave} (n : ℕ) (texts : List (List ℕ)) → n ≡ 1 + i → answer_part names_in (evaluated (eval_of old.variables e)) ≡ Ok texts → Obeys m (each_in (λ s. run_block (root_of old) n b s) x texts (standing_of old)) (behind old s) new r → Obeys m (run (root_of old) i (CommandTree.each x e b) (standing_of old)) old new r
    repeated n texts is set h =
        obeys_same (each_in (λ s. run_block (root_of old) n b s) x texts (standing_of old)) (run (root_of old) i (CommandTree.each x e b) (standing_of old))
        (ap (λ n. each_in (λ s. run_block (root_of old) n b s) x texts (standing_of old)) is ∙ sym (of_part i (standing_of old) names_in (evaluated (eval_of old.variables e)) texts (repeats old i x b) set))
        (obeys_from (ticked_walk old.walk one) h)
