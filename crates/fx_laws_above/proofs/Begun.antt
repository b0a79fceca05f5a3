-- The base of a run is one, and its report tells the rest.
use Rattle.std.proofs.Common.{◌≡◌, ℕ, ◌+◌, refl, ap, sym, subst, ◌∙◌, List, [], ◌∷◌, length}
use Rattle.fx_outside.specs.Tree.{Tree, bytes_at}
use Rattle.fx_folder.proofs.FolderLoads.{one_folder}
use Rattle.fx_spec.specs.CommandTree.{CommandTree}
use Rattle.fx_spec.specs.SpecTree.{SpecTree}
use Rattle.fx_spec.specs.Written.{text_tree}
use Rattle.fx_spec.specs.Order.{BaseTree, state}
use Rattle.fx_report.specs.Entries.{report}
use Rattle.fx_words.specs.Job.{Inputs}
use Rattle.fx_inputs.specs.Inputs.{HasSpec, HasScripts}
use Rattle.fx_laws.proofs.Texted.{one_description, one_script}
use Rattle.fx_laws.proofs.Spelled.{orders_are_spelled}
use Rattle.fx_laws_above.specs.Begun.{OneBase, IsRun, SameRun, ReportsTellTheState}

one_spec : (t : Tree) (inputs : Inputs) (s u : SpecTree) → HasSpec t inputs s → HasSpec t inputs u → s ≡ u
one_spec t inputs s u a b =
    a.describes.means ∙ (ap text_tree (one_description (bytes_at t inputs.spec) a.describes.written b.describes.written a.describes.read b.describes.read) ∙ sym b.describes.means)

one_plan : (t : Tree) (before : ℕ) (paths : List (List ℕ)) (p q : List (List (List CommandTree))) → HasScripts t before paths p → HasScripts t before paths q → p ≡ q
one_plan t before [] [] [] a b = refl
one_plan t before [] [] (y ∷ q) a b = absurd b
one_plan t before [] (x ∷ p) q a b = absurd a
one_plan t before (path ∷ paths) [] q a b = absurd a
one_plan t before (path ∷ paths) (x ∷ p) [] a b = absurd b
one_plan t before (path ∷ paths) (x ∷ p) (y ∷ q) a b =
    let same : x ≡ y = one_script (bytes_at t path) x y a.0.script.read b.0.script.read in
    let rest : p ≡ q = one_plan t (before + length x) paths p q a.1 (subst (λ z. HasScripts t (before + length z) paths q) (sym same) b.1) in
    (λ i. same i ∷ rest i)

pub one_base : OneBase
one_base t inputs a b x y =
    let description = one_spec t inputs a.description b.description x.spec y.spec in
    let plan = one_plan t 0 inputs.scripts a.plan b.plan x.scripts y.scripts in
    let loaded = one_folder t inputs.folder a.loaded b.loaded x.folder y.folder in
    (λ i. record { description = description i; plan = plan i; loaded = loaded i })

pub reports_tell_the_state : ReportsTellTheState
reports_tell_the_state t inputs a b o p r s x y same = by b (one_base t inputs a b x.begins y.begins) y same
  where
    by : (b : BaseTree) → a ≡ b → IsRun t inputs b p s → report a o r ≡ report b p s → SameRun a b o p r s
    by b is y same = subst (λ c. IsRun t inputs c p s → report a o r ≡ report c p s → SameRun a c o p r s) is from y same
      where
        from : IsRun t inputs a p s → report a o r ≡ report a p s → SameRun a a o p r s
        from y same =
            let spelled = orders_are_spelled a x.plan x.whole o p r s x.complete.legal y.complete.legal x.tried y.tried same in
            record { last = ap (λ o. state a o (length o)) spelled.0; order = spelled.0; retries = spelled.1 }
