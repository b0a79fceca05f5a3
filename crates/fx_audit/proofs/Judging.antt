-- The verdict on a legal order that lacks a transaction, and whose entries tell their answers.
use Rattle.std.proofs.Common.{◌≡◌, ℕ, List, sym, subst}
use Rattle.fx_spec.specs.Plans.{Turn}
use Rattle.fx_spec.specs.Order.{BaseTree, IsLegal}
use Rattle.fx_machine.specs.declared.retry.Retry.{Retry}
use Rattle.fx_report.specs.declared.printed.PrintedEntry.{PrintedEntry}
use Rattle.fx_audit.specs.declared.verdict.Verdict.TheVariants as verdict
use Rattle.fx_audit.specs.Places.{ArePlaces}
use Rattle.fx_audit.specs.Verdicts.{order_told, AllAnswered, IsFirstMissing, IsVerdict}

pub missing_said : (base b : BaseTree) (o : List Turn) (es : List PrintedEntry) (rs : List Retry) (table : List (List ℕ)) (shell txn : ℕ) → b ≡ base → ArePlaces base o table → order_told es ≡ o → AllAnswered base es
    → ((o : List Turn) → ArePlaces b o table → IsFirstMissing b o shell txn) → IsVerdict base es rs (verdict.Missing shell txn)
missing_said base b o es rs table shell txn same are order all is =
    let here : IsFirstMissing b o shell txn = is o (subst (λ b. ArePlaces b o table) (sym same) are) in
    let there : IsFirstMissing base o shell txn = subst (λ b. IsFirstMissing b o shell txn) same here in
    (subst (IsLegal base) (sym order) are.legal, all, subst (λ o. IsFirstMissing base o shell txn) (sym order) there)
