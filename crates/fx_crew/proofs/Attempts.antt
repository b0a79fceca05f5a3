-- What an attempt over live looks says.
use Rattle.std.proofs.Common.{◌≡◌, ℕ, [], length, refl, subst}
use Rattle.fx_view.specs.ReadList.{ReadList}
use Rattle.fx_spec.specs.Order.{BaseTree}
use Rattle.fx_machine.specs.declared.attempt.Attempt.{Attempt}
use Rattle.fx_machine.specs.Explained.{IsExplained}
use Rattle.fx_machine.specs.Needs.{Foretells}
use Rattle.fx_shared.specs.Passes.{LogView}
use Rattle.fx_shared.proofs.Truths.{begins_short}
use Rattle.fx_board.proofs.Positions.{in_turn_from}
use Rattle.fx_shared.specs.Live.{Vouches}
use Rattle.fx_crew.specs.Working.{HasTried}

pub tried_by : (base : BaseTree) (shell txn : ℕ) (start now v w : LogView) (before : ReadList) (a : Attempt) → v ≡ start → w ≡ now → before ≡ [] → a.shell ≡ shell → a.txn ≡ txn → IsExplained base a → Foretells base (shell, txn) before a.reads → Vouches v w before a.reads → HasTried base shell txn start now a
tried_by base shell txn start now v w before a first last none whose number explained foretold vouches =
    let u = subst (λ before. Vouches start now before a.reads) none (subst (λ w. Vouches start w before a.reads) last (subst (λ v. Vouches v w before a.reads) first vouches)) in
    record {
      seen = u.seen;
      whose = whose;
      number = number;
      explained = explained;
      stand = u.stand;
      foretold = subst (λ before. Foretells base (shell, txn) before a.reads) none foretold;
      in_turn = in_turn_from (length start.seen) (length now.seen) a.reads u.in_turn (begins_short start.seen now.seen u.seen.seen) (λ path node position e. u.since path node position e refl);
    }
