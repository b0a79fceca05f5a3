use Rattle.std.proofs.Common.{◌≡◌, ◌∷◌, ◌∙◌, [], List, Ok, map, ap, sym, subst}
use Rattle.std.specs.Slice.Iter.{iter_rest}
use Rattle.fx_spec.specs.CommandTree.{CommandTree, block}
use Rattle.fx_spec.specs.WellShaped.{Scope}
use Rattle.fx_check.specs.Faults.{◌>>=◌}
use Rattle.fx_check.specs.Checked.{checked_block, checked_txns}
use Rattle.fx_check.specs.Gives.{IsFault}
use Rattle.fx_check.proofs.Checking.{fault_then, handed, fine_before, fault_behind}
use Rattle.fx_check.proofs.script.check_txns.Goals as goal

pub returns-in_err-check_block : goal.returns-in_err-check_block
returns-in_err-check_block c =
    let t : List CommandTree = c.in-Some.txn.now.commands in
    let ts : List (List CommandTree) = map (λ t. t.commands) (iter_rest c.next.new.self) in
    let fault = c.in_err-check_block.field-0.0 in
    handed _ c.from_residual.result fault _ c.from_residual.ensures.1
    (c.loop-txn.invariant.fails fault
    (subst (λ (l : List (List CommandTree)). IsFault fault (checked_txns l)) (sym (ap (map (λ t. t.commands)) c.in-Some.ensures.steps))
    (fault_then fault (checked_block [] (block t)) (λ _. checked_txns ts >>= λ rest. Ok (t ∷ rest))
    (subst (λ (g : Scope). IsFault fault (checked_block g (block t))) c.new-scope.ensures c.in_err-check_block.ensures))))

pub loop-txn-preserved : goal.loop-txn-preserved
loop-txn-preserved c =
    let t : List CommandTree = c.in-Some.txn.now.commands in
    let ts : List (List CommandTree) = map (λ t. t.commands) (iter_rest c.next.new.self) in
    let front : map (λ t. t.commands) (iter_rest c.loop-txn.txn-iterator) ≡ t ∷ ts = ap (map (λ t. t.commands)) c.in-Some.ensures.steps in
    let is : checked_block [] (block t) ≡ Ok c.check_block.new.scope = ap (λ g. checked_block g (block t)) (sym c.new-scope.ensures) ∙ c.in_ok-check_block.ensures in
    record {
      fine = λ h. c.loop-txn.invariant.fine (subst (λ (l : List (List CommandTree)). checked_txns l ≡ Ok l) (sym front) (fine_before t ts c.check_block.new.scope is h));
      fails = λ fault h. c.loop-txn.invariant.fails fault (subst (λ (l : List (List CommandTree)). IsFault fault (checked_txns l)) (sym front) (fault_behind t ts c.check_block.new.scope is fault h));
    }
