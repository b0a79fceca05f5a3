use Rattle.std.proofs.Common.{◌≡◌, ◌-◌, ◌+◌, ◌≤◌, ◌++◌, ◌∷◌, [], Ok, Err, Result, List, length, OnOk, OnErr, ap, ◌∙◌, arith}
use Rattle.std.proofs.lemmas.Result.{on_ok_weaker, on_err_weaker}
use Rattle.std.proofs.lemmas.List.{length-append}
use Rattle.fx_base.proofs.Chunking.{with_same, with_more, with_last}
use Rattle.fx_base.proofs.table.Table.push.Goals as goal

one_more : {X E : Type 0} (r : Result (Unit {0}) E) (xs ys : List X) (x : X) → OnOk r (ys ≡ xs ++ x ∷ []) → OnErr r (ys ≡ xs) → length ys ≤ length xs + 1
one_more (Ok _) xs ys x ok err = let a = ap length ok in let b = length-append xs (x ∷ []) in omega arith
one_more (Err _) xs ys x ok err = let a = ap length err in omega arith

pub invariant_of-self : goal.invariant_of-self
invariant_of-self g c =
    with_last c.self.inside.chunks.items c.self.invariant (c.len-last.result - 1) (omega arith) c.index_mut.result.now c.push.new.self c.index_mut.ensures.value c.push.ensures.before
    (one_more c.push.result _ _ c.args.item c.push.ensures.ok c.push.ensures.err)
    (let same = ap length c.self.view_is in let long = c.len.ensures.value in let few = c.if-len-ge-MOST.false in omega arith)

pub returns-then-has_room-clause-ok : goal.returns-then-has_room-clause-ok
returns-then-has_room-clause-ok g c =
    on_ok_weaker c.push.result (λ e. with_more c.self.inside.chunks.items c.self.invariant (c.len-last.result - 1) (omega arith) c.index_mut.result.now c.push.new.self c.index_mut.ensures.value c.push.ensures.before c.args.item e ∙ ap (λ ys. ys ++ c.args.item ∷ []) c.self.view_is) c.push.ensures.ok

pub returns-then-has_room-clause-err : goal.returns-then-has_room-clause-err
returns-then-has_room-clause-err g c =
    on_err_weaker c.push.result (λ e. with_same c.self.inside.chunks.items c.self.invariant (c.len-last.result - 1) (omega arith) c.index_mut.result.now c.push.new.self c.index_mut.ensures.value c.push.ensures.before e ∙ c.self.view_is) c.push.ensures.err
