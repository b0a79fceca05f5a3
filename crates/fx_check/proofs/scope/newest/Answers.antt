use Rattle.std.proofs.Common.{◌≡◌, ℕ, suc, ◌-◌, ◌<◌, ◌≤◌, true, List, ◌∷◌, length, map, drop, get_or, Some, None, nat_eq, ap, sym, ◌∙◌, arith}
use Rattle.std.specs.Cmp.Lexicographic.{pointwise}
use Rattle.std.proofs.Math.Seq.{drop-cons}
use Rattle.std.proofs.lemmas.List.{drop-map}
use Rattle.fx_expr.specs.Bindings.{bound}
use Rattle.fx_expr.proofs.Bound.{bound_drop, bound_here}
use Rattle.fx_check.specs.Scopes.{entry_shape}
use Rattle.fx_check.proofs.scope.newest.Goals as goal

-- a binding that a search from the end comes to, with none for the word after it
newest_is : {X Y : Type 0} (f : Y → List ℕ × X) (ys : List Y) (i : ℕ) (y : Y) (word : List ℕ) → 0 < i → i ≤ length ys → y ≡ get_or ys (i - 1) y
    → bound (map f (drop i ys)) word ≡ None → pointwise nat_eq (f y).0 word ≡ true → bound (map f ys) word ≡ Some (f y).1
newest_is f ys i y word low high here none same =
    let j : suc (i - 1) ≡ i = omega arith in
    let e : drop (i - 1) ys ≡ y ∷ drop i ys = drop-cons ys (i - 1) y (omega arith) ∙ (λ k. sym here k ∷ drop (j k) ys) in
    let g : drop (i - 1) (map f ys) ≡ f y ∷ map f (drop i ys) = drop-map f (i - 1) ys ∙ ap (λ l. map f l) e in
    bound_drop (map f ys) (i - 1) word (f y).1 (ap (λ l. bound l word) g ∙ bound_here (f y) (map f (drop i ys)) word none same)

pub returns-then-eq : goal.returns-then-eq
returns-then-eq c =
    sym (newest_is entry_shape c.args.bindings.now c.loop-i.i c.index-bindings-i.result c.args.word.now c.loop-i-test.true c.loop-i.invariant.0 c.index-bindings-i.is c.loop-i.invariant.1
    (sym c.if-eq.ensures))
