-- `validate` and `value`.
use Rattle.std.proofs.Common.{◌≡◌, true, refl, ap, sym, ◌∙◌, Option, Some, None, Ok, is_some}
use Rattle.fx_store.specs.Rule.{Answer, answer, ◌>>=◌}
use Rattle.fx_store.proofs.Asks.{answer-bind}
use Rattle.fx_expr.specs.Tree.{Tree}
use Rattle.fx_spec.specs.declared.refusal.Refusal.{Refusal}
use Rattle.fx_spec.specs.Describe.{value}
use Rattle.fx_spec.specs.Move.{Answered, needed, of_shape, value_shape, whole_at, validate_at}
use Rattle.fx_spec.proofs.Shaped.{shape_itself}
use Rattle.fx_laws.specs.Valid.{ValidIsValued}

pub valid_is_valued : ValidIsValued
valid_is_valued S at = (there, back)
  where
    tells : answer S (validate_at at) ≡ Ok (Tree.bool (is_some (answer S (value at.path at.env at.spec))))
    tells = answer-bind S (value at.path at.env at.spec) (λ v. Answer (Ok (Tree.bool (is_some v))))

    gives : answer S (whole_at (value_shape at.spec) at) ≡ needed Refusal.Lacks (answer S (value at.path at.env at.spec))
    gives =
        ap (λ b. answer S (of_shape b (value at.path at.env at.spec >>= λ v. Answer (needed Refusal.Lacks v)))) (shape_itself (value_shape at.spec))
        ∙ answer-bind S (value at.path at.env at.spec) (λ v. Answer (needed Refusal.Lacks v))

    one : (o : Option Tree) → ◌≡◌ {A = Answered Tree} (Ok (Tree.bool (is_some o))) (Ok (Tree.bool true)) → (v : Tree) × (needed Refusal.Lacks o ≡ Ok v)
    one None e = cc
    one (Some v) e = (v, refl)

    other : (o : Option Tree) (v : Tree) → needed Refusal.Lacks o ≡ Ok v → ◌≡◌ {A = Answered Tree} (Ok (Tree.bool (is_some o))) (Ok (Tree.bool true))
    other None v e = cc
    other (Some w) v e = refl

    there : answer S (validate_at at) ≡ Ok (Tree.bool true) → (v : Tree) × (answer S (whole_at (value_shape at.spec) at) ≡ Ok v)
    there e = let found = one (answer S (value at.path at.env at.spec)) (sym tells ∙ e) in (found.0, gives ∙ found.1)

    back : (v : Tree) × (answer S (whole_at (value_shape at.spec) at) ≡ Ok v) → answer S (validate_at at) ≡ Ok (Tree.bool true)
    back found = tells ∙ other (answer S (value at.path at.env at.spec)) found.0 (sym gives ∙ found.1)
