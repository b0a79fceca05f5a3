-- What holds of each entry, while they become more.
use Rattle.std.proofs.Common.{◌≡◌, ◌++◌, ◌∷◌, [], List, arith}
use Rattle.std.specs.List.{All}
use Rattle.std.proofs.lemmas.List.Elements.{All-append, All-cons}

pub all_with : {X : Type 0} (P : X → Type 0) (xs ys : List X) (x : X) → ys ≡ xs ++ x ∷ [] → All P xs → P x → All P ys
all_with P xs ys x e before one = rw e (All-append P xs (x ∷ []) before (All-cons P x [] one (λ k d l. absurd (omega (arith, l)))))
