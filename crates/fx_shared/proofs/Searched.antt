-- The last version below a number, by its place.
use Rattle.std.proofs.Common.{◌≡◌, ℕ, zero, suc, ◌<◌, true, false, cond, ltb, List, [], ◌∷◌, length, get_or, Option, refl, ap, ◌∙◌, arith}
use Rattle.std.specs.List.{AllWithin}
use Rattle.fx_store.specs.declared.node.Node.{Node}
use Rattle.fx_shared.specs.declared.versions.Version.{Version}
use Rattle.fx_shared.specs.Versions.{version_at}

-- what the first so many of the versions have left; else what was there
abbrev pub left_by : Option Node → List Version → ℕ → Option Node
left_by was [] k = was
left_by was (v ∷ vs) zero = was
left_by was (v ∷ vs) (suc k) = left_by v.node vs k

module _ (i : ℕ) where
  abbrev Below : Version → Type 0
  Below v = ltb v.entry i ≡ true

  abbrev Above : Version → Type 0
  Above v = ltb v.entry i ≡ false

  pub version_at-left_by : (was : Option Node) (vs : List Version) (k : ℕ) → AllWithin Below vs 0 k → AllWithin Above vs k (length vs) → version_at was vs i ≡ left_by was vs k
  version_at-left_by was [] k below above = refl
  version_at-left_by was (v ∷ vs) zero below above =
      ap (λ was. version_at was vs i) (ap (λ b. cond b v.node was) (above 0 v (omega arith) (omega arith)))
      ∙ (version_at-left_by was vs zero (λ k d low high. absurd (omega (arith, high))) (λ k d low high. above (suc k) d (omega arith) (omega (arith, high))) ∙ at vs)
    where
      at : (vs : List Version) → left_by was vs zero ≡ was
      at [] = refl
      at (v ∷ vs) = refl
  version_at-left_by was (v ∷ vs) (suc k) below above =
      ap (λ was. version_at was vs i) (ap (λ b. cond b v.node was) (below 0 v (omega arith) (omega arith)))
      ∙ version_at-left_by v.node vs k (λ k d low high. below (suc k) d (omega arith) (omega (arith, high))) (λ k d low high. above (suc k) d (omega (arith, low)) (omega (arith, high)))

pub left_by-none : (was : Option Node) (vs : List Version) → left_by was vs 0 ≡ was
left_by-none was [] = refl
left_by-none was (v ∷ vs) = refl

pub left_by-last : (was : Option Node) (vs : List Version) (k : ℕ) (d : Version) → k < length vs → left_by was vs (suc k) ≡ (get_or vs k d).node
left_by-last was [] k d h = absurd (omega (arith, h))
left_by-last was (v ∷ vs) zero d h = left_by-none v.node vs
left_by-last was (v ∷ vs) (suc k) d h = left_by-last v.node vs k d (omega (arith, h))
