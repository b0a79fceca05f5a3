-- One number that each event lowers, for loops over steps.
use Rattle.std.proofs.Common.{◌≡◌, inl, inr, ℕ, zero, suc, ◌+◌, ◌-◌, ◌*◌, ◌<◌, ◌≤◌, Bool, true, false, cond, [], ◌∷◌, length, refl, ap, subst, ◌∙◌, arith, length-append}
use Rattle.std.proofs.Math.Nat.{mul_comm}
use Rattle.std.proofs.lemmas.List.Sums.{sum_by-le, count_by-le-length}
use Rattle.std.proofs.lemmas.Nat.{mul-add-lt}
use Rattle.fx_spec.specs.Order.{BaseTree, first_numbers}
use Rattle.fx_machine.specs.declared.event.Event.{Event}
use Rattle.fx_machine.specs.Machine.{Machine, Step, looks_of}
use Rattle.fx_machine.specs.Measure.{Measure, measure, IsLower, most_paths, is_stale, has_left, looks_left, shells}
use Rattle.fx_machine.specs.Laws.{IsReached}
use Rattle.fx_machine.proofs.Lowering.{events_lower}

-- the three numbers as digits, where there are so many shells and a shell has so many looks left at most
weighed : ℕ → ℕ → Measure → ℕ
weighed count most m = (m.unsettled * suc count + m.stale) * suc (count * most) + m.looks

pub weight : BaseTree → Machine → ℕ
weight base m = weighed (length base.plan) most_paths (measure base m)

digits_lower : (x y w a b : ℕ) → x < y → a < w → x * w + a < y * w + b
digits_lower x y w a b h k = let below : x * w + a < w * y = mul-add-lt x w a y h k in let turned : w * y ≡ y * w = mul_comm w y in omega (arith, below, turned)

weighed_lower : (count most : ℕ) (a b : Measure) → a.stale ≤ count → a.looks ≤ count * most → IsLower a b → weighed count most a < weighed count most b
unfolding weighed
weighed_lower count most a b s l (inl h) =
    digits_lower (a.unsettled * suc count + a.stale) (b.unsettled * suc count + b.stale) (suc (count * most)) a.looks b.looks (digits_lower a.unsettled b.unsettled (suc count) a.stale b.stale h (omega arith)) (omega arith)
weighed_lower count most a b s l (inr (e, inl h)) =
    digits_lower (a.unsettled * suc count + a.stale) (b.unsettled * suc count + b.stale) (suc (count * most)) a.looks b.looks (let same : a.unsettled * suc count ≡ b.unsettled * suc count = ap (λ u. u * suc count) e in omega (arith, same, h)) (omega arith)
weighed_lower count most a b s l (inr (e, inr (f, h))) =
    let upper : a.unsettled * suc count + a.stale ≡ b.unsettled * suc count + b.stale = ap (λ u. u * suc count + a.stale) e ∙ ap (λ s. b.unsettled * suc count + s) f in
    let same : (a.unsettled * suc count + a.stale) * suc (count * most) ≡ (b.unsettled * suc count + b.stale) * suc (count * most) = ap (λ x. x * suc (count * most)) upper in
    omega (arith, same, h)

pub length_first : (n : ℕ) → length (first_numbers n) ≡ n
length_first zero = refl
length_first (suc n) = length-append (first_numbers n) (n ∷ []) ∙ (let e = length_first n in let f : length (first_numbers n) + 1 ≡ suc n = omega (arith, e) in f)

few_left : (b : Bool) (most n : ℕ) → cond b (most - n) 0 ≤ most
few_left true most n = omega arith
few_left false most n = omega arith

stale_fits : (base : BaseTree) (m : Machine) → (measure base m).stale ≤ length base.plan
unfolding measure
stale_fits base m = subst (λ n. (measure base m).stale ≤ n) (length_first (length base.plan)) (count_by-le-length (is_stale base m) (shells base))

looks_fit : (base : BaseTree) (m : Machine) → (measure base m).looks ≤ length base.plan * most_paths
unfolding measure
looks_fit base m = subst (λ n. (measure base m).looks ≤ n * most_paths) (length_first (length base.plan)) (sum_by-le (looks_left base m) most_paths (shells base) (λ k d h. few_left (has_left base m _) most_paths (length (looks_of m _))))

pub weight_falls : (base : BaseTree) (m m' : Machine) (e : Event) → IsReached base m → Step base m e m' → weight base m' < weight base m
unfolding weight
weight_falls base m m' e reached step =
    weighed_lower (length base.plan) most_paths (measure base m') (measure base m) (stale_fits base m') (looks_fit base m') (events_lower base m m' e reached step)
