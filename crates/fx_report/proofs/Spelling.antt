-- How bytes are spelled one behind another.
use Rattle.std.proofs.Common.{◌≡◌, ℕ, ◌+◌, ◌<◌, List, ◌∷◌, ◌++◌, length, take, drop, get_or, sym, ap, ◌∙◌, append_assoc}
use Rattle.std.specs.List.{flat_map}
use Rattle.std.proofs.lemmas.Grind.{flat_map-append}
use Rattle.fx_base.proofs.Lists.{parts_at}
use Rattle.fx_report.specs.Print.{spelled}

pub spelled_append : (a b : List ℕ) → flat_map spelled (a ++ b) ≡ flat_map spelled a ++ flat_map spelled b
spelled_append a b = flat_map-append spelled a b

pub next_spelled : (out plain all first bytes rest later : List ℕ) (n : ℕ) → out ++ flat_map spelled rest ≡ first ++ flat_map spelled bytes → n < length rest → flat_map spelled (take n rest) ≡ take n rest → plain ≡ out ++ take n rest → all ≡ plain ++ spelled (get_or rest n 0) → later ≡ drop (n + 1) rest → all ++ flat_map spelled later ≡ first ++ flat_map spelled bytes
next_spelled out plain all first bytes rest later n so_far less same added grown left =
    let c = get_or rest n 0 in
    let behind = flat_map spelled (drop (n + 1) rest) in
    ap (λ l. all ++ flat_map spelled l) left
    ∙ (ap (λ a. a ++ behind) (grown ∙ ap (λ p. p ++ spelled c) added)
    ∙ (append_assoc (out ++ take n rest) (spelled c) behind
    ∙ (append_assoc out (take n rest) (spelled c ++ behind)
    ∙ (ap (λ t. out ++ (t ++ (spelled c ++ behind))) (sym same)
    ∙ (ap (λ t. out ++ t) (sym (spelled_append (take n rest) (c ∷ drop (n + 1) rest)))
    ∙ (ap (λ t. out ++ flat_map spelled t) (sym (parts_at rest n 0 less)) ∙ so_far))))))
