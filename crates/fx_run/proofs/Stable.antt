-- Nodes that are not different are equal.
use Rattle.std.proofs.Common.{◌≡◌, ◌≢◌, ℕ, Bool, true, false, List, [], ◌∷◌, Option, Some, None, refl, ap, ◌∙◌, sym}
use Rattle.std.specs.Ordering.{eq_by_cmp}
use Rattle.fx_base.proofs.Names.{path_itself}
use Rattle.fx_store.specs.declared.node.Node.{Node}
use Rattle.fx_store.specs.declared.node.Node.TheVariants.{File, Dir, Link}
use Rattle.fx_store.specs.Names.{path_cmp}
use Rattle.fx_store.specs.Orders.{path_eq_same}

abbrev Stable : {A : Type 0} → A → A → Type 0
Stable a b = (a ≢ b → ⊥) → a ≡ b

stable_path : (p q : List (List ℕ)) → Stable p q
stable_path p q h = at (eq_by_cmp path_cmp p q) refl
  where
    at : (b : Bool) → eq_by_cmp path_cmp p q ≡ b → p ≡ q
    at true is = path_eq_same p q is
    at false is = absurd (h (λ e. let wrong : true ≡ false = sym (path_itself p) ∙ ap (eq_by_cmp path_cmp p) e ∙ is in cc))

stable_text : (a b : List ℕ) → Stable a b
stable_text a b h = let same : a ∷ [] ≡ b ∷ [] = stable_path (a ∷ []) (b ∷ []) (λ f. h (λ e. f (ap (λ x. x ∷ []) e))) in cc

stable_flag : (a b : Bool) → Stable a b
stable_flag true true h = refl
stable_flag true false h = absurd (h (λ e. cc))
stable_flag false true h = absurd (h (λ e. cc))
stable_flag false false h = refl

pub stable_node : (m n : Option Node) → Stable m n
stable_node None None h = refl
stable_node None (Some n) h = absurd (h (λ e. cc))
stable_node (Some m) None h = absurd (h (λ e. cc))
stable_node (Some (File a exec)) (Some (File b was)) h =
    ap (λ x. Some (File x exec)) (stable_text a b (λ f. h (λ e. f cc))) ∙ ap (λ x. Some (File b x)) (stable_flag exec was (λ f. h (λ e. f cc)))
stable_node (Some (Dir a)) (Some (Dir b)) h = ap (λ x. Some (Dir x)) (stable_path a b (λ f. h (λ e. f cc)))
stable_node (Some (Link a)) (Some (Link b)) h = ap (λ x. Some (Link x)) (stable_text a b (λ f. h (λ e. f cc)))
stable_node (Some (File a exec)) (Some (Dir b)) h = absurd (h (λ e. cc))
stable_node (Some (File a exec)) (Some (Link b)) h = absurd (h (λ e. cc))
stable_node (Some (Dir a)) (Some (File b exec)) h = absurd (h (λ e. cc))
stable_node (Some (Dir a)) (Some (Link b)) h = absurd (h (λ e. cc))
stable_node (Some (Link a)) (Some (File b exec)) h = absurd (h (λ e. cc))
stable_node (Some (Link a)) (Some (Dir b)) h = absurd (h (λ e. cc))
