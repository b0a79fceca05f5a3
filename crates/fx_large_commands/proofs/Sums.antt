-- One more element in a count, and one more project in a sum.
use Rattle.std.proofs.Common.{◌≡◌, ℕ, suc, ◌+◌, Bool, cond, List, ◌∷◌, [], take, Some, ◌+ℤ◌, pos, refl, sym, ap, ◌∙◌, arith, codes}
use Rattle.std.specs.List.{slice_get, count_by}
use Rattle.std.specs.FinMap.{get}
use Rattle.std.proofs.lemmas.List.Sums.{sum_by_push}
use Rattle.fx_store.specs.Whole.{Nodes}
use Rattle.fx_gen.specs.Notes.{project}
use mir.Val.{bool_byte}
use Rattle.fx_base.proofs.Booleans.{byte_is}
use Rattle.fx_base.proofs.Lists.{take_next}
use Rattle.fx_large_commands.specs.Summary.{counted_at, logged_at, counted_to, logged_to}

pub count_next : {X : Type 0} (p : X → Bool) (xs : List X) (i : ℕ) (x : X) → slice_get xs i ≡ Some x → count_by p (take (i + 1) xs) ≡ count_by p (take i xs) + cond (p x) 1 0
count_next p xs i x is = ap (count_by p) (take_next xs i x is) ∙ sum_by_push (λ x. cond (p x) 1 0) (take i xs) x

-- a loop that counts goes on by one
pub one_more : {X : Type 0} (p : X → Bool) (xs : List X) (i : ℕ) (x : X) (count byte : ℕ) (b : Bool) → slice_get xs i ≡ Some x → count ≡ count_by p (take i xs) → b ≡ p x → byte ≡ bool_byte b → count + byte ≡ count_by p (take (i + 1) xs)
one_more p xs i x count byte b is was told one =
    ap (λ n. n + byte) was ∙ ap (λ n. count_by p (take i xs) + n) (one ∙ byte_is b ∙ ap (λ c. cond c 1 0) told) ∙ sym (count_next p xs i x is)

pub counted_none : (nodes : Nodes) → counted_to nodes 0 ≡ pos 0
unfolding counted_to
counted_none nodes = refl

pub counted_more : (nodes : Nodes) (n : ℕ) → counted_to nodes (n + 1) ≡ counted_to nodes n +ℤ counted_at (get nodes (project n ∷ codes "count" ∷ []))
unfolding counted_to
counted_more nodes n = let next : n + 1 ≡ suc n = omega arith in ap (counted_to nodes) next

pub logged_none : (nodes : Nodes) → logged_to nodes 0 ≡ 0
unfolding logged_to
logged_none nodes = refl

pub logged_more : (nodes : Nodes) (n : ℕ) → logged_to nodes (n + 1) ≡ logged_to nodes n + logged_at (get nodes (project n ∷ codes "log" ∷ []))
unfolding logged_to
logged_more nodes n = let next : n + 1 ≡ suc n = omega arith in ap (logged_to nodes) next
