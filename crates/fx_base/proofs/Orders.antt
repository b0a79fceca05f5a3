-- What comparisons say, of lists of bytes too.
use Rattle.std.proofs.Common.{◌≡◌, ℕ, true, false, List, [], ◌∷◌, nat_eq, refl, sym, ap, ◌∙◌}
use Rattle.std.specs.declared.cmp.Ordering.{Ordering}
use Rattle.std.specs.declared.cmp.Ordering.TheVariants.{Less, Equal, Greater}
use Rattle.std.specs.Ordering.{is_eq, is_lt, nat_cmp, ordering_then, eq_by_cmp}
use Rattle.std.specs.Cmp.{eq_by_cmp_equiv}
use Rattle.std.specs.Cmp.Lexicographic.{pointwise, slice_cmp, texts_ties, nat_list_cmp_total, nat_list_eq_equiv}
use Rattle.std.proofs.lemmas.Bool.{false≢true, and_parts}
use Rattle.std.proofs.lemmas.Map.Lookups.{exact_bytes}

pub is_less : (r : Ordering) → is_lt r ≡ true → r ≡ Less
is_less Less e = refl
is_less Equal e = absurd (false≢true e)
is_less Greater e = absurd (false≢true e)

pub is_tie : (r : Ordering) → is_eq r ≡ true → r ≡ Equal
is_tie Less e = absurd (false≢true e)
is_tie Equal e = refl
is_tie Greater e = absurd (false≢true e)

pub then_equal : (r : Ordering) → ordering_then r Equal ≡ r
then_equal Less = refl
then_equal Equal = refl
then_equal Greater = refl

pub then_equal_ties : (r : Ordering) → is_eq (ordering_then r Equal) ≡ is_eq r
then_equal_ties r = ap is_eq (then_equal r)

pub then_greater : (r : Ordering) → is_eq (ordering_then r Greater) ≡ false
then_greater Less = refl
then_greater Equal = refl
then_greater Greater = refl

-- ---- lists of bytes

pub bytes_itself : (x : List ℕ) → pointwise nat_eq x x ≡ true
bytes_itself x = nat_list_eq_equiv.refl x

-- bytes that pass the test of equality are the same
pub nat_list_exact : (x y : List ℕ) → pointwise nat_eq x y ≡ true → x ≡ y
nat_list_exact x y e = exact_bytes x y (is_tie (slice_cmp nat_cmp x y) (sym (texts_ties x y) ∙ e))

pub texts_exact : (xs ys : List (List ℕ)) → pointwise (pointwise nat_eq) xs ys ≡ true → xs ≡ ys
texts_exact [] [] e = refl
texts_exact [] (y ∷ ys) e = absurd (false≢true e)
texts_exact (x ∷ xs) [] e = absurd (false≢true e)
texts_exact (x ∷ xs) (y ∷ ys) e = let parts = and_parts (pointwise nat_eq x y) (pointwise (pointwise nat_eq) xs ys) e in λ i. nat_list_exact x y parts.0 i ∷ texts_exact xs ys parts.1 i

-- the two tests of equality agree
pub bytes_tie : (x y : List ℕ) → eq_by_cmp (slice_cmp nat_cmp) x y ≡ pointwise nat_eq y x
bytes_tie x y = (eq_by_cmp_equiv nat_list_cmp_total).symm x y ∙ sym (texts_ties y x)
