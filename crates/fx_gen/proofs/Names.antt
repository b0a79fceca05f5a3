-- The names of the filestore are names, and stand in order.
use Rattle.std.proofs.Common.{◌≡◌, ℕ, Bool, true, ◌&&◌, List, [], ◌∷◌, map, refl}
use Rattle.std.specs.declared.cmp.Ordering.{Ordering}
use Rattle.std.specs.declared.cmp.Ordering.TheVariants.{Less}
use Rattle.std.specs.Ordering.{is_lt}
use Rattle.std.specs.List.{AllByRecursion, list_all}
use Rattle.std.specs.List.Sorted.{IsStrictlySortedBy}
use Rattle.std.specs.Str.{is_utf8, chars}
use Rattle.std.proofs.lemmas.Bool.{and_parts}
use Rattle.fx_store.specs.Names.{is_name, path_cmp}
use Rattle.fx_store.specs.Changes.{changed_paths}
use Rattle.fx_gen.specs.Notes.{projects, all_placed, made}
use lib.Utf8.{encode}
use Rattle.fx_base.proofs.Orders.{is_less}

abbrev pub in_order : {K : Type 0} → (K → K → Ordering) → List K → Bool
in_order R [] = true
in_order R (k ∷ ks) = list_all (λ l. is_lt (R k l)) ks && in_order R ks

above_each : {K : Type 0} (R : K → K → Ordering) (k : K) (ks : List K) → list_all (λ l. is_lt (R k l)) ks ≡ true → AllByRecursion (λ l. R k l ≡ Less) ks
above_each R k [] e = tt
above_each R k (l ∷ ks) e = let p = and_parts (is_lt (R k l)) (list_all (λ l. is_lt (R k l)) ks) e in (is_less (R k l) p.0, above_each R k ks p.1)

pub sorted : {K : Type 0} (R : K → K → Ordering) (ks : List K) → in_order R ks ≡ true → IsStrictlySortedBy R ks
unfolding IsStrictlySortedBy
sorted R [] e = tt
sorted R (k ∷ ks) e = let p = and_parts (list_all (λ l. is_lt (R k l)) ks) (in_order R ks) e in (above_each R k ks p.0, sorted R ks p.1)

pub paths_in_order : (number : ℕ) → in_order path_cmp (changed_paths (map made (all_placed number))) ≡ true
paths_in_order number = refl

pub are_names : list_all is_name projects ≡ true
unfolding is_utf8 chars encode is_name
are_names = refl
