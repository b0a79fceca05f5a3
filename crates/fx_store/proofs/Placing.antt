-- A set of names with one more, or without one, is a set of names.
use Rattle.std.proofs.Common.{ℕ, not, List}
use Rattle.std.specs.Prelude.{bytes_eq}
use Rattle.std.proofs.lemmas.List.Elements.{All-filter}
use Rattle.std.proofs.lemmas.List.Kept.{IsStrictlySortedBy-filter}
use Rattle.fx_base.specs.Sets.{with_text, without_name}
use Rattle.fx_base.proofs.Placing.{ascending_with, All-with}
use Rattle.fx_store.specs.Names.{IsName, IsNameSet, name_cmp}

pub IsNameSet-with : (name : List ℕ) (names : List (List ℕ)) → IsName name → IsNameSet names → IsNameSet (with_text name names)
IsNameSet-with name names is set = record {
  names = All-with IsName name names is set.names;
  ascending = ascending_with name names set.ascending;
}

pub IsNameSet-without : (name : List ℕ) (names : List (List ℕ)) → IsNameSet names → IsNameSet (without_name name names)
IsNameSet-without name names set = record {
  names = All-filter (λ m. not (bytes_eq name m)) IsName names set.names;
  ascending = IsStrictlySortedBy-filter name_cmp (λ m. not (bytes_eq name m)) names set.ascending;
}
