-- No rule wants memory.
use Rattle.std.proofs.Common.{◌≡◌, Bool, true, false, cond, nat_lt, ◌++◌, length, Ok, Err}
use Rattle.std.specs.Prelude.{Result}
use Rattle.std.specs.List.{list_all, slice_split}
use Rattle.fx_store.specs.declared.limits.TheConstants.{MAX_PATH_NAMES, MAX_LINK_COMPONENTS}
use Rattle.fx_store.specs.declared.name.PathFault.{PathFault}
use Rattle.fx_store.specs.declared.name.PathFault.TheVariants.{BadName, TooDeep, NoMemory}
use Rattle.fx_store.specs.Names.{is_slash, is_name, components, has_link_form}
use Rattle.fx_laws.specs.Wanting.{TextsWantNoMemory}

other : {A : Type 0} (valid deep : Bool) (a : A) → ◌≡◌ {A = Result A PathFault} (cond valid (cond deep (Err TooDeep) (Ok a)) (Err BadName)) (Err NoMemory) → ⊥
other true true a e = cc
other true false a e = cc
other false deep a e = cc

pub texts_want_no_memory : TextsWantNoMemory
texts_want_no_memory = record {
  paths = λ path text. other (list_all is_name (slice_split is_slash text)) (nat_lt MAX_PATH_NAMES (length (path ++ slice_split is_slash text))) (path ++ slice_split is_slash text);
  links = λ text. other (has_link_form text) (nat_lt MAX_LINK_COMPONENTS (length (components text))) text;
}
