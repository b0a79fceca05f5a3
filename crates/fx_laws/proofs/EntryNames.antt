-- The names of a path are some bytes each, none of them a slash.
use Rattle.std.proofs.Common.{◌≡◌, ℕ, ◌<◌, true, false, not, List, [], ◌∷◌, length}
use Rattle.std.specs.Prelude.{nat_lt}
use Rattle.std.specs.List.{All, list_any}
use Rattle.std.specs.Str.{is_utf8}
use Rattle.std.proofs.lemmas.Bool.{and_parts, false≢true, not-true, or_parts}
use Rattle.std.proofs.lemmas.List.Elements.{All-head, All-tail}
use Rattle.fx_base.proofs.TextBytes.{utf8_bytes}
use Rattle.fx_store.specs.Names.{is_name, is_slash, IsName}
use Rattle.fx_report.specs.Readable.{AreEntryNames, IsEntryName, LacksSlash}

abbrev IsByte : ℕ → Type 0
IsByte b = b < 256

lacks_slash : (name : List ℕ) → All IsByte name → list_any is_slash name ≡ false → LacksSlash name
lacks_slash [] all none = tt
lacks_slash (b ∷ name) all none =
    let both = or_parts (is_slash b) (list_any is_slash name) none in
    (All-head IsByte b name all, both.0, lacks_slash name (All-tail IsByte b name all) both.1)

some_bytes : (name : List ℕ) → nat_lt 0 (length name) ≡ true → LacksSlash name → IsEntryName name
some_bytes [] some h = false≢true some
some_bytes (b ∷ name) some h = h

entry_name : (name : List ℕ) → IsName name → IsEntryName name
unfolding is_name
entry_name name is =
    let text = and_parts _ (is_utf8 name) is in
    let kept = and_parts _ _ text.0 in
    let no_nul = and_parts _ _ kept.0 in
    let no_slash = and_parts _ (not (list_any is_slash name)) no_nul.0 in
    let long = and_parts (nat_lt 0 (length name)) _ no_slash.0 in
    some_bytes name long.0 (lacks_slash name (utf8_bytes name text.1) (not-true (list_any is_slash name) no_slash.1))

pub entry_names : (path : List (List ℕ)) → All IsName path → AreEntryNames path
entry_names [] all = tt
entry_names (name ∷ path) all = (entry_name name (All-head IsName name path all), entry_names path (All-tail IsName name path all))
