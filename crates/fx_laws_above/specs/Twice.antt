-- Definitions that two crates say, since neither stands on the other: they say the same.
use Rattle.std.specs.Prelude.{◌≡◌, ◌<◌, ℕ, ◌+◌, ◌-◌, true, cond, ◌&&◌, List, ◌++◌, length, nat_le, nat_lt, Option, Some, None, Result, Ok, Err}
use Rattle.std.specs.List.{list_all}
use Rattle.fx_outside.specs.Listing as listing
use Rattle.fx_outside.specs.Path as outside
use Rattle.fx_outside.specs.Path.{Parts}
use Rattle.fx_outside.specs.Tree.{Entry}
use Rattle.fx_store.specs.declared.limits.TheConstants.{MAX_PATH_NAMES, MAX_FILE_BYTES}
use Rattle.fx_store.specs.declared.node.Node.{Node}
use Rattle.fx_store.specs.Names as names
use Rattle.fx_store.specs.Names.{IsName}
use Rattle.fx_store.specs.Resolve.{parent, is_full}
use Rattle.fx_spec.specs.Edit as edit
use Rattle.fx_spec.specs.Move.{value_shape}
use Rattle.fx_spec.specs.WellShaped.{written_shape}
use Rattle.fx_spec.specs.Written.{DefTree, WrittenTree, part_tree}
use Rattle.fx_table.specs.declared.fault.FolderCause.{FolderCause}
use Rattle.fx_table.specs.declared.fault.FolderCause.TheVariants.{BadTable, TooLarge}
use Rattle.fx_table.specs.declared.line.TableLine.{TableLine}
use Rattle.fx_table.specs.Places.{place_of}
use Rattle.fx_table.specs.Table.{unless_lacking}
use Rattle.fx_folder.specs.Deep as folder

-- the first bad line, as a cause against the folder
abbrev pub bad_line : {A : Type 0} → Result A ℕ → Option FolderCause
bad_line (Ok lines) = None
bad_line (Err number) = Some (BadTable number)

pub record SaidTwice : Type 0 where
  pub order_of_names : listing.name_cmp ≡ names.name_cmp
  pub order_of_paths : outside.parts_cmp ≡ names.path_cmp
  pub path_above : outside.above ≡ parent
  pub last_name : folder.last_name ≡ edit.last_name
  pub shape : (defs : List DefTree) (n : ℕ) (s : WrittenTree) → value_shape (part_tree defs n s) ≡ written_shape s
  pub lacking_flags : (text : List ℕ) (lines : List TableLine) → folder.lacking text lines ≡ bad_line (unless_lacking text (Ok lines))

-- numerals of definitions, and the limits that they are
pub record NumeralsAreLimits : Type 0 where
  pub content : (bytes : List ℕ) → edit.is_content bytes ≡ (nat_le (length bytes) MAX_FILE_BYTES && list_all (λ b. nat_lt b 256) bytes)
  pub full : (path : List (List ℕ)) → is_full path ≡ nat_lt (MAX_PATH_NAMES - 1) (length path)
  pub levels : (path : List (List ℕ)) → edit.clear path ≡ edit.clear_levels (MAX_PATH_NAMES + 1 - length path) path
  pub deep : (here names : List (List ℕ)) (node : Node) → edit.is_too_deep here names node ≡ cond (nat_lt MAX_PATH_NAMES (length here + length names)) true (edit.lacks_room (here ++ names) node)
  pub loaded : (nodes left : ℕ) (names : Parts) (e : Entry) → IsName (folder.last_name names) → MAX_PATH_NAMES < length names → folder.refused_entry nodes left (names, e) ≡ Some (TooLarge (place_of names))
