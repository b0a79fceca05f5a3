-- What spelled texts give: their first byte, a path, a link text, a link.
use Rattle.std.specs.Prelude.{◌≡◌, ◌<◌, ◌≤◌, ℕ, List, length, drop, Option, Some, None}
use Rattle.fx_store.specs.declared.path.Path.{Path}
use Rattle.fx_store.specs.declared.link.LinkText.{LinkText}
use Rattle.fx_store.specs.Faults.{read_path, read_link}
use Rattle.fx_table.specs.Table.{TableLine, read_of, link_by, flag_by}
use Rattle.fx_table.specs.TableSpelling.{byte_before, unspelled}

-- a byte, and the characters behind those that spell it
pub record SpellsByte (text : List ℕ) (byte count : ℕ) : Type 0 where
  pub some : 0 < count
  pub within : count ≤ length text
  pub is : unspelled text ≡ byte_before (Some byte) (unspelled (drop count text))

-- the text spells bytes of which this is the first, or no bytes
abbrev pub IsFirstByte : List ℕ → Option (ℕ × ℕ) → Type 0
IsFirstByte text None = unspelled text ≡ None
IsFirstByte text (Some first) = SpellsByte text first.0 first.1

abbrev pub GivesPath : Option (List ℕ) → Option Path → Type 0
GivesPath bytes path = path ≡ read_of read_path bytes

abbrev pub GivesText : Option (List ℕ) → Option LinkText → Type 0
GivesText bytes text = text ≡ read_of read_link bytes

abbrev pub GivesLink : Option (List ℕ) → Option (List ℕ) → Option TableLine → Type 0
GivesLink path text line = line ≡ link_by (read_of read_path path) (read_of read_link text)

abbrev pub GivesFlag : Option (List ℕ) → Option TableLine → Type 0
GivesFlag path line = line ≡ flag_by (read_of read_path path)
