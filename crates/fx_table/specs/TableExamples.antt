-- Small tables, and what they stand for over a folder that holds an empty file `f` and an empty folder `p`.
use Rattle.std.specs.Prelude.{◌≡◌, ℕ, false, List, [], ◌∷◌, ◌++◌, codes, Ok, Err}
use Rattle.std.specs.List.{flat_map}
use Rattle.fx_store.specs.declared.node.Node.TheVariants.{File, Dir}
use Rattle.fx_store.specs.Examples.{store_of}
use Rattle.fx_store.specs.Whole.{Store}
use Rattle.fx_table.specs.Table.{TableLine, Target, Executable, table_text, read_table}

abbrev pub base : Store
base = store_of (([], Dir (codes "f" ∷ codes "p" ∷ [])) ∷ (codes "f" ∷ [], File [] false) ∷ (codes "p" ∷ [], Dir []) ∷ [])

abbrev pub link : List (List ℕ) → List ℕ → TableLine
link path text = record { path = path; mark = Target text }

abbrev pub executable : List (List ℕ) → TableLine
executable path = record { path = path; mark = Executable }

-- each of the lines with its line feed
abbrev pub lines_with_feeds : List (List ℕ) → List ℕ
lines_with_feeds texts = flat_map (λ text. text ++ 10 ∷ []) texts

-- a name with a space, a `%` and a letter of two bytes
abbrev pub spaced : List TableLine
spaced = link ((codes "a b%" ++ 195 ∷ 169 ∷ []) ∷ []) (codes "../x") ∷ []

abbrev pub three : List TableLine
three = link (codes "a b" ∷ []) (codes "../x") ∷ link (codes "cur" ∷ []) (codes "p") ∷ link (codes "p" ∷ codes "up" ∷ []) (codes "/") ∷ []

-- a link and an executable file
abbrev pub flagged_table : List TableLine
flagged_table = link (codes "cur" ∷ []) (codes "p") ∷ executable (codes "f" ∷ []) ∷ []

abbrev pub second : List (List ℕ) → List ℕ
second texts = lines_with_feeds (codes "version 2" ∷ texts)

pub record TableExamples : Type 0 where
  pub spaced_text : table_text spaced ≡ lines_with_feeds (codes "/a%20b%25%C3%A9 -> ../x" ∷ [])
  pub three_text : table_text three ≡ lines_with_feeds (codes "/a%20b -> ../x" ∷ codes "/cur -> p" ∷ codes "/p/up -> /" ∷ [])
  pub spaced_read : read_table base (table_text spaced) ≡ Ok spaced
  pub three_read : read_table base (table_text three) ≡ Ok three
  pub empty : read_table base [] ≡ Ok []
  pub no_feed : read_table base (codes "/cur -> p") ≡ Err 1
  pub empty_line : read_table base (lines_with_feeds ([] ∷ [])) ≡ Err 1
  pub no_arrow : read_table base (lines_with_feeds (codes "/cur = p" ∷ [])) ≡ Err 1
  pub lower_case : read_table base (lines_with_feeds (codes "/a%2f -> p" ∷ [])) ≡ Err 1
  pub needless_escape : read_table base (lines_with_feeds (codes "/%61 -> p" ∷ [])) ≡ Err 1
  pub root : read_table base (lines_with_feeds (codes "/ -> p" ∷ [])) ≡ Err 1
  pub no_path : read_table base (lines_with_feeds (codes "a -> p" ∷ [])) ≡ Err 1
  pub no_link_text : read_table base (lines_with_feeds (codes "/a -> p/" ∷ [])) ≡ Err 1
  pub taken : read_table base (lines_with_feeds (codes "/p -> x" ∷ [])) ≡ Err 1
  pub no_parent : read_table base (lines_with_feeds (codes "/q/a -> x" ∷ [])) ≡ Err 1
  pub twice : read_table base (lines_with_feeds (codes "/l -> a" ∷ codes "/l -> b" ∷ [])) ≡ Err 2
  pub below_link : read_table base (lines_with_feeds (codes "/l -> p" ∷ codes "/l/a -> b" ∷ [])) ≡ Err 2
  pub descending : read_table base (lines_with_feeds (codes "/p-x -> a" ∷ codes "/p/up -> b" ∷ [])) ≡ Err 2
  pub flagged_text : table_text flagged_table ≡ second (codes "/cur -> p" ∷ codes "/f *" ∷ [])
  pub flagged_read : read_table base (table_text flagged_table) ≡ Ok flagged_table
  pub flag_of_folder : read_table base (second (codes "/p *" ∷ [])) ≡ Err 2
  pub flag_of_nothing : read_table base (second (codes "/cur -> p" ∷ codes "/e *" ∷ [])) ≡ Err 3
  pub flag_of_link : read_table base (second (codes "/cur -> p" ∷ codes "/cur *" ∷ [])) ≡ Err 3
  pub flag_of_root : read_table base (second (codes "/ *" ∷ [])) ≡ Err 2
  pub flag_twice : read_table base (second (codes "/f *" ∷ codes "/f *" ∷ [])) ≡ Err 3
  pub flag_of_no_path : read_table base (second (codes "f *" ∷ [])) ≡ Err 2
  pub two_stars : read_table base (second (codes "/f **" ∷ [])) ≡ Err 2
  pub no_feed_behind_flag : read_table base (codes "version 2" ++ 10 ∷ codes "/f *") ≡ Err 2
  pub flag_of_version_1 : read_table base (lines_with_feeds (codes "/f *" ∷ [])) ≡ Err 1
  pub version_alone : read_table base (second []) ≡ Err 1
  pub version_without_feed : read_table base (codes "version 2") ≡ Err 1
  pub version_in_vain : read_table base (second (codes "/cur -> p" ∷ [])) ≡ Err 1
  pub version_of_links_with_a_bad_one : read_table base (second (codes "/cur -> p" ∷ codes "/p -> x" ∷ [])) ≡ Err 3
  pub version_twice : read_table base (second (codes "version 2" ∷ codes "/f *" ∷ [])) ≡ Err 2
  pub version_3 : read_table base (lines_with_feeds (codes "version 3" ∷ codes "/f *" ∷ [])) ≡ Err 1
