-- The examples of tables, computed.
use Rattle.fx_table.proofs.Prelude.{refl, is_name}
use Rattle.std.specs.Str.{is_utf8, chars}
use lib.Utf8.{encode}
use Rattle.fx_table.specs.TableExamples.{TableExamples}

pub table_examples : TableExamples
unfolding is_name is_utf8 chars encode
table_examples = record {
  spaced_text = refl;
  three_text = refl;
  spaced_read = refl;
  three_read = refl;
  empty = refl;
  no_feed = refl;
  empty_line = refl;
  no_arrow = refl;
  lower_case = refl;
  needless_escape = refl;
  root = refl;
  no_path = refl;
  no_link_text = refl;
  taken = refl;
  no_parent = refl;
  twice = refl;
  below_link = refl;
  descending = refl;
  flagged_text = refl;
  flagged_read = refl;
  flag_of_folder = refl;
  flag_of_nothing = refl;
  flag_of_link = refl;
  flag_of_root = refl;
  flag_twice = refl;
  flag_of_no_path = refl;
  two_stars = refl;
  no_feed_behind_flag = refl;
  flag_of_version_1 = refl;
  version_alone = refl;
  version_without_feed = refl;
  version_in_vain = refl;
  version_of_links_with_a_bad_one = refl;
  version_twice = refl;
  version_3 = refl;
}
