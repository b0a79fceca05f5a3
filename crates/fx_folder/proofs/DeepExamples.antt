-- The examples of folders of some depth, computed.
use Rattle.fx_folder.proofs.Prelude.{refl, DeepExamples}
use Rattle.std.specs.Str.{is_utf8, chars}
use lib.Utf8.{encode}
use Rattle.fx_store.specs.Names.{is_name}

pub deep_examples : DeepExamples
unfolding is_name is_utf8 chars encode
deep_examples = record {
  nothing = refl;
  files = refl;
  links = refl;
  bad_line = refl;
  table_folder = refl;
  deep_table = refl;
  first = refl;
  flags = refl;
  flag_of_folder = refl;
  no_flags = refl;
}
