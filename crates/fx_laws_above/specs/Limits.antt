-- The numbers of the limits that definitions cite by name.
use Rattle.std.specs.Prelude.{◌≡◌}
use Rattle.fx_base.specs.declared.limits.TheConstants.{SOURCE_LIMIT, SHELL_LIMIT, TXN_LIMIT}
use Rattle.fx_store.specs.declared.limits.TheConstants.{MAX_NAME_BYTES, MAX_PATH_NAMES, MAX_FILE_BYTES, MAX_LINK_BYTES, MAX_LINK_COMPONENTS}
use Rattle.fx_text.specs.declared.set.TheConstants.{UNION_LIMIT}
use Rattle.fx_text.specs.declared.text.TheConstants.{TEXT_LIMIT}
use Rattle.fx_expr.specs.declared.word.TheConstants.{WORD_LIMIT}
use Rattle.fx_read_report.specs.declared.values.TheConstants.{VALUE_LEVELS}
use Rattle.fx_folder.specs.declared.limits.TheConstants.{MAX_NODES, MAX_BYTES, MAX_TABLE}
use Rattle.fx_disk.specs.declared.entries.TheConstants.{MOST_ENTRIES}
use Rattle.fx_inputs.specs.declared.views.TheConstants.{VIEWS_WORD}
use Rattle.fx_commands.specs.declared.auditing.reading.TheConstants.{REPORT_LIMIT, REPORT_WORD}

pub record LimitsAreThese : Type 0 where
  pub name : MAX_NAME_BYTES ≡ 255
  pub path : MAX_PATH_NAMES ≡ 64
  pub file : MAX_FILE_BYTES ≡ 1048576
  pub link : MAX_LINK_BYTES ≡ 4096
  pub components : MAX_LINK_COMPONENTS ≡ 64
  pub text : TEXT_LIMIT ≡ 1048576
  pub set : UNION_LIMIT ≡ 33554432
  pub word : WORD_LIMIT ≡ 64
  pub source : SOURCE_LIMIT ≡ 65536
  pub scripts : SHELL_LIMIT ≡ 64
  pub txns : TXN_LIMIT ≡ 100000
  pub levels : VALUE_LEVELS ≡ 64
  pub report : REPORT_LIMIT ≡ 268435456
  pub report_word : REPORT_WORD ≡ 3
  pub nodes : MAX_NODES ≡ 100000
  pub bytes : MAX_BYTES ≡ 67108864
  pub table : MAX_TABLE ≡ 33554432
  pub entries : MOST_ENTRIES ≡ 1000000
  pub views_word : VIEWS_WORD ≡ 4
