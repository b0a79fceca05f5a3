-- The small examples, computed.
use Rattle.std.proofs.Common.{refl}
use Rattle.std.specs.Fmt.{digits}
use Rattle.std.specs.Str.{is_utf8, chars}
use lib.Utf8.{encode}
use Rattle.fx_store.specs.Names.{is_name}
use Rattle.fx_laws.specs.Small.{ExpressionExamples, ExtendedExamples, LinkTextExamples, PathTextExamples}

pub expression_examples : ExpressionExamples
unfolding digits
expression_examples = record { lines = refl; negative = refl; leading_zeros = refl; no_digits = refl; plus_sign = refl; decimal = refl; chosen = refl; least = refl; above_greatest = refl }

pub extended_examples : ExtendedExamples
unfolding is_utf8 chars encode is_name
extended_examples = record { two_names = refl; empty = refl; empty_name = refl; parent = refl; leading_slash = refl }

pub link_text_examples : LinkTextExamples
unfolding is_utf8 chars encode is_name
link_text_examples = record { root = refl; parent = refl; own_directory = refl; trailing_slash = refl; empty = refl }

pub path_text_examples : PathTextExamples
unfolding is_utf8 chars encode is_name
path_text_examples = record { root = refl; one_name = refl; no_slash = refl; trailing_slash = refl }
