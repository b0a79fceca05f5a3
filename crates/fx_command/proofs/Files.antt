-- The description of a file, from what is read of it.
use Rattle.std.proofs.Common.{◌≡◌, ℕ, ◌≤◌, ◌<◌, List, length, IfSome, refl, sym, subst, arith}
use Rattle.fx_base.specs.Limits.{source_limit}
use Rattle.fx_outside.specs.Host.{HostView}
use Rattle.fx_outside.specs.Tree.{Tree, bytes_at}
use Rattle.fx_spec.specs.SpecTree.{SpecTree}
use Rattle.fx_command.specs.declared.status.TextFault.{TextFault}
use Rattle.fx_command.specs.declared.status.TextFault.TheVariants as fault
use Rattle.fx_command.specs.Reading.{ReadEnds}
use Rattle.fx_command.specs.Texts.{IsReadAt}
use Rattle.fx_command.proofs.Told.{if_some_map}
use Rattle.fx_command.specs.declared.fault.SourceFault.{SourceFault}
use Rattle.fx_command.specs.declared.fault.SourceFault.TheVariants as source
use Rattle.fx_command.specs.declared.reading.TheConstants.{SPEC_WORD}
use Rattle.fx_command.specs.Described.{Describes, IsRefusedFor, IsUndescribed}
use Rattle.fx_command.specs.Faults.{status_at}
use Rattle.fx_command.specs.Files.{IsDescriptionAt, IsNoDescriptionAt, IsOnlyDescriptionAt, description_reading}

-- a text that is within its limit was read whole; else so many bytes were read that it is none
whole : (t : Tree) (path text : List ℕ) (cause : TextFault) → IsReadAt t path source_limit text → length text ≤ 65536 → IsRefusedFor text cause → IsRefusedFor (bytes_at t path) cause
whole t path text cause read short is = subst (λ x. IsRefusedFor x cause) (read.whole short) is

too_large : (t : Tree) (path text : List ℕ) → IsReadAt t path source_limit text → 65536 < length text → IsRefusedFor (bytes_at t path) fault.TooLarge
too_large t path text read large = record {
  none = λ spec is. absurd (omega (arith, large, read.within, is.read.short));
  cause = omega (arith, large, read.within);
}

refused_whole : (t : Tree) (path text : List ℕ) (cause : TextFault) → IsReadAt t path source_limit text → IsRefusedFor text cause → IsRefusedFor (bytes_at t path) cause
refused_whole t path text fault.TooLarge read is = too_large t path text read is.cause
refused_whole t path text (fault.BadToken n) read is = whole t path text (fault.BadToken n) read is.cause.0 is
refused_whole t path text (fault.Unexpected n) read is = whole t path text (fault.Unexpected n) read is.cause.short is
refused_whole t path text (fault.TooNested n) read is = whole t path text (fault.TooNested n) read is.cause.short is
refused_whole t path text (fault.Unknown w) read is = whole t path text (fault.Unknown w) read is.cause.read.short is
refused_whole t path text (fault.TypeDiffers a b) read is = whole t path text (fault.TypeDiffers a b) read is.cause.read.short is
refused_whole t path text (fault.Repeated w) read is = whole t path text (fault.Repeated w) read is.cause.read.short is
refused_whole t path text fault.TooMany read is = whole t path text fault.TooMany read is.cause.read.short is

refused_at : (t : Tree) (path text : List ℕ) (cause : TextFault) → IsReadAt t path source_limit text → IsRefusedFor text cause → IsNoDescriptionAt t path cause
refused_at t path text cause read is = record { file = read.file; refused = refused_whole t path text cause read is }

pub description_refused : (path text : List ℕ) (host host' : HostView) (refusal : SourceFault) → IfSome host.told (λ t. IsReadAt t path source_limit text) → IsUndescribed text refusal → ReadEnds (description_reading path) host host' (status_at SPEC_WORD refusal)
description_refused path text host host' (source.Refused cause) read is =
    (refl, if_some_map (λ t. IsReadAt t path source_limit text) (λ t. IsNoDescriptionAt t path cause) host.told (λ t read. refused_at t path text cause read is) read)
description_refused path text host host' source.NoMemory read is = tt

described : (path text : List ℕ) (spec : SpecTree) (t : Tree) → Describes text spec → IsReadAt t path source_limit text → IsDescriptionAt t path spec
described path text spec t is read = record { file = read.file; describes = subst (λ x. Describes x spec) (read.whole is.read.short) is }

pub description_read : (path text : List ℕ) (spec : SpecTree) (host : HostView) → IfSome host.told (λ t. IsReadAt t path source_limit text) → Describes text spec → IfSome host.told (λ t. IsDescriptionAt t path spec)
description_read path text spec host read is =
    if_some_map (λ t. IsReadAt t path source_limit text) (λ t. IsDescriptionAt t path spec) host.told (λ t read. described path text spec t is read) read

alone : (path text : List ℕ) (spec : SpecTree) (t : Tree) → IsReadAt t path source_limit text → Describes text spec → ((other : SpecTree) → Describes text other → other ≡ spec) → IsOnlyDescriptionAt t path spec
alone path text spec t read is only other has = only other (subst (λ x. Describes x other) (sym (read.whole is.read.short)) has.describes)

pub description_alone : (path text : List ℕ) (spec : SpecTree) (host : HostView) → IfSome host.told (λ t. IsReadAt t path source_limit text) → Describes text spec → ((other : SpecTree) → Describes text other → other ≡ spec) → IfSome host.told (λ t. IsOnlyDescriptionAt t path spec)
description_alone path text spec host read is only =
    if_some_map (λ t. IsReadAt t path source_limit text) (λ t. IsOnlyDescriptionAt t path spec) host.told (λ t read. alone path text spec t read is only) read
