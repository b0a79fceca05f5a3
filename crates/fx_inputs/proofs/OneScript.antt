-- A script, read from the host and checked.
use Rattle.std.proofs.Common.{◌≡◌, ℕ, ◌≤◌, ◌<◌, List, length, Option, IfSome, refl, sym, subst, arith}
use Rattle.fx_outside.specs.Host.{HostView}
use Rattle.fx_outside.specs.Tree.{Tree, bytes_at}
use Rattle.fx_spec.specs.CommandTree.{CommandTree}
use Rattle.fx_command.specs.declared.status.TextFault.{TextFault}
use Rattle.fx_command.specs.declared.status.TextFault.TheVariants as fault
use Rattle.fx_base.specs.Limits.{source_limit}
use Rattle.fx_command.specs.Reading.{ReadEnds}
use Rattle.fx_command.specs.Texts.{IsReadAt}
use Rattle.fx_command.proofs.Told.{if_some_map}
use Rattle.fx_command.specs.declared.fault.SourceFault.{SourceFault}
use Rattle.fx_command.specs.declared.fault.SourceFault.TheVariants as source
use Rattle.fx_command.specs.Faults.{status_at}
use Rattle.fx_command.specs.Scripted.{Scripts, IsNoScriptFor, IsUnscripted}
use Rattle.fx_inputs.specs.Causes.{script_reading}
use Rattle.fx_inputs.specs.Inputs.{HasNoScript, HasMoreScripts}

abbrev Txns : Type 0
Txns = List (List CommandTree)

goes_on : (t : Tree) (path text : List ℕ) (before : ℕ) (txns : Txns) → IsReadAt t path source_limit text → Scripts text before txns → ((others : Txns) → Scripts text before others → others ≡ txns) → HasMoreScripts t path before txns
goes_on t path text before txns read is only =
    let same : text ≡ bytes_at t path = read.whole is.read.short in
    record {
      script = record { file = read.file; script = subst (λ x. Scripts x before txns) same is };
      only = λ others other. only others (subst (λ x. Scripts x before others) (sym same) other);
    }

pub script_read : (told : Option Tree) (path text : List ℕ) (before : ℕ) (txns : Txns) → IfSome told (λ t. IsReadAt t path source_limit text) → Scripts text before txns → ((others : Txns) → Scripts text before others → others ≡ txns) → IfSome told (λ t. HasMoreScripts t path before txns)
script_read told path text before txns read is only =
    if_some_map (λ t. IsReadAt t path source_limit text) (λ t. HasMoreScripts t path before txns) told (λ t read. goes_on t path text before txns read is only) read

-- a text that is within its limit was read whole; else so many bytes were read that it is none
whole : (t : Tree) (path text : List ℕ) (before : ℕ) (cause : TextFault) → IsReadAt t path source_limit text → length text ≤ 65536 → IsNoScriptFor text before cause → IsNoScriptFor (bytes_at t path) before cause
whole t path text before cause read short is = subst (λ x. IsNoScriptFor x before cause) (read.whole short) is

too_large : (t : Tree) (path text : List ℕ) (before : ℕ) → IsReadAt t path source_limit text → 65536 < length text → IsNoScriptFor (bytes_at t path) before fault.TooLarge
too_large t path text before read large = record {
  none = λ txns is. absurd (omega (arith, large, read.within, is.read.short));
  cause = omega (arith, large, read.within);
}

refused_whole : (t : Tree) (path text : List ℕ) (before : ℕ) (cause : TextFault) → IsReadAt t path source_limit text → IsNoScriptFor text before cause → IsNoScriptFor (bytes_at t path) before cause
refused_whole t path text before fault.TooLarge read is = too_large t path text before read is.cause
refused_whole t path text before (fault.BadToken n) read is = whole t path text before (fault.BadToken n) read is.cause.0 is
refused_whole t path text before (fault.Unexpected n) read is = whole t path text before (fault.Unexpected n) read is.cause.short is
refused_whole t path text before (fault.TooNested n) read is = whole t path text before (fault.TooNested n) read is.cause.short is
refused_whole t path text before (fault.Unknown w) read is = whole t path text before (fault.Unknown w) read is.cause.read.short is
refused_whole t path text before (fault.TypeDiffers a b) read is = whole t path text before (fault.TypeDiffers a b) read is.cause.read.short is
refused_whole t path text before (fault.Repeated w) read is = whole t path text before (fault.Repeated w) read is.cause.read.short is
refused_whole t path text before fault.TooMany read is = whole t path text before fault.TooMany read is.cause.read.short is

no_script : (t : Tree) (path text : List ℕ) (before : ℕ) (cause : TextFault) → IsReadAt t path source_limit text → IsNoScriptFor text before cause → HasNoScript cause t path before
no_script t path text before cause read is = record { file = read.file; refused = refused_whole t path text before cause read is }

pub script_refused : (told : Option Tree) (path text : List ℕ) (before : ℕ) (cause : TextFault) → IfSome told (λ t. IsReadAt t path source_limit text) → IsNoScriptFor text before cause → IfSome told (λ t. HasNoScript cause t path before)
script_refused told path text before cause read is =
    if_some_map (λ t. IsReadAt t path source_limit text) (λ t. HasNoScript cause t path before) told (λ t read. no_script t path text before cause read is) read

pub script_unread : (path text : List ℕ) (word before : ℕ) (host host' : HostView) (refused : SourceFault) → IfSome host.told (λ t. IsReadAt t path source_limit text) → IsUnscripted text before refused → ReadEnds (script_reading word path before) host host' (status_at word refused)
script_unread path text word before host host' (source.Refused cause) read is = (refl, script_refused host.told path text before cause read is)
script_unread path text word before host host' source.NoMemory read is = tt
