-- How the last stage ends where the report is not made.
use Rattle.std.proofs.Common.{inl, ℕ, List, Option, Some, None, refl}
use Rattle.fx_store.specs.Whole.{Nodes}
use Rattle.fx_outside.specs.Host.{HostView}
use Rattle.fx_outside.specs.Path.{parts}
use Rattle.fx_outside.specs.Sink.{SinkView}
use Rattle.fx_outside.specs.Tree.{Tree}
use Rattle.fx_folder.specs.declared.readying.Out.{Out}
use Rattle.fx_folder.specs.Folder.{IfTold, IsPartlySaved}
use Rattle.fx_command.specs.declared.status.Status.TheVariants as status
use Rattle.fx_command.specs.Saved.{SaveEnd, unmade}

untouched : (path : List ℕ) (nodes : Nodes) (o : Option Tree) → IfTold o o (λ t t'. IsPartlySaved t t' (parts path) nodes)
untouched path nodes None = refl
untouched path nodes (Some t) = inl refl

pub not_made : (out : List ℕ) (there : Out) (nodes : Nodes) (text : List ℕ) (host : HostView) (sink : SinkView) → SaveEnd out there nodes text host host sink sink status.NoMemory
not_made out there nodes text host sink = unmade (untouched out nodes host.told) refl
