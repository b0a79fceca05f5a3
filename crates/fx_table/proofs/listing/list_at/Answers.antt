use Rattle.fx_table.proofs.Prelude.{sym, ◌∙◌, subst, at_index, IsNameSet}
use Rattle.fx_table.proofs.Naming.{key_of, one_path, lists_none, lists_dir}
use Rattle.fx_table.proofs.listing.list_at.Goals as goal

pub returns-then-not-is_dir : goal.returns-then-not-is_dir
returns-then-not-is_dir c = lists_none c.args.found.now.items c.args.i c.index.result.now (at_index c.args.found.now.items c.args.i c.index.result.now c.requires.within c.index.ensures) (sym c.is_dir.ensures ∙ c.if-not-is_dir.true)

pub from_vec-requires : goal.from_vec-requires
from_vec-requires c =
    let here = at_index c.args.found.now.items c.args.i c.index.result.now c.requires.within c.index.ensures in
    subst IsNameSet (sym (c.requires.names c.index.result.now.path (key_of c.args.found.now.items c.args.i c.index.result.now here))) (c.requires.sets.sets c.index.result.now.path)

pub returns : goal.returns
returns c =
    let here = at_index c.args.found.now.items c.args.i c.index.result.now c.requires.within c.index.ensures in
    lists_dir c.args.found.now.items c.args.i c.index.result.now c.index_mut.result.now.path c.in_ok-names.names c.replace.new.dest here (sym c.is_dir.ensures ∙ c.if-not-is_dir.false) (one_path c.args.found.now.items c.args.i c.index_mut.result.now c.index.result.now c.requires.within c.index_mut.ensures.value c.index.ensures) c.replace.ensures.after
    (c.in_ok-names.ensures ∙ c.requires.names c.index.result.now.path (key_of c.args.found.now.items c.args.i c.index.result.now here))
