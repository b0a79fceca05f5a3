use Rattle.std.proofs.Common.{◌≡◌, length, sym, subst, rules}
use Rattle.fx_store.specs.Changes.{changed_paths}
use Rattle.fx_spec.specs.declared.base.Base.{Base}
use Rattle.fx_board.specs.Growing.{nodes_by}
use Rattle.fx_board.specs.Index.{IsNoted}
use Rattle.fx_board.proofs.Settling.{ready, stays_whole}
use Rattle.fx_board.proofs.board.Board.add.Goals as goal

pub make-requires-clause-whole : goal.make-requires-clause-whole
make-requires-clause-whole c =
    let parts = c.deref_mut-parts.result.now in
    let here = sym c.deref_mut-parts.ensures.value in
    let kept : nodes_by parts.base.value.loaded.nodes c.grow.new.own ≡ nodes_by parts.base.value.loaded.nodes parts.own = subst (λ (b : Base). nodes_by b.loaded.nodes c.grow.new.own ≡ nodes_by b.loaded.nodes parts.own) c.deref.ensures c.in-Ok.ensures.nodes in
    stays_whole parts.base.value.loaded.nodes c.grow.new.own c.in-Ok.grown.changes
    (rw (kept, c.in-Ok.ensures.changes)
    (ready _ _ _ _ (rw here at c.self.invariant) c.args.attempt c.args.self.now (rw here at c.self.view_is) c.requires.explained c.requires.next c.requires.reads c.requires.fresh c.grow.ensures.ascending).whole)

pub invariant_of-self-2 : goal.invariant_of-self-2
invariant_of-self-2 c =
    let parts = c.deref_mut-parts.result.now in
    let here = sym c.deref_mut-parts.ensures.value in
    let kept : nodes_by parts.base.value.loaded.nodes c.grow.new.own ≡ nodes_by parts.base.value.loaded.nodes parts.own = subst (λ (b : Base). nodes_by b.loaded.nodes c.grow.new.own ≡ nodes_by b.loaded.nodes parts.own) c.deref.ensures c.in-Ok.ensures.nodes in
    let count : c.len-entry.result ≡ length parts.entries.items = search rules in
    rw (c.make.ensures parts.base.value.loaded.nodes, kept, c.in-Ok.ensures.entry, c.in-Ok.ensures.changes)
    ((ready _ _ _ _ (rw here at c.self.invariant) c.args.attempt c.args.self.now (rw here at c.self.view_is) c.requires.explained c.requires.next c.requires.reads c.requires.fresh c.grow.ensures.ascending).board c.note.new.index.entries
    (subst (IsNoted parts.index.entries c.note.new.index.entries (changed_paths c.args.attempt.changes)) count (rw (c.in-Ok.ensures.index, c.in-Ok.ensures.keys) at c.note.ensures)))
