use Rattle.std.proofs.Common.{◌≡◌, ◌+◌, ◌-◌, ◌<◌, ◌++◌, length, take, drop, ap, sym, ◌∙◌, arith}
use Rattle.std.specs.List.{remove}
use Rattle.std.proofs.lemmas.Result.{IfOk-weaker}
use Rattle.fx_base.specs.Chunks.{joined}
use Rattle.fx_base.proofs.Chunking.{item_within, removed, none_there}
use Rattle.fx_base.proofs.chunks.Chunks.without.Goals as goal

pub remove-requires : goal.remove-requires
remove-requires g c =
    let cs = c.as_slice-chunks.result.now in
    let same = ap length c.as_slice-chunks.ensures.items in
    let within = c.requires.within in
    let lt : c.args.i < length (joined cs) = omega arith in
    let room = item_within cs c.as_slice-chunks.ensures.chunks c.args.i c.chunk_at-k.result c.chunk_at-k.ensures c.in-Some.chunk.now (sym c.in-Some.ensures) lt in
    let before = c.before-in-Some.ensures in
    let items = ap length c.items.ensures in
    let copies = c.in_ok-items-in-Some.ensures.len in
    omega arith

pub unreachable-requires : goal.unreachable-requires
unreachable-requires g c =
    let none = sym c.as_slice-chunks.ensures.items ∙ none_there c.as_slice-chunks.result.now c.args.i c.chunk_at-k.result c.chunk_at-k.ensures (sym c.in-None.ensures) in
    let long = ap length none in
    let within = c.requires.within in
    omega arith

pub returns : goal.returns
returns g c =
    let cs = c.as_slice-chunks.result.now in
    let k = c.chunk_at-k.result in
    let i = c.args.i in
    let chunk = c.in-Some.chunk.now in
    let same = ap length c.as_slice-chunks.ensures.items in
    let within = c.requires.within in
    let lt : i < length (joined cs) = omega arith in
    let copies = c.in_ok-items-in-Some.ensures.items_if_clones_equal c.requires.copies ∙ c.items.ensures in
    let edited : c.remove.new.self.items ≡ remove chunk.items (i - chunk.before) =
    c.remove.ensures.items ∙ (λ j. remove (copies j) (i - c.before-in-Some.ensures j)) in
    let whole =
    ap (λ ys. joined (take k cs) ++ (ys ++ joined (drop (k + 1) cs))) edited
    ∙ removed cs c.as_slice-chunks.ensures.chunks i k c.chunk_at-k.ensures chunk (sym c.in-Some.ensures) lt
    ∙ ap (λ xs. remove xs i) c.as_slice-chunks.ensures.items in
    IfOk-weaker c.of-in-Some.result _ _ (λ s e. e ∙ c.in_ok-of-in-Some.ensures ∙ whole) c.of-in-Some.ensures
