use Rattle.std.proofs.Common.{◌≡◌, ◌+◌, ◌-◌, ◌≤◌, ◌++◌, ◌∷◌, [], length, take, drop, ap, sym, ◌∙◌, arith}
use Rattle.std.specs.List.{insert}
use Rattle.std.proofs.lemmas.Result.{IfOk-weaker}
use Rattle.fx_base.specs.Chunks.{joined}
use Rattle.fx_base.proofs.Chunking.{room_there, inserted, none_there, first_item}
use Rattle.fx_base.proofs.chunks.Chunks.with.Goals as goal

pub insert-requires : goal.insert-requires
insert-requires g c =
    let cs = c.as_slice-chunks.result.now in
    let same = ap length c.as_slice-chunks.ensures.items in
    let within = c.requires.within in
    let le : c.args.i ≤ length (joined cs) = omega arith in
    let room = room_there cs c.as_slice-chunks.ensures.chunks c.args.i c.chunk_at-k.result c.chunk_at-k.ensures c.in-Some.chunk.now (sym c.in-Some.ensures) le in
    let before = c.before-in-Some.ensures in
    let items = ap length c.items.ensures in
    let copies = c.in_ok-items-in-Some.ensures.len in
    omega arith

pub returns-in_ok-of-in-Some : goal.returns-in_ok-of-in-Some
returns-in_ok-of-in-Some g c =
    let cs = c.as_slice-chunks.result.now in
    let k = c.chunk_at-k.result in
    let i = c.args.i in
    let chunk = c.in-Some.chunk.now in
    let same = ap length c.as_slice-chunks.ensures.items in
    let within = c.requires.within in
    let le : i ≤ length (joined cs) = omega arith in
    let copies = c.in_ok-items-in-Some.ensures.items_if_clones_equal c.requires.copies ∙ c.items.ensures in
    let edited : c.insert.new.self.items ≡ insert chunk.items (i - chunk.before) c.args.item =
    c.in_ok-insert-in-Some.ensures.items ∙ (λ j. insert (copies j) (i - c.before-in-Some.ensures j) c.args.item) in
    let whole =
    ap (λ ys. joined (take k cs) ++ (ys ++ joined (drop (k + 1) cs))) edited
    ∙ inserted cs c.as_slice-chunks.ensures.chunks i k c.chunk_at-k.ensures chunk (sym c.in-Some.ensures) c.args.item le
    ∙ ap (λ xs. insert xs i c.args.item) c.as_slice-chunks.ensures.items in
    IfOk-weaker c.of-in-Some.result _ _ (λ s e. e ∙ c.in_ok-of-in-Some.ensures ∙ whole) c.of-in-Some.ensures

pub returns-in_ok-push-in-None : goal.returns-in_ok-push-in-None
returns-in_ok-push-in-None g c =
    let none = sym c.as_slice-chunks.ensures.items ∙ none_there c.as_slice-chunks.result.now c.args.i c.chunk_at-k.result c.chunk_at-k.ensures (sym c.in-None.ensures) in
    let one = c.in_ok-push-in-None.ensures.items ∙ ap (λ ys. ys ++ c.args.item ∷ []) c.new-items.ensures.items ∙ sym (first_item c.args.self.now c.args.i c.args.item none c.requires.within) in
    IfOk-weaker c.from_vec.result _ _ (λ s e. e ∙ one) c.from_vec.ensures
