use Rattle.std.proofs.Common.{◌≡◌, ◌-◌, Ok, length, drop, sym, ap, ◌∙◌, subst, arith}
use Rattle.fx_expr.specs.Views.{shape_tree}
use Rattle.fx_parse.specs.Stuck.{Stops}
use Rattle.fx_parse.specs.Readable.{Stands}
use Rattle.fx_parse.specs.Grammars.{shapes}
use Rattle.fx_parse.specs.Reader.{kinds}
use Rattle.fx_parse.specs.ShapeReader.{read_shape}
use Rattle.fx_parse.specs.ReadAt.{IsReadAt, IsParseFault}
use Rattle.fx_parse.proofs.ShapeMachine.{Shape, table}
use Rattle.fx_parse.proofs.ShapeLink.{read_end, shape_reader}
use Rattle.fx_parse.proofs.ReaderPlaces.{stands_read, read_stands, stop_fault, stop_only, begun, rest_within, read_at, next_is, same_read}
use Rattle.fx_parse.proofs.parse.parse_shape.Goals as goal

read_ok : (c : goal.In-Ok) → read_shape c.saturating_sub-left.result (kinds (drop c.args.from c.args.tokens.now.spanned)) ≡ Ok (shape_tree c.in-Ok.shape, kinds c.in-Ok.rest.now)
read_ok c = ap (λ l. read_shape c.saturating_sub-left.result (kinds l)) (sym c.tokens_from.ensures) ∙ c.in-Ok.ensures

stands : (c : goal.In-Ok) → Stands shapes c.args.depth (kinds (drop c.args.from c.args.tokens.now.spanned)) (shape_tree c.in-Ok.shape) (kinds c.in-Ok.rest.now)
stands c = read_stands table shapes Shape read_shape shape_reader c.args.depth c.saturating_sub-left.result c.saturating_sub-left.ensures (kinds (drop c.args.from c.args.tokens.now.spanned)) (shape_tree c.in-Ok.shape) (kinds c.in-Ok.rest.now) (read_ok c)

pub overflow_sub-result : goal.overflow_sub-result
overflow_sub-result c =
    let within = rest_within shapes c.args.depth c.args.tokens.now c.args.from (shape_tree c.in-Ok.shape) c.in-Ok.rest.now (stands c) in
    omega (arith, within, ap length c.as_slice-all.ensures.value)

pub returns-in-Ok-clause-found : goal.returns-in-Ok-clause-found
returns-in-Ok-clause-found c =
    let within = begun (read_shape c.saturating_sub-left.result) (read_end c.saturating_sub-left.result) c.args.tokens.now c.args.from (shape_tree c.in-Ok.shape, kinds c.in-Ok.rest.now) (read_ok c) in
    let at = read_at shapes c.args.depth c.args.tokens.now c.args.from (shape_tree c.in-Ok.shape) c.in-Ok.rest.now within (stands c) in
    subst (λ n. IsReadAt shapes c.args.depth c.args.tokens.now c.args.from (shape_tree c.in-Ok.shape) (n - length c.in-Ok.rest.now)) (sym (ap length c.as_slice-all.ensures.value)) at

pub returns-in-Ok-clause-only : goal.returns-in-Ok-clause-only
returns-in-Ok-clause-only c = λ t next at.
    let other = stands_read table shapes Shape read_shape shape_reader c.args.depth c.saturating_sub-left.result c.saturating_sub-left.ensures (kinds (drop c.args.from c.args.tokens.now.spanned)) t (kinds (drop next c.args.tokens.now.spanned)) at.stands in
    let both = same_read (shape_tree c.in-Ok.shape) t (kinds c.in-Ok.rest.now) (kinds (drop next c.args.tokens.now.spanned)) (sym (read_ok c) ∙ other) in
    ((both.0, ap (λ l. length l - length c.in-Ok.rest.now) c.as_slice-all.ensures.value ∙ next_is c.args.tokens.now.spanned c.in-Ok.rest.now next at.within both.1), tt)

stopped : (c : goal.After-fault_at) → Stops c.in-Err.stop (read_shape c.saturating_sub-left.result (kinds (drop c.args.from c.args.tokens.now.spanned)))
stopped c = subst (λ l. Stops c.in-Err.stop (read_shape c.saturating_sub-left.result (kinds l))) c.tokens_from.ensures c.in-Err.ensures

pub returns-in-Err-clause-only : goal.returns-in-Err-clause-only
returns-in-Err-clause-only c = λ t next at.
    let other = stands_read table shapes Shape read_shape shape_reader c.args.depth c.saturating_sub-left.result c.saturating_sub-left.ensures (kinds (drop c.args.from c.args.tokens.now.spanned)) t (kinds (drop next c.args.tokens.now.spanned)) at.stands in
    (tt, c.fault_at.ensures ∙ stop_only table shapes Shape read_shape shape_reader c.args.depth c.saturating_sub-left.result c.saturating_sub-left.ensures c.args.tokens.now c.args.from c.in-Err.stop (t, kinds (drop next c.args.tokens.now.spanned)) (stopped c) other)

pub returns-in-Err-clause-fault : goal.returns-in-Err-clause-fault
returns-in-Err-clause-fault c =
    subst (λ f. IsParseFault shapes c.args.depth c.args.tokens.now c.args.from f) (sym c.fault_at.ensures) (stop_fault table shapes Shape read_shape shape_reader c.args.depth c.saturating_sub-left.result c.saturating_sub-left.ensures c.args.tokens.now c.args.from c.in-Err.stop (stopped c))
