use Rattle.std.proofs.Common.{rules, arith, ◌&&◌, length, sym, ap, ◌∙◌, length-append}
use Rattle.std.specs.Prelude.{bytes_eq}
use Rattle.std.specs.Cmp.Lexicographic.{pointwise}
use Rattle.std.specs.Ordering.{eq_by_cmp}
use Rattle.fx_store.specs.Names.{path_cmp}
use Rattle.fx_store.proofs.Passing.{passed_all, not_passed, same_by_parts, unlike}
use Rattle.fx_store.proofs.path.PathPartialEq.eq.Goals as goal

pub returns-then-names-own : goal.returns-then-names-own
returns-then-names-own c =
    let a = c.as_slices.result in
    let b = c.as_slices-2.result in
    unlike c.args.self.now c.args.other.now (λ e. absurd (omega (arith, e, c.if-names-own.true, ap length c.as_slices.ensures.names, ap length c.as_slices-2.ensures.names, length-append a.0.now a.1.now, length-append b.0.now b.1.now)))

pub returns-then-are_same : goal.returns-then-are_same
returns-then-are_same c =
    let a = c.as_slices.result in
    let b = c.as_slices-2.result in
    let more = c.are_same-then-are_same.result in
    sym (ap (λ same. same && more) c.if-are_same.true)
    ∙ ((λ i. c.are_same.ensures i && c.are_same-then-are_same.ensures i)
    ∙ (same_by_parts a.0.now b.0.now a.1.now b.1.now (search rules)
    ∙ (λ i. eq_by_cmp path_cmp (c.as_slices.ensures.names i) (c.as_slices-2.ensures.names i))))

pub returns-else-are_same : goal.returns-else-are_same
returns-else-are_same c =
    let a = c.as_slices.result in
    let b = c.as_slices-2.result in
    let more = pointwise bytes_eq a.1.now b.1.now in
    c.if-are_same.false
    ∙ (sym (ap (λ same. same && more) c.if-are_same.false)
    ∙ (ap (λ same. same && more) c.are_same.ensures
    ∙ (same_by_parts a.0.now b.0.now a.1.now b.1.now (search rules)
    ∙ (λ i. eq_by_cmp path_cmp (c.as_slices.ensures.names i) (c.as_slices-2.ensures.names i)))))

pub returns-then-passes : goal.returns-then-passes
returns-then-passes c = c.is_empty.ensures ∙ passed_all c.args.self.now c.args.other.now c.passes.new.self (search rules)

pub returns-else-passes : goal.returns-else-passes
returns-else-passes c = c.if-passes.false ∙ not_passed c.args.self.now c.args.other.now (search rules)
