use Rattle.std.proofs.Common.{◌≡◌, ◌+◌, ◌-◌, suc, Ok, Err, None, Some, length, sym, ap, ◌∙◌, subst, arith}
use Rattle.std.specs.Option.{option_map}
use Rattle.std.proofs.lemmas.List.{length-map}
use Rattle.fx_base.proofs.Errors.{err_of}
use Rattle.fx_spec.specs.Views.{command_tree}
use Rattle.fx_parse.specs.Stuck.{Unexpected, TooNested, Gives, Stops}
use Rattle.fx_parse.specs.Reader.{kinds}
use Rattle.fx_source_parse.specs.Scripts.Reader.{closed, items_at, read_command}
use Rattle.fx_source_parse.proofs.Scripts.Reading.{read_end, read_nothing, read_deep, read_form, items_closed, items_more, items_stops, items_over, many_is}
use Rattle.fx_source_parse.proofs.script.command.+command.Goals as goal

pub command_at-returns-in_default : goal.command_at-returns-in_default
command_at-returns-in_default t c = ap (read_command c.args.left) c.in_default.ensures ∙ read_end c.args.left

pub command_at-returns-then-is_nothing : goal.command_at-returns-then-is_nothing
command_at-returns-then-is_nothing t c =
    read_nothing c.in-Some.first.now (kinds c.in-Some.rest.now) (kinds c.args.tokens.now) c.start_of-start.result c.in-Some.ensures c.start_of-start.ensures c.args.left (sym c.is_nothing.ensures ∙ c.if-is_nothing.true) ∙ ap (λ n. Err (Unexpected n)) (length-map c.args.tokens.now (λ s. s.token))

pub command_at-returns-then-left-eq0 : goal.command_at-returns-then-left-eq0
command_at-returns-then-left-eq0 t c =
    read_deep c.in-Some.first.now (kinds c.in-Some.rest.now) (kinds c.args.tokens.now) c.start_of-start.result c.in-Some.ensures c.start_of-start.ensures c.args.left c.if-left-eq0.true (sym c.is_nothing.ensures ∙ c.if-is_nothing.false) ∙ ap (λ n. Err (TooNested n)) (length-map c.args.tokens.now (λ s. s.token))

pub command_at-returns : goal.command_at-returns
command_at-returns t c =
    let more : c.args.left ≡ suc (c.args.left - 1) = omega (arith, c.if-left-eq0.false) in
    let same = read_form c.in-Some.first.now (kinds c.in-Some.rest.now) (kinds c.args.tokens.now) c.start_of-start.result c.in-Some.ensures c.start_of-start.ensures c.args.left (c.args.left - 1) more (sym c.is_nothing.ensures ∙ c.if-is_nothing.false) in
    subst (λ r. Gives (λ x. (command_tree x.0, kinds x.1.now)) c.form_at.result r) (sym same) c.form_at.ensures

pub many_at-loop-i-init : goal.many_at-loop-i-init
many_at-loop-i-init t c =
    let size : length c.args.tokens.now - 0 ≡ length (kinds c.args.tokens.now) = omega (arith, length-map c.args.tokens.now (λ s. s.token)) in
    many_is (read_command c.args.left) (length c.args.tokens.now - 0) (kinds c.args.tokens.now) size ∙ ap (λ l. items_at (read_command c.args.left) (length c.args.tokens.now - 0) l (kinds c.args.tokens.now)) (sym c.in_ok-commands.ensures)

pub many_at-returns-in-Some : goal.many_at-returns-in-Some
many_at-returns-in-Some t c =
    let more : length c.args.tokens.now - c.loop-i._i ≡ suc (length c.args.tokens.now - (c.loop-i._i + 1)) = omega arith in
    let found : closed (kinds c.loop-i.rest.now) ≡ Some (kinds c.in-Some.behind.now) = sym c.closed.ensures ∙ ap (option_map (λ r. kinds r.now)) c.in-Some.is in
    c.loop-i.invariant ∙ items_closed (read_command c.args.left) (length c.args.tokens.now) c.loop-i._i (length c.args.tokens.now - (c.loop-i._i + 1)) more c.loop-i.commands (kinds c.loop-i.rest.now) (kinds c.in-Some.behind.now) found ∙ ap (λ l. Ok (l, kinds c.in-Some.behind.now)) (sym c.in_ok-fitted.ensures)

pub many_at-returns-in_err-rest : goal.many_at-returns-in_err-rest
many_at-returns-in_err-rest t c =
    let more : length c.args.tokens.now - c.loop-i._i ≡ suc (length c.args.tokens.now - (c.loop-i._i + 1)) = omega arith in
    let none : closed (kinds c.loop-i.rest.now) ≡ None = sym c.closed.ensures ∙ ap (option_map (λ r. kinds r.now)) c.in_default.is in
    rw (err_of c.from_residual-in_err-rest.result c.in_err-rest.field-0.0 c.from_residual-in_err-rest.ensures.1)
    (subst (λ r. Stops c.in_err-rest.field-0.0 r) (sym c.loop-i.invariant) (items_stops (read_command c.args.left) (length c.args.tokens.now) c.loop-i._i (length c.args.tokens.now - (c.loop-i._i + 1)) more c.loop-i.commands (kinds c.loop-i.rest.now) c.in_err-rest.field-0.0 none c.in_err-rest.ensures))

pub many_at-loop-i-preserved : goal.many_at-loop-i-preserved
many_at-loop-i-preserved t c =
    let more : length c.args.tokens.now - c.loop-i._i ≡ suc (length c.args.tokens.now - (c.loop-i._i + 1)) = omega arith in
    let none : closed (kinds c.loop-i.rest.now) ≡ None = sym c.closed.ensures ∙ ap (option_map (λ r. kinds r.now)) c.in_default.is in
    c.loop-i.invariant ∙ items_more (read_command c.args.left) (length c.args.tokens.now) c.loop-i._i (length c.args.tokens.now - (c.loop-i._i + 1)) more c.loop-i.commands (kinds c.loop-i.rest.now) c.added_at.new.commands (kinds c.in_ok-rest.rest.now) none c.in_ok-rest.ensures

pub many_at-returns : goal.many_at-returns
many_at-returns t c =
    let over : length c.args.tokens.now - c.loop-i._i ≡ 0 = omega arith in
    c.loop-i.invariant ∙ items_over (read_command c.args.left) (length c.args.tokens.now - c.loop-i._i) c.loop-i.commands (kinds c.loop-i.rest.now) over ∙ ap (λ n. Err (Unexpected n)) (length-map c.loop-i.rest.now (λ s. s.token))
