use Rattle.std.proofs.Common.{◌≡◌, None, Some, sym, ap, ◌∙◌, subst}
use Rattle.std.specs.Option.{option_map}
use Rattle.fx_base.proofs.Errors.{err_of}
use Rattle.fx_parse.specs.Stuck.{Stops}
use Rattle.fx_parse.specs.Reader.{kinds, read_expr}
use Rattle.fx_source_parse.specs.Descriptions.Lists.{closed}
use Rattle.fx_source_parse.proofs.Descriptions.Reading.{listed_closed, first_stops, listed_behind}
use Rattle.fx_source_parse.proofs.spec.args.args_at.Goals as goal

pub returns-in-Some : goal.returns-in-Some
returns-in-Some c =
    let found : closed (kinds c.args.tokens.now) ≡ Some (kinds c.in-Some.behind.now) = sym c.closed.ensures ∙ ap (option_map (λ r. kinds r.now)) c.in-Some.is in
    listed_closed (read_expr c.args.left) c.new-args.result (kinds c.args.tokens.now) (kinds c.in-Some.behind.now) c.new-args.ensures found

pub returns-in_err-rest : goal.returns-in_err-rest
returns-in_err-rest c =
    let none : closed (kinds c.args.tokens.now) ≡ None = sym c.closed.ensures ∙ ap (option_map (λ r. kinds r.now)) c.in_default.is in
    rw (err_of c.from_residual.result c.in_err-rest.field-0.0 c.from_residual.ensures.1)
    (first_stops (read_expr c.args.left) c.new-args.result c.new-args.ensures (kinds c.args.tokens.now) none c.in_err-rest.field-0.0 c.in_err-rest.ensures)

pub returns-in_err-rest-2 : goal.returns-in_err-rest-2
returns-in_err-rest-2 c =
    let none : closed (kinds c.args.tokens.now) ≡ None = sym c.closed.ensures ∙ ap (option_map (λ r. kinds r.now)) c.in_default.is in
    rw (err_of c.from_residual-in_err-rest-2.result c.in_err-rest-2.field-0.0 c.from_residual-in_err-rest-2.ensures.1)
    (subst (λ r. Stops c.in_err-rest-2.field-0.0 r) (sym (listed_behind (read_expr c.args.left) c.new-args.result c.new-args.ensures (kinds c.args.tokens.now) none c.added_at.new.args (kinds c.in_ok-rest.rest.now) c.in_ok-rest.ensures)) c.in_err-rest-2.ensures)

pub returns : goal.returns
returns c =
    let none : closed (kinds c.args.tokens.now) ≡ None = sym c.closed.ensures ∙ ap (option_map (λ r. kinds r.now)) c.in_default.is in
    listed_behind (read_expr c.args.left) c.new-args.result c.new-args.ensures (kinds c.args.tokens.now) none c.added_at.new.args (kinds c.in_ok-rest.rest.now) c.in_ok-rest.ensures ∙ c.in_ok-rest-2.ensures
