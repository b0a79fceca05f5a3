use Rattle.std.proofs.Common.{◌≡◌, ℕ, List, inr, length, IfSome, sym, ap, subst, arith}
use Rattle.fx_outside.specs.Host.{HostView}
use Rattle.fx_outside.specs.Path.{parts}
use Rattle.fx_folder.specs.declared.readying.Out.{Out}
use Rattle.fx_folder.specs.Folder.{IsReady}
use Rattle.fx_base.proofs.Errors.{err_of}
use Rattle.fx_command.specs.declared.status.Status.TheVariants as status
use Rattle.fx_command.specs.StatusOf.{status_of, save_status}
use Rattle.fx_command.specs.Table.{CommandRow, IsComing, making_only}
use Rattle.fx_command.proofs.Tables as tables
use Rattle.fx_command.proofs.Told.{if_some_map, some_unit}
use Rattle.fx_large_commands.specs.Case.{Case, case_in, case_of, IsPartlyWritten}
use Rattle.fx_large_commands.specs.GenRows.{gen_making}
use Rattle.fx_large_commands.proofs.Naming.{eight_scripts}
use Rattle.fx_large_commands.proofs.gen_command.write_and_print.Goals as goal

coming : (number : ℕ) (path : List ℕ) (end : Case) (there : Out) (host : HostView) → end ≡ case_of number → IfSome host.told (λ t. IsReady t path there) → IfSome host.told (λ t. IsComing (gen_making number path) t end there)
coming number path end there host is ready =
    tables.coming (making_only (gen_making number path)) end there host (if_some_map (λ _. Unit {0}) (λ _. end ≡ case_of number) host.told (λ t _. is) (some_unit host.told)) ready

pub returns-in_err-write_case-clause-row : goal.returns-in_err-write_case-clause-row
returns-in_err-write_case-clause-row g c =
    let m = making_only (gen_making c.args.number c.args.path.now) in
    let host = g.H.Host.view c.args.host.now in
    let host' = g.H.Host.view c.write_case.new.host in
    let sink = g.S.Sink.view c.args.out.now in
    let end = case_in c.args.case.now in
    let fault = c.in_err-write_case.field-0.0 in
    let is = err_of c.from_residual.result (save_status fault) c.from_residual.ensures.1 in
    subst (λ r. CommandRow m host host' sink sink (status_of r)) (sym is)
    (tables.not_saved m end c.args.there host host' (coming c.args.number c.args.path.now end c.args.there host c.requires.case c.requires.ready) (λ t _. tt) fault
    (tables.begins m (λ t t'. IsPartlyWritten t t' (parts c.args.path.now) end) end host host' (λ t t' p. inr p) c.in_err-write_case.ensures.part)
    c.in_err-write_case.ensures.fault sink)

pub returns-in_err-print_all-clause-row : goal.returns-in_err-print_all-clause-row
returns-in_err-print_all-clause-row g c =
    let m = making_only (gen_making c.args.number c.args.path.now) in
    let host = g.H.Host.view c.args.host.now in
    let host' = g.H.Host.view c.write_case.new.host in
    let sink = g.S.Sink.view c.args.out.now in
    let sink' = g.S.Sink.view c.print_all.new.out in
    let end = case_in c.args.case.now in
    let is = err_of c.from_residual-in_err-print_all.result status.WriteFault c.from_residual-in_err-print_all.ensures.1 in
    subst (λ r. CommandRow m host host' sink sink' (status_of r)) (sym is)
    (tables.not_printed m end c.args.there host host' (coming c.args.number c.args.path.now end c.args.there host c.requires.case c.requires.ready) sink sink' c.in_ok-write_case.ensures.written c.in_err-print_all.ensures.front c.in_err-print_all.ensures.cause.failed)

pub returns-clause-row : goal.returns-clause-row
returns-clause-row g c =
    let m = making_only (gen_making c.args.number c.args.path.now) in
    let host = g.H.Host.view c.args.host.now in
    let host' = g.H.Host.view c.write_case.new.host in
    let sink = g.S.Sink.view c.args.out.now in
    let sink' = g.S.Sink.view c.print_all.new.out in
    let end = case_in c.args.case.now in
    tables.all_done m end c.args.there host host' (coming c.args.number c.args.path.now end c.args.there host c.requires.case c.requires.ready) sink sink' c.in_ok-write_case.ensures.written c.in_ok-print_all.ensures.written

pub write_case-requires-clause-few : goal.write_case-requires-clause-few
write_case-requires-clause-few g c = omega (arith, ap (λ (k : Case). length k.scripts) c.requires.case, eight_scripts c.args.number)
