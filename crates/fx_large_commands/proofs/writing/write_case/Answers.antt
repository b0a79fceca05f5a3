use Rattle.std.proofs.Common.{IfSome, sym, subst, arith}
use Rattle.fx_base.proofs.Results.{OnErr-from}
use Rattle.fx_folder.specs.declared.readying.Out.TheVariants.{Absent}
use Rattle.fx_folder.specs.Folder.{IsReady}
use Rattle.fx_folder.proofs.Writes.{opened}
use Rattle.fx_large_commands.specs.Case.{case_in}
use Rattle.fx_large_commands.proofs.Writings.{folder_part, stopped_in_texts, stopped_before_filestore, inner_ready, case_all, case_stopped, inner_cause, inner_fit}
use Rattle.fx_outside.specs.Host.{LetsIn}
use Rattle.fx_outside.proofs.Views.{asks_both}
use Rattle.fx_large_commands.proofs.writing.write_case.Goals as goal

pub returns-in_err-make_folder-clause-part : goal.returns-in_err-make_folder-clause-part
returns-in_err-make_folder-clause-part g c =
    OnErr-from _ _ (folder_part (g.H.Host.view c.args.host.now).told (g.H.Host.view c.make_folder.new.host).told c.args.path.now c.args.there (case_in c.args.case.now) (g.met.H.Host.whole c.args.host.now) c.requires.ready c.in_err-make_folder.ensures.partly)

pub write_texts-requires-clause-open : goal.write_texts-requires-clause-open
write_texts-requires-clause-open g c =
    opened (g.H.Host.view c.args.host.now).told (g.H.Host.view c.make_folder.new.host).told c.args.path.now c.args.there (g.met.H.Host.whole c.args.host.now) c.requires.ready c.in_ok-make_folder.ensures.made

pub returns-in_err-write_texts-clause-part : goal.returns-in_err-write_texts-clause-part
returns-in_err-write_texts-clause-part g c =
    OnErr-from _ _ (stopped_in_texts (g.H.Host.view c.args.host.now).told (g.H.Host.view c.make_folder.new.host).told (g.H.Host.view c.write_texts.new.host).told c.args.path.now c.args.there (case_in c.args.case.now) c.in_ok-make_folder.ensures.made c.in_err-write_texts.ensures.partly)

pub returns-in_err-inside-clause-part : goal.returns-in_err-inside-clause-part
returns-in_err-inside-clause-part g c =
    OnErr-from _ _ (stopped_before_filestore (g.H.Host.view c.args.host.now).told (g.H.Host.view c.make_folder.new.host).told (g.H.Host.view c.write_texts.new.host).told c.args.path.now c.args.there (case_in c.args.case.now) c.in_ok-make_folder.ensures.made c.in_ok-write_texts.ensures.written)

pub save-requires : goal.save-requires
save-requires g c = record {
  ready = subst (λ p. IfSome (g.H.Host.view c.write_texts.new.host).told (λ t. IsReady t p Absent)) (sym c.in_ok-inside.ensures) (inner_ready (g.H.Host.view c.make_folder.new.host).told (g.H.Host.view c.write_texts.new.host).told c.args.path.now (case_in c.args.case.now) (opened (g.H.Host.view c.args.host.now).told (g.H.Host.view c.make_folder.new.host).told c.args.path.now c.args.there (g.met.H.Host.whole c.args.host.now) c.requires.ready c.in_ok-make_folder.ensures.made) c.in_ok-write_texts.ensures.written);
}

pub returns-clause-written : goal.returns-clause-written
returns-clause-written g c =
    case_all c.save.result (g.H.Host.view c.args.host.now).told (g.H.Host.view c.make_folder.new.host).told (g.H.Host.view c.write_texts.new.host).told (g.H.Host.view c.save.new.host).told c.args.path.now c.args.there (case_in c.args.case.now) c.in_ok-make_folder.ensures.made c.in_ok-write_texts.ensures.written (rw c.in_ok-inside.ensures at c.save.ensures.saved)

pub returns-clause-part : goal.returns-clause-part
returns-clause-part g c =
    case_stopped c.save.result (g.H.Host.view c.args.host.now).told (g.H.Host.view c.make_folder.new.host).told (g.H.Host.view c.write_texts.new.host).told (g.H.Host.view c.save.new.host).told c.args.path.now c.args.there (case_in c.args.case.now) c.in_ok-make_folder.ensures.made c.in_ok-write_texts.ensures.written (rw c.in_ok-inside.ensures at c.save.ensures.part)

pub returns-clause-fault : goal.returns-clause-fault
returns-clause-fault g c =
    inner_cause c.save.result (g.H.Host.view c.args.host.now) (g.H.Host.view c.make_folder.new.host) (g.H.Host.view c.write_texts.new.host) (g.H.Host.view c.save.new.host) c.args.path.now c.args.there (case_in c.args.case.now) (omega (arith, c.make_folder.ensures.later, c.write_texts.ensures.later)) c.in_ok-write_texts.ensures.written (rw c.in_ok-inside.ensures at c.save.ensures.fault)

pub returns-clause-fit : goal.returns-clause-fit
returns-clause-fit g c =
    inner_fit (g.H.Host.view c.args.host.now) (g.H.Host.view c.write_texts.new.host) (g.H.Host.view c.save.new.host) c.args.path.now (asks_both (λ guard. LetsIn guard.may_write c.args.path.now) (g.H.Host.view c.args.host.now) (g.H.Host.view c.make_folder.new.host) (g.H.Host.view c.write_texts.new.host) (λ lets. c.make_folder.ensures.fit lets.itself) c.write_texts.ensures.fit) (rw c.in_ok-inside.ensures at c.save.ensures.fit)
