use Rattle.std.proofs.Common.{◌≡◌, ◌<◌, ◌≤◌, ◌++◌, ◌∷◌, [], Some, IfSome, codes, length, sym, ◌∙◌, subst, arith, true}
use Rattle.fx_base.proofs.Results.{OnErr-from}
use Rattle.fx_base.proofs.Lists.{not_past}
use Rattle.fx_store.specs.Names.{IsName}
use Rattle.fx_outside.specs.Path.{parts}
use Rattle.fx_outside.specs.Tree.{is_free_at, file}
use Rattle.fx_folder.specs.Reads.{path_below}
use Rattle.fx_folder.specs.Folder.{IfTold}
use Rattle.fx_folder.specs.Written.{with_entry, WrotePart}
use Rattle.fx_large_commands.specs.Case.{case_in, script_name}
use Rattle.fx_large_commands.proofs.Naming.{spec_named, script_named}
use Rattle.fx_large_commands.proofs.Writings.{spec_free, spec_written, spec_stops, script_free, script_written, stops_before, stops_in, texts_written}
use Rattle.fx_large_commands.proofs.writing.write_texts.Goals as goal

pub write_text-requires-clause-name : goal.write_text-requires-clause-name
write_text-requires-clause-name g c = spec_named

pub write_text-requires-clause-free : goal.write_text-requires-clause-free
write_text-requires-clause-free g c = spec_free (g.H.Host.view c.args.host.now) c.args.folder.now c.requires.«open»

pub returns-in_err-write_text-clause-partly : goal.returns-in_err-write_text-clause-partly
returns-in_err-write_text-clause-partly g c =
    let a = g.H.Host.view c.args.host.now in
    let b = g.H.Host.view c.write_text.new.host in
    OnErr-from _ _ (spec_stops a b c.args.folder.now (case_in c.args.case.now) c.requires.«open»
    (subst (λ x. IfTold a.told b.told (λ t t'. WrotePart t t' (parts c.args.folder.now ++ codes "spec" ∷ []) (Some (file x)))) c.as_slice.ensures.value c.in_err-write_text.ensures.partly))

pub scripts-init : goal.scripts-init
scripts-init g c =
    let a = g.H.Host.view c.args.host.now in
    let b = g.H.Host.view c.write_text.new.host in
    spec_written a b c.args.folder.now (case_in c.args.case.now) c.requires.«open» c.write_text.ensures.later c.write_text.ensures.fit
    (subst (λ x. IfTold a.told b.told (λ t t'. t' ≡ with_entry t (parts c.args.folder.now ++ codes "spec" ∷ []) (Some (file x)))) c.as_slice.ensures.value c.in_ok-write_text.ensures.written)

pub returns-in_err-name-clause-partly : goal.returns-in_err-name-clause-partly
returns-in_err-name-clause-partly g c =
    OnErr-from _ _ (stops_before (g.H.Host.view c.args.host.now) (g.H.Host.view c.scripts.host) c.args.folder.now (case_in c.args.case.now) c.scripts.number c.scripts.invariant)

pub write_text-requires-in-Some-clause-name : goal.write_text-requires-in-Some-clause-name
write_text-requires-in-Some-clause-name g c =
    let small : c.scripts.number < 10 = omega (arith, c.scripts-test.true, c.len-number-end.ensures, c.requires.few) in
    subst IsName (sym (c.deref.ensures ∙ c.in_ok-name.ensures)) (script_named c.scripts.number small)

pub write_text-requires-in-Some-clause-free : goal.write_text-requires-in-Some-clause-free
write_text-requires-in-Some-clause-free g c =
    let small : c.scripts.number < 10 = omega (arith, c.scripts-test.true, c.len-number-end.ensures, c.requires.few) in
    let there : c.scripts.number ≤ length c.args.case.now.scripts = omega (arith, c.scripts-test.true, c.len-number-end.ensures) in
    subst (λ n. IfSome (g.H.Host.view c.scripts.host).told (λ t. is_free_at t (path_below c.args.folder.now n) ≡ true)) (sym (c.deref.ensures ∙ c.in_ok-name.ensures))
    (script_free (g.H.Host.view c.args.host.now) (g.H.Host.view c.scripts.host) c.args.folder.now (case_in c.args.case.now) c.scripts.number c.requires.«open» c.scripts.invariant small there)

pub returns-in_err-write_text-in-Some-clause-partly : goal.returns-in_err-write_text-in-Some-clause-partly
returns-in_err-write_text-in-Some-clause-partly g c =
    let a = g.H.Host.view c.args.host.now in
    let b = g.H.Host.view c.scripts.host in
    let d = g.H.Host.view c.write_text-in-Some.new.host in
    let small : c.scripts.number < 10 = omega (arith, c.scripts-test.true, c.len-number-end.ensures, c.requires.few) in
    let there : c.scripts.number ≤ length c.args.case.now.scripts = omega (arith, c.scripts-test.true, c.len-number-end.ensures) in
    let named = subst (λ n. IfTold b.told d.told (λ t t'. WrotePart t t' (parts c.args.folder.now ++ n ∷ []) (Some (file c.as_slice-in-Some.result.now)))) (c.deref.ensures ∙ c.in_ok-name.ensures) c.in_err-write_text-in-Some.ensures.partly in
    OnErr-from _ _ (stops_in a b d c.args.folder.now (case_in c.args.case.now) c.scripts.number c.in-Some.text.now c.scripts.invariant small (sym c.in-Some.ensures) there
    (subst (λ x. IfTold b.told d.told (λ t t'. WrotePart t t' (parts c.args.folder.now ++ script_name c.scripts.number ∷ []) (Some (file x)))) c.as_slice-in-Some.ensures.value named))

pub unreachable-requires : goal.unreachable-requires
unreachable-requires g c = not_past c.args.case.now.scripts c.scripts.number (omega (arith, c.scripts-test.true, c.len-number-end.ensures)) (sym c.in-None.ensures)

pub scripts-preserved : goal.scripts-preserved
scripts-preserved g c =
    let a = g.H.Host.view c.args.host.now in
    let b = g.H.Host.view c.scripts.host in
    let d = g.H.Host.view c.write_text-in-Some.new.host in
    let small : c.scripts.number < 10 = omega (arith, c.scripts-test.true, c.len-number-end.ensures, c.requires.few) in
    let there : c.scripts.number ≤ length c.args.case.now.scripts = omega (arith, c.scripts-test.true, c.len-number-end.ensures) in
    let named = subst (λ n. IfTold b.told d.told (λ t t'. t' ≡ with_entry t (parts c.args.folder.now ++ n ∷ []) (Some (file c.as_slice-in-Some.result.now)))) (c.deref.ensures ∙ c.in_ok-name.ensures) c.in_ok-write_text-in-Some.ensures.written in
    script_written a b d c.args.folder.now (case_in c.args.case.now) c.scripts.number c.in-Some.text.now c.scripts.invariant small (sym c.in-Some.ensures) there c.write_text-in-Some.ensures.later c.write_text-in-Some.ensures.fit
    (subst (λ x. IfTold b.told d.told (λ t t'. t' ≡ with_entry t (parts c.args.folder.now ++ script_name c.scripts.number ∷ []) (Some (file x)))) c.as_slice-in-Some.ensures.value named)

pub returns-clause-written : goal.returns-clause-written
returns-clause-written g c =
    texts_written (g.H.Host.view c.args.host.now) (g.H.Host.view c.scripts.host) c.args.folder.now (case_in c.args.case.now) c.scripts.number (omega (arith, c.scripts-test.false, c.len-number-end.ensures, c.scripts.auto.number-end)) c.scripts.invariant
