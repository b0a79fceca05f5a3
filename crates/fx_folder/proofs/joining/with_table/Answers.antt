use Rattle.fx_folder.proofs.Prelude.{IfOk, IfErr, subst, standing_by, LinesCause, IsJoined, room_behind, err_of}
use Rattle.fx_folder.proofs.Gathering.{joined_told, unread_told}
use Rattle.fx_folder.proofs.joining.with_table.Goals as goal

pub returns-clause-answer : goal.returns-clause-answer
returns-clause-answer g c =
    joined_told (g.H.Host.view c.args.host.now).told c.args.folder.now c.args.kind c.args.walked c.in_ok-text.text.items c.joined.result c.requires.found c.requires.folder c.requires.table c.requires.walked c.in_ok-text.ensures.answer
    (subst (λ l. IfOk c.joined.result (λ all. IsJoined c.args.walked.found.items c.args.walked.left l all.items)) c.deref.ensures.value c.joined.ensures.joined)
    (subst (λ l. IfErr c.joined.result (LinesCause (standing_by c.args.walked.found.items) (room_behind c.args.walked.found.items c.args.walked.left) l)) c.deref.ensures.value c.joined.ensures.cause)

pub returns-in_err-text-clause-answer : goal.returns-in_err-text-clause-answer
returns-in_err-text-clause-answer g c =
    rw (err_of c.from_residual.result c.in_err-text.field-0.0 c.from_residual.ensures.1)
    (unread_told (g.H.Host.view c.args.host.now).told c.args.folder.now c.args.kind c.args.walked c.in_err-text.field-0.0 c.requires.found c.requires.folder c.requires.table c.requires.walked c.in_err-text.ensures.answer)
