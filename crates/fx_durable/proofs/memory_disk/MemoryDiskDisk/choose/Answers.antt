use Rattle.std.proofs.Common.{◌≡◌, refl, sym, ◌∙◌, ap, arith, inl, inr, length}
use Rattle.std.proofs.lemmas.Bool.{not-false, not-true}
use Rattle.fx_durable.specs.Replay.{no_file, replay}
use Rattle.fx_durable.specs.declared.disk_call.DiskCall.TheVariants as call
use Rattle.fx_durable.proofs.Replays.{path_stays, idle_file}
use Rattle.fx_durable.proofs.Texts.{same_text, other_text}
use Rattle.fx_durable.proofs.memory_disk.MemoryDiskDisk.choose.Goals as goal

pub returns-then-ne-clause-cause : goal.returns-then-ne-clause-cause
returns-then-ne-clause-cause c =
    let self = c.args.self.now in
    let stays = path_stays (no_file self.path) self.made.items self.taken.items in
    let differs = other_text c.args.path.now self.path (not-true _ (sym c.ne.ensures ∙ c.if-ne.true)) in
    record {
      later = omega arith;
      calm = tt;
      failed = inr (λ same. differs (sym (sym stays ∙ same)));
      other = λ other. (refl, refl);
      counts = λ other. omega (arith, c.saturating_add-self.ensures);
      others = λ at. absurd (differs (sym (sym stays ∙ at)));
    }

pub returns-then-fails-clause-cause : goal.returns-then-fails-clause-cause
returns-then-fails-clause-cause c =
    let self = c.args.self.now in
    let stays = path_stays (no_file self.path) self.made.items self.taken.items in
    let same = same_text c.args.path.now self.path (not-false _ (sym c.ne.ensures ∙ c.if-ne.false)) in
    let faults = ap (λ p. p.faults) (c.log.ensures.plan ∙ c.begin-fails.ensures.plan) in
    record {
      later = omega (arith, faults, c.failed.ensures.later);
      calm = tt;
      failed = inl (omega (arith, faults, ap (λ p. p.faults) c.failed.ensures.plan));
      other = λ other. absurd (other (stays ∙ sym same));
      counts = λ other. absurd (other (stays ∙ sym same));
      others = λ at. c.failed.ensures.others ∙ c.log.ensures.room.others ∙ c.begin-fails.ensures.others;
    }

pub returns-clause-answer : goal.returns-clause-answer
returns-clause-answer c =
    let self = c.args.self.now in
    let stays = path_stays (no_file self.path) self.made.items self.taken.items in
    let same = same_text c.args.path.now self.path (not-false _ (sym c.ne.ensures ∙ c.if-ne.false)) in
    let begun = c.begin-fails.new.self in
    let logged = c.log.new.self in
    let seen = idle_file call.Choose tt (replay (no_file begun.path) begun.made.items begun.taken.items) (replay (no_file logged.path) logged.made.items logged.taken.items) c.log.ensures.file in
    let began : length (replay (no_file begun.path) begun.made.items begun.taken.items).seen ≡ length (replay (no_file self.path) self.made.items self.taken.items).seen = λ i. length (replay (no_file (c.begin-fails.ensures.same.path i)) (c.begin-fails.ensures.same.made i) (c.begin-fails.ensures.same.taken i)).seen in
    (stays ∙ sym same, omega (arith, c.len.ensures, ap length (sym logged.seen ∙ seen), began))

pub returns-clause-cause : goal.returns-clause-cause
returns-clause-cause c =
    let self = c.args.self.now in
    let stays = path_stays (no_file self.path) self.made.items self.taken.items in
    let same = same_text c.args.path.now self.path (not-false _ (sym c.ne.ensures ∙ c.if-ne.false)) in
    let faults = ap (λ p. p.faults) (c.log.ensures.plan ∙ c.begin-fails.ensures.plan) in
    record { later = omega (arith, faults); calm = faults; failed = tt; other = λ other. absurd (other (stays ∙ sym same)); counts = λ other. absurd (other (stays ∙ sym same)); others = λ at. c.log.ensures.room.others ∙ c.begin-fails.ensures.others }

pub returns-then-ne-clause-fails : goal.returns-then-ne-clause-fails
returns-then-ne-clause-fails c same = absurd (other_text c.args.path.now c.args.self.now.path (not-true _ (sym c.ne.ensures ∙ c.if-ne.true)) same)

pub returns-then-ne-clause-record : goal.returns-then-ne-clause-record
returns-then-ne-clause-record c same = absurd (other_text c.args.path.now c.args.self.now.path (not-true _ (sym c.ne.ensures ∙ c.if-ne.true)) same)

pub returns-then-ne-clause-call : goal.returns-then-ne-clause-call
returns-then-ne-clause-call c same = absurd (other_text c.args.path.now c.args.self.now.path (not-true _ (sym c.ne.ensures ∙ c.if-ne.true)) same)

pub returns-then-fails-clause-no_call : goal.returns-then-fails-clause-no_call
returns-then-fails-clause-no_call c differs = absurd (differs (same_text c.args.path.now c.args.self.now.path (not-false _ (sym c.ne.ensures ∙ c.if-ne.false))))

pub returns-clause-no_call : goal.returns-clause-no_call
returns-clause-no_call c differs = absurd (differs (same_text c.args.path.now c.args.self.now.path (not-false _ (sym c.ne.ensures ∙ c.if-ne.false))))
