use Rattle.check_certificate.proofs.Words.{subst, sym, IsForced}
use Rattle.check_certificate.proofs.Holders.{holder_forced, holder_put, none_forced}
use Rattle.check_certificate.proofs.beginning.LogBeginning.holds.Goals as goal

pub returns-in-Nothing-clause-sound : goal.returns-in-Nothing-clause-sound
returns-in-Nothing-clause-sound c = subst (IsForced c.args.self.now) (sym c.ordered.ensures)
    (none_forced c.args.self.now c.args.h.now c.in_ok-evidence.evidence c.in_ok-evidence.ensures.sound (c.finds_file.ensures.sound c.if-not-finds_file.false)
    (c.is_empty_at_first.ensures.sound c.if-not-is_empty_at_first.false) (c.is_walked.ensures.sound c.if-not-is_walked.false) c.in-Nothing.is)

pub returns-in-PutBefore-clause-sound : goal.returns-in-PutBefore-clause-sound
returns-in-PutBefore-clause-sound c = subst (IsForced c.args.self.now) (sym c.ordered-in-PutBefore.ensures)
    (holder_put c.args.self.now c.args.h.now c.in_ok-evidence.evidence c.in_ok-evidence.ensures.sound (c.finds_file.ensures.sound c.if-not-finds_file.false)
    (c.is_empty_at_first.ensures.sound c.if-not-is_empty_at_first.false) (c.is_walked.ensures.sound c.if-not-is_walked.false) c.in-PutBefore.file c.in-PutBefore.is)

pub returns-in-GoneAfter-clause-sound : goal.returns-in-GoneAfter-clause-sound
returns-in-GoneAfter-clause-sound c = subst (IsForced c.args.self.now) (sym c.not_after.ensures)
    (holder_forced c.args.self.now c.args.h.now c.in_ok-evidence.evidence c.in_ok-evidence.ensures.sound (c.finds_file.ensures.sound c.if-not-finds_file.false)
    (c.is_empty_at_first.ensures.sound c.if-not-is_empty_at_first.false) (c.is_walked.ensures.sound c.if-not-is_walked.false) c.in-GoneAfter.file c.in-GoneAfter.is)
