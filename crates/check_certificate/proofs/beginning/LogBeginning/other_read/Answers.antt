use Rattle.check_certificate.proofs.Words.{◌∙◌, sym, completed_of, asked_of, happening_of}
use Rattle.check_certificate.proofs.Bytes.{other_said}
use Rattle.check_certificate.proofs.beginning.LogBeginning.other_read.Goals as goal

pub returns-clause-sound : goal.returns-clause-sound
returns-clause-sound c = other_said c.args.self.now c.args.h.now (completed_of c.in_ok-c.c.now) (asked_of c.in_ok-request.request.now) c.args.file
    (happening_of c.in_ok-begins.begins.now) c.in_ok-evidence.evidence (sym c.in_ok-begins.ensures) c.in_ok-c.ensures.sound c.in_ok-request.ensures
    c.in_ok-evidence.ensures.sound (sym c.is_seen.ensures ∙ c.if-not-is_seen.false) (sym c.reads_others.ensures ∙ c.if-not-reads_others.false)
