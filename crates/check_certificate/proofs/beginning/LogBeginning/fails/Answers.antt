use Rattle.check_certificate.proofs.Words.{◌∙◌, arith, subst, sym, slice_index_or, AllSettled, IsForced, log_of_beginning, completed_of, happening_of}
use Rattle.check_certificate.proofs.Words.{length-map, slice_get-get_or}
use Rattle.check_certificate.proofs.Holders.{fails_forced}
use Rattle.check_certificate.proofs.beginning.LogBeginning.fails.Goals as goal

pub returns-clause-sound : goal.returns-clause-sound
returns-clause-sound c =
    let failed = sym c.is_failure.ensures ∙ c.if-not-is_failure.false in
    let of = c.is_of_member.ensures.sound c.if-not-is_of_member.false in
    let log = log_of_beginning c.args.self.now in
    let long = length-map c.args.self.now.events.now happening_of in
    subst (IsForced c.args.self.now) (sym c.ordered.ensures)
    (fails_forced c.args.self.now c.args.event c.args.own of.0 (slice_index_or log c.args.event AllSettled) (completed_of c.in_ok-c.c.now) c.args.file
    (slice_get-get_or log c.args.event AllSettled (omega (arith, c.if-event-self.false, long))) c.in_ok-c.ensures.sound failed of.1)
