use Rattle.check_certificate.proofs.Words.{◌∙◌, subst, sym, IsForced, completed_of, asked_of, happening_of}
use Rattle.check_certificate.proofs.Cutting.{cut_said}
use Rattle.check_certificate.proofs.beginning.LogBeginning.cut.Goals as goal

pub returns-clause-sound : goal.returns-clause-sound
returns-clause-sound c = subst (IsForced c.args.self.now) (sym c.ordered.ensures)
    (cut_said c.args.self.now c.args.call c.args.before c.args.answer (happening_of c.in_ok-begins.begins.now) (asked_of c.in_ok-request.request.now)
    (asked_of c.in_ok-_asked._asked.now) (completed_of c.in_ok-c.c.now) (completed_of c.in_ok-next.next.now) (sym c.in_ok-begins.ensures) c.in_ok-c.ensures.sound
    c.in_ok-next.ensures.sound c.in_ok-request.ensures c.in_ok-_asked.ensures (sym c.is_next.ensures ∙ c.if-not-is_next.false)
    (sym c.is_cut_wrongly.ensures ∙ c.if-not-is_cut_wrongly.false))
