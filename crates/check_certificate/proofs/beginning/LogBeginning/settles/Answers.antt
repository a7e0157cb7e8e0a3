use Rattle.check_certificate.proofs.Words.{◌≡◌, ◌∙◌, sym, subst, rules, arith, common_steps, IsForced, Put, Gone, Event, happening_of, false≢true}
use Rattle.check_certificate.proofs.Words.{take-map}
use Rattle.check_certificate.proofs.Forcing.{settles_forced, strict_from}
use Rattle.check_certificate.proofs.beginning.LogBeginning.settles.Goals as goal

pub returns-clause-sound : goal.returns-clause-sound
returns-clause-sound c = λ known there.
    let own : c.in_ok-file.own ≡ c.in_ok-file.file = first_of (search rules, grind (arith, common_steps)) in
    let early : c.in_ok-early.early ≡ c.in_ok-file.file = first_of (search rules, grind (arith, common_steps)) in
    let first : IsForced c.args.self.now (strict_from (Put c.in_ok-early.early) (Event c.args.settled)) =
    subst (IsForced c.args.self.now) c.in_ok-early.ensures.sound known in
    let placed : IsForced c.args.self.now (strict_from (Put c.in_ok-file.file) (Gone c.in_ok-file.own c.in_ok-file.slot)) =
    subst (IsForced c.args.self.now) c.in_ok-file.ensures.sound there in
    subst (IsForced c.args.self.now) (sym c.ordered.ensures)
    (settles_forced c.args.self.now c.args.settled c.in_ok-_call._call c.in_ok-file.slot c.in_ok-file.file (c.is_settled_at.ensures.sound c.if-not-is_settled_at.false)
    c.in_ok-_call.ensures.sound (λ inside. false≢true (sym c.if-was_closed.false ∙ c.was_closed.ensures.sound (rw (take-map happening_of c.args.settled c.args.self.now.events.now) at inside)))
    (subst (λ f. IsForced c.args.self.now (strict_from (Put f) (Event c.args.settled))) early first)
    (subst (λ f. IsForced c.args.self.now (strict_from (Put c.in_ok-file.file) (Gone f c.in_ok-file.slot))) own placed))
