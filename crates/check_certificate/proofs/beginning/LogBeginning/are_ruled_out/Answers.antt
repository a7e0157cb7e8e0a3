use Rattle.check_certificate.proofs.Words.{◌≡◌, ◌∙◌, ℕ, length, arith, sym, ap, subst, true, Option, intended, given_of, slots_of, all_below, Intent}
use Rattle.check_certificate.proofs.Words.{is_ruled_out, positions_of, operation_of}
use Rattle.check_certificate.proofs.Walks.{all_intents, all_more, next_intent, not_all}
use Rattle.check_certificate.specs.Walks.{are_ruled_out}
use Rattle.check_certificate.proofs.beginning.LogBeginning.are_ruled_out.Goals as goal

pub loop-access-preserved : goal.loop-access-preserved
loop-access-preserved c = grind (arith, next_intent, all_more, intended)

pub returns-then-not-is_ruled_out-clause-exact : goal.returns-then-not-is_ruled_out-clause-exact
unfolding are_ruled_out
returns-then-not-is_ruled_out-clause-exact c = sym (not_all (λ access. is_ruled_out (given_of c.args.self.now) c.args.known.now c.args.aim.now
    (record { call = c.args.call; place = c.args.place; access = access })
    (intended c.args.self.now.catalogue.now (slots_of (given_of c.args.self.now)) c.args.place (operation_of c.args.request.now.op) access)) (length (positions_of (operation_of c.args.request.now.op))) c.loop-access.access
    (omega (arith, c.loop-access-test.true, c.accesses-access-end.ensures)) (ap (λ (i : Option Intent). is_ruled_out (given_of c.args.self.now) c.args.known.now c.args.aim.now
    (record { call = c.args.call; place = c.args.place; access = c.loop-access.access }) i) (sym c.intended-intent.ensures.exact)
    ∙ (sym c.is_ruled_out.ensures.exact ∙ c.if-not-is_ruled_out.true)))

pub returns-clause-sound : goal.returns-clause-sound
returns-clause-sound c = λ _ is. grind (arith, all_intents, c.loop-access-test.false, c.accesses-access-end.ensures, c.loop-access.invariant.sound is)

pub returns-clause-exact : goal.returns-clause-exact
unfolding are_ruled_out
returns-clause-exact c =
    let all : c.loop-access.access ≡ length (positions_of (operation_of c.args.request.now.op)) =
    omega (arith, c.loop-access-test.false, c.accesses-access-end.ensures) in
    sym (subst (λ (n : ℕ). all_below n (λ access. is_ruled_out (given_of c.args.self.now) c.args.known.now c.args.aim.now
    (record { call = c.args.call; place = c.args.place; access = access })
    (intended c.args.self.now.catalogue.now (slots_of (given_of c.args.self.now)) c.args.place (operation_of c.args.request.now.op) access)) ≡ true) all c.loop-access.invariant.exact)
