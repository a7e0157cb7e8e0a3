use Rattle.check_certificate.proofs.Words.{◌≡◌, ◌∙◌, ℕ, length, arith, ap, subst, sym, Called, true, Some, event_at, given_of, end_of, all_below, not}
use Rattle.check_certificate.proofs.Words.{is_call_ruled_out, happening_of, LogEvent, nat_tests, nat_lt, ◌||◌}
use Rattle.check_certificate.specs.Walks.{is_walked}
use Rattle.check_certificate.proofs.Forcing.{event_is}
use Rattle.check_certificate.proofs.Walks.{all_more, event_inside, next_call, not_all, or_false}
use Rattle.check_certificate.proofs.Impossible.{or_right}
use Rattle.check_certificate.proofs.beginning.LogBeginning.is_walked.Goals as goal

pub loop-at-preserved : goal.loop-at-preserved
loop-at-preserved c = grind (arith, next_call, all_more, event_at, or_right, event_is)

pub returns-then-not-is_call_ruled_out-clause-exact : goal.returns-then-not-is_call_ruled_out-clause-exact
unfolding is_walked
returns-then-not-is_call_ruled_out-clause-exact c =
    let early : nat_lt c.loop-at.at (end_of c.args.aim.now) ≡ true = grind (arith, nat_tests, c.if-at-end.true, c.end_of-end.ensures) in
    sym (not_all (λ at. not (nat_lt at (end_of c.args.aim.now))
    || is_call_ruled_out (given_of c.args.self.now) c.args.known.now c.args.aim.now at (event_at (given_of c.args.self.now) at)) (length c.args.self.now.events.now) c.loop-at.at
    (omega (arith, c.loop-at-test.true))
    (or_false _ _ early (ap (is_call_ruled_out (given_of c.args.self.now) c.args.known.now c.args.aim.now c.loop-at.at)
    (event_is c.args.self.now.events.now c.loop-at.at c.index-self-at.result (omega (arith, c.loop-at-test.true)) c.index-self-at.is)
    ∙ (ap (λ (e : LogEvent). is_call_ruled_out (given_of c.args.self.now) c.args.known.now c.args.aim.now c.loop-at.at (Some (happening_of e))) c.index-self-at.is
    ∙ (sym c.is_call_ruled_out.ensures.exact ∙ c.if-not-is_call_ruled_out.true)))))

pub returns-clause-sound : goal.returns-clause-sound
returns-clause-sound c = λ _ is p id requests sooner there.
    grind (arith, event_inside c.args.self.now c.args.aim.now p (Called id requests) there, c.loop-at-test.false)

pub returns-clause-exact : goal.returns-clause-exact
unfolding is_walked
returns-clause-exact c =
    let all : c.loop-at.at ≡ length c.args.self.now.events.now = omega (arith, c.loop-at-test.false) in
    sym (subst (λ (n : ℕ). all_below n (λ at. not (nat_lt at (end_of c.args.aim.now))
    || is_call_ruled_out (given_of c.args.self.now) c.args.known.now c.args.aim.now at (event_at (given_of c.args.self.now) at)) ≡ true) all c.loop-at.invariant.exact)
