use Rattle.check_certificate.proofs.Words.{◌≡◌, ◌∙◌, ◌<◌, ℕ, length, arith, sym, ap, subst, true, slice_get, given_of, all_below, is_asked_ruled_out}
use Rattle.check_certificate.proofs.Words.{all_asked, asked_of, slice_get_within, length-map}
use Rattle.check_certificate.proofs.Walks.{all_more, asked_at, next_member, not_all}
use Rattle.check_certificate.specs.Walks.{are_all_ruled_out}
use Rattle.check_certificate.proofs.beginning.LogBeginning.are_all_ruled_out.Goals as goal

pub loop-n-preserved : goal.loop-n-preserved
loop-n-preserved c = grind (arith, next_member, all_more, asked_at)

pub returns-then-not-is_member_ruled_out-clause-exact : goal.returns-then-not-is_member_ruled_out-clause-exact
unfolding are_all_ruled_out
returns-then-not-is_member_ruled_out-clause-exact c =
    let long = length-map c.args.chain.now asked_of in
    let low : c.loop-n.n < length (all_asked c.args.chain.now) = omega (arith, long, c.loop-n-test.true) in
    sym (not_all (λ n. is_asked_ruled_out (given_of c.args.self.now) c.args.known.now c.args.aim.now c.args.call c.args.id n (slice_get (all_asked c.args.chain.now) n)) (length (all_asked c.args.chain.now)) c.loop-n.n low (ap (is_asked_ruled_out (given_of c.args.self.now) c.args.known.now c.args.aim.now c.args.call c.args.id c.loop-n.n)
    (asked_at c.args.chain.now c.loop-n.n c.index-chain-n.result (omega (arith, c.loop-n-test.true)) c.index-chain-n.is)
    ∙ (sym c.is_member_ruled_out.ensures.exact ∙ c.if-not-is_member_ruled_out.true)))

pub returns-clause-sound : goal.returns-clause-sound
returns-clause-sound c = λ _ is n request asked.
    let inside = slice_get_within (all_asked c.args.chain.now) n request asked in
    let long = length-map c.args.chain.now asked_of in
    c.loop-n.invariant.sound is n request (omega (arith, inside, long, c.loop-n-test.false)) asked

pub returns-clause-exact : goal.returns-clause-exact
unfolding are_all_ruled_out
returns-clause-exact c =
    let long = length-map c.args.chain.now asked_of in
    let all : c.loop-n.n ≡ length (all_asked c.args.chain.now) = omega (arith, long, c.loop-n-test.false) in
    sym (subst (λ (n : ℕ). all_below n (λ n. is_asked_ruled_out (given_of c.args.self.now) c.args.known.now c.args.aim.now c.args.call c.args.id n (slice_get (all_asked c.args.chain.now) n)) ≡ true) all c.loop-n.invariant.exact)
