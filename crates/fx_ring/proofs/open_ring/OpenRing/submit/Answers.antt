use Rattle.fx_ring.proofs.Words.{ap, arith, rules, OpenRingContents, ◌≤◌, All-weaker, all_installs, runs_of, all_asked}
use Rattle.fx_ring.proofs.CompletionPlaces.{as_many}
use Rattle.fx_ring.proofs.SubmittedRing.{kept_after, entries_after}
use Rattle.fx_ring.proofs.open_ring.OpenRing.submit.Goals as goal

pub invariant_of-self : goal.invariant_of-self
invariant_of-self g c = kept_after c.self.invariant _ c.play_alone-report.ensures.alone (search rules) c.in_ok-chains.ensures.few
    c.play_alone-report.ensures.chain c.play_alone-report.ensures.looks (c.play_alone-report.ensures.played c.self.inside.registrations)

pub returns-clause-entries : goal.returns-clause-entries
returns-clause-entries g c = entries_after c.self.invariant _ c.play_alone-report.ensures.alone (search rules) c.in_ok-chains.ensures.few
    c.play_alone-report.ensures.chain c.play_alone-report.ensures.looks (c.play_alone-report.ensures.played c.self.inside.registrations)

pub returns-clause-room : goal.returns-clause-room
returns-clause-room g c =
    let most : c.most_installs.result ≤ c.self.inside.most = search rules in
    record {
      chains = omega (arith, ap (λ (opened : OpenRingContents). opened.chains_left) c.self.view_is, as_many c.in_ok-chains.ensures.cut);
      installs = All-weaker (λ run. all_installs run ≤ c.most_installs.result) (λ run. all_installs run ≤ c.args.self.now.most)
          (λ run le. omega (arith, le, most, ap (λ (opened : OpenRingContents). opened.most) c.self.view_is))
          (runs_of (all_asked c.args.requests.now)) c.most_installs.ensures.each;
    }

pub returns-then-most_installs-self-clause-no_room : goal.returns-then-most_installs-self-clause-no_room
returns-then-most_installs-self-clause-no_room g c room =
    let most = ap (λ (opened : OpenRingContents). opened.most) c.self.view_is in
    absurd (omega (arith, most, c.most_installs.ensures.least c.args.self.now.most room.installs, c.if-most_installs-self.true))
