use Rattle.fx_ring.proofs.Words.{◌≤◌, ℕ, All, take, all_asked, all_installs, members_of, InstallAtMost}
use Rattle.fx_ring.proofs.play.Submission.most_installs.Given as goal

abbrev pub invariant-loop-chain : goal.invariant-loop-chain
invariant-loop-chain g l = record {
  few : l.most ≤ 64;
  each : All (λ chain. all_installs (members_of (all_asked l.self.requests.now) chain) ≤ l.most) (take l.chain-index l.self.chains.now);
  least : (most : ℕ) → InstallAtMost (all_asked l.self.requests.now) most → l.most ≤ most;
}
