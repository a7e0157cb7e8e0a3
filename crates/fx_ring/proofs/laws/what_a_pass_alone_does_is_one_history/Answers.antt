use Rattle.fx_ring.proofs.LonePlays.{part_is_one_history}
use Rattle.fx_ring.proofs.laws.what_a_pass_alone_does_is_one_history.Goals as goal

pub returns : goal.returns
returns c = λ catalogue o before after drawn since submissions registrations requests completions sorted closes files few short first last
    authors own worked all.
    part_is_one_history since submissions requests few short first last authors own worked all registrations
