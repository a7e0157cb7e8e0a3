use Rattle.check_certificate.proofs.Words.{arith, asked_of}
use Rattle.check_certificate.proofs.Forcing.{got_mapped}
use Rattle.check_certificate.proofs.evidence.member_of.Goals as goal

pub returns : goal.returns
returns c = grind (arith, c.args.member, got_mapped asked_of c.args.chain.now c.saturating_sub.result c.get.result c.get.ensures.lookup)
