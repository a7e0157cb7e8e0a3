use Rattle.check_certificate.proofs.Words.{◌≡◌, ◌<◌, Some, arith, rules, bytes_at, size_at}
use Rattle.check_certificate.proofs.Bytes.{pushed}
use Rattle.check_certificate.proofs.contents.contents_of.Goals as goal

pub loop-entry-preserved : goal.loop-entry-preserved
loop-entry-preserved c =
    let k = c.loop-entry.entry in
    let small : k < 256 = omega (arith, c.loop-entry-test.true, c.len-entry-end.ensures.few) in
    let at : size_at c.args.catalogue.now k ≡ Some c.size_of-size.result = search rules in
    let got : c.read_into.new.into.items ≡ bytes_at c.args.catalogue.now k 0 c.size_of-size.result = search rules in
    pushed (λ own. own.items) c.args.catalogue.now k c.size_of-size.result c.loop-entry.contents.items c.push.new.self.items _ c.loop-entry.invariant
    c.in_ok-push.ensures.items got at
