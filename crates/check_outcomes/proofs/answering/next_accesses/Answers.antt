use Rattle.check_outcomes.proofs.{◌≡◌, IfOk-weaker, Some, None, arith, length, operation_of, meant, IsIntent}
use Rattle.check_outcomes.proofs.answering.next_accesses.Goals as goal

pub returns-in-Some : goal.returns-in-Some
returns-in-Some c =
    let size = length c.args.slots.now.at.items in
    let same : c.len.result ≡ size = omega (arith, c.args.slots.now.at.ok.0) in
    let is : IsIntent c.args.catalogue.now size c.args.place (operation_of c.args.request.now.op) c.args.made (Some c.in-Some.intent) =
    rw (same, c.in-Some.is) at c.intent_of.ensures in
    IfOk-weaker c.accesses_of.result _ _ (λ choices each a next may. each a
    (meant c.args.catalogue.now c.requires.catalogue size c.args.place (operation_of c.args.request.now.op) a c.args.made
    (Some c.in-Some.intent) is next) may) c.accesses_of.ensures

pub returns-in-None : goal.returns-in-None
returns-in-None c a next may =
    let size = length c.args.slots.now.at.items in
    let same : c.len.result ≡ size = omega (arith, c.args.slots.now.at.ok.0) in
    let is : IsIntent c.args.catalogue.now size c.args.place (operation_of c.args.request.now.op) c.args.made None =
    rw (same, c.in-None.is) at c.intent_of.ensures in
    absurd (meant c.args.catalogue.now c.requires.catalogue size c.args.place (operation_of c.args.request.now.op) a c.args.made None is next)
