use Rattle.fx_order.proofs.{◌≡◌, Some, operation_of, slice_get, sym, intent_by, intents_of}
use Rattle.fx_order.proofs.Intents.{next_fits}
use Rattle.fx_order.proofs.request.+are_intended.Goals as goal

pub returns-then-is_of : goal.returns-then-is_of
returns-then-is_of t c =
    let operation = operation_of c.args.request.now.op in
    let by : Some c.in-Some.intent ≡ intent_by c.args.setting.now.catalogue.now c.args.setting.now.size c.args.opened.0 c.args.opened.1 operation
    c.args.made = rw c.in-Some.is at c.intent_by-intent.ensures in
    let got : Some c.in-Some.intent ≡ slice_get (intents_of c.args.opened.0 c.args.opened.1 operation) c.args.made =
    rw c.requires.accepted at by in
    next_fits (intents_of c.args.opened.0 c.args.opened.1 operation) c.args.made c.in-Some.intent c.args.accesses.now _ (sym got)
    c.in-len1-up.len_at_least c.is_of.result c.are_intended.result c.is_of.ensures c.if-is_of.true c.are_intended.ensures
