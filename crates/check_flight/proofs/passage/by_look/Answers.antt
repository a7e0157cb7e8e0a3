use Rattle.check_flight.proofs.{fewer_more}
use Rattle.check_flight.proofs.passage.by_look.Goals as goal

pub returns : goal.returns
returns c = λ read.
    let (lead, fewer) = rw c.in-Leads.is at (c.in_ok-next.ensures read) in
    let still = rw (c.deref.ensures.value, c.in_ok-push.ensures.items) at c.in_ok-next-2.ensures in (
      record { table = lead.table; own = lead.own; others = lead.others; removed = lead.removed },
      fewer_more c.args.state.now.waiting.items c.in-Leads.next.waiting.items _ c.args.look fewer still,
    )
