use Rattle.fx_baton.proofs.Words.{table_of_loan, events_of, doing_of}
use Rattle.fx_baton.proofs.table.BatonTable.give_back.Given as goal

abbrev pub ghosts-give : goal.ghosts-give
ghosts-give a =
    let p = a.pass.now in let taken = table_of_loan p.seat.me.0.loan in
    record { events = events_of taken p.number p.chain p.seat.me.0.doing a.call; doing = doing_of taken a.call }
