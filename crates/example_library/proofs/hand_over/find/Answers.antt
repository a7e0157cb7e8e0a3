use Rattle.std.proofs.Common.{ap, Some, None}
use Rattle.fx_lasting.specs.Tables.{opening_of_table, view_of}
use Rattle.fx_lasting.specs.life.Showing.{shown_of}
use Rattle.example_library.proofs.HandOver.{finds_the_put, released_then, entry_in}
use Rattle.example_library.proofs.hand_over.find.Goals as goal

pub returns-in_default-clause-found : goal.returns-in_default-clause-found
returns-in_default-clause-found c =
    let call = c.look_up_after-found in
    finds_the_put (opening_of_table c.args.table.now) (shown_of c.args.seen.now) (view_of c.args.pass.now) c.args.slot c.args.entry call.result None
    (view_of call.new.pass) call.ensures.looked call.ensures.never_spent c.requires.put (ap entry_in c.in_default.is)

pub returns-clause-found : goal.returns-clause-found
returns-clause-found c =
    let call = c.look_up_after-found in
    let o = opening_of_table c.args.table.now in
    let now = view_of call.new.pass in
    let hold = c.in-Ok.hold in
    released_then o now (view_of c.release.new.pass) hold c.release.result c.args.slot c.args.entry (Some hold.entry) c.release.ensures.released
    (finds_the_put o (shown_of c.args.seen.now) (view_of c.args.pass.now) c.args.slot c.args.entry call.result (Some hold.entry)
    now call.ensures.looked call.ensures.never_spent c.requires.put (ap entry_in c.in-Ok.is))
