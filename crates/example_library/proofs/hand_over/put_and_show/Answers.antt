use Rattle.fx_lasting.specs.Tables.{opening_of_table, view_of}
use Rattle.fx_lasting.specs.life.Showing.{shown_of}
use Rattle.example_library.proofs.HandOver.{put_is_shown}
use Rattle.example_library.proofs.hand_over.put_and_show.Goals as goal

pub returns-in_default-clause-put : goal.returns-in_default-clause-put
returns-in_default-clause-put c =
    put_is_shown (opening_of_table c.args.table.now) (view_of c.args.pass.now) (view_of c.put-removed.new.pass) c.args.slot c.args.entry c.open-file.result
    c.put-removed.result (shown_of c.show-seen.result) c.put-removed.ensures.placed c.open-file.ensures.entry c.show-seen.ensures.shown

pub returns-clause-put : goal.returns-clause-put
returns-clause-put c =
    put_is_shown (opening_of_table c.args.table.now) (view_of c.args.pass.now) (view_of c.put-removed.new.pass) c.args.slot c.args.entry c.open-file.result
    c.put-removed.result (shown_of c.show-seen.result) c.put-removed.ensures.placed c.open-file.ensures.entry c.show-seen.ensures.shown
