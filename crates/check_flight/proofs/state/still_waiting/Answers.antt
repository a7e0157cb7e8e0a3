use Rattle.check_flight.proofs.{slice_index_or, Contains-get_or, WaitingLook, waits_more}
use Rattle.check_flight.proofs.state.still_waiting.Goals.{then-waits+in_ok-push, else-waits}
use Rattle.check_flight.proofs.state.still_waiting.Goals as goal

abbrev no_look : WaitingLook
no_look = record { id = 0; slot = 0 }

pub loop-look-preserved : goal.loop-look-preserved
loop-look-preserved c =
    let waiting = c.args.waiting.now in
    let i = c.loop-look.look-index in
    elim c.if-waits.branch [
      | then-waits+in_ok-push w ↦
          rw (w.after-is, w.in_ok-push.ensures.items) (waits_more waiting c.loop-look.after.items (slice_index_or waiting i no_look) c.loop-look.invariant
          (Contains-get_or waiting i no_look c.loop-look-test.true))
      | else-waits w ↦ rw w.after-is c.loop-look.invariant
    ]
