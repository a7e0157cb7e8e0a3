use Rattle.check_flight.proofs.{◌<◌, ◌+◌, ap, arith, asked_of, length, length-map, run_at, runs_of_calls, sym, amid_rest}
use Rattle.check_flight.proofs.turn.is_amid.Goals as goal

pub returns : goal.returns
returns c = λ _ none.
    let state = c.args.state.now in
    let runs = runs_of_calls c.args.calls.now in
    let run = ap length c.members_at-members.ensures.run in
    let few : c.progress-progress.result.done < length (run_at runs (state.base + c.args.j + 1)) =
    omega (arith, c.if-done-members.false, run, length-map c.members_at-members.result.now asked_of) in
    let made = amid_rest runs state c.args.j (sym c.progress-progress.ensures) few in
    absurd (omega (arith, made, none, c.if-made-eq0.false))
