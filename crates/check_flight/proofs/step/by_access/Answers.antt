use Rattle.check_flight.proofs.{◌+◌, ◌∙◌, Rest, ap, file_removed_by, refl, subst, sym, log_in, rules_of_log, runs_of_calls, IsOneDenied, are_with}
use Rattle.check_flight.proofs.{open_rest, stepped}
use Rattle.check_flight.proofs.Words.{step}
use Rattle.check_flight.proofs.step.by_access.Goals as goal

pub returns-then-is_out_of_turn : goal.returns-then-is_out_of_turn
returns-then-is_out_of_turn c = λ permits turn. absurd (c.is_out_of_turn.ensures c.if-is_out_of_turn.true turn)

pub returns-then-is_one_denied : goal.returns-then-is_one_denied
returns-then-is_one_denied c = λ permits _.
    let log = c.args.log.now in
    let state = c.args.state.now in
    let own = rw c.in-Some.is at c.in_ok-after.ensures.steps in
    let same = open_rest (runs_of_calls c.args.calls.now) state (state.base + c.args.j + 1) c.args.j refl in
    subst (IsOneDenied (log_in log)) (own.recorded ∙ ap (λ (r : Rest). (step (rules_of_log log) r c.args.access.now).0) (sym same))
    (rw c.deref.ensures.value at (c.is_one_denied.ensures c.if-is_one_denied.true))

pub returns : goal.returns
returns c =
    let state = c.args.state.now in
    let next = c.in_ok-moved_state.field-0 in
    let moved = c.in_ok-moved_state.ensures in
    let own = c.in_ok-after.ensures in
    stepped (runs_of_calls c.args.calls.now) state next refl moved.base (rw c.in-Some.is at own.known) refl moved.chains refl
    (rw c.in-Some.is at own.steps) moved.table
    (are_with state.removed.items next.removed.items (file_removed_by c.args.access.now) moved.removed) moved.waiting
