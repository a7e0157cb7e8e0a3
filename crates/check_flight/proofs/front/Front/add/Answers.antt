use Rattle.check_flight.proofs.{[], ◌∷◌, ◌++◌, inside_at, flight_view, take-append_seam, contains_mapped, Contains-push, copied}
use Rattle.check_flight.proofs.front.Front.add.Goals as goal

pub returns-then-is_new-clause-kept : goal.returns-then-is_new-clause-kept
returns-then-is_new-clause-kept c = rw c.in_ok-push.ensures.items (take-append_seam c.args.self.now.states.items (c.args.state ∷ []))

pub returns-then-is_new-clause-has : goal.returns-then-is_new-clause-has
returns-then-is_new-clause-has c = λ _ runs.
    let before = c.args.self.now.states.items in
    let state = c.args.state in
    rw c.in_ok-push.ensures.items (contains_mapped (flight_view runs) (before ++ state ∷ []) state (Contains-push before state))

pub returns-in-Some-clause-has : goal.returns-in-Some-clause-has
returns-in-Some-clause-has c = λ same runs.
    let self = c.args.self.now in
    let found = c.in-Some.ensures.lookup in
    let items = c.deref.ensures.value in
    inside_at (flight_view runs) self.states.items (rw items at found.3.0) (rw items at found.1)
    (copied runs c.args.state c.in-Some.there.now (c.is_same.ensures same))
