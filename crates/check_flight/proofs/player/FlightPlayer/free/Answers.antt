use Rattle.check_flight.proofs.{◌≡◌, ne_eqb, refl, HeldFile, rules, filter_same, filter, nat_eq, not, in_filter, moves_free}
use Rattle.check_flight.proofs.player.FlightPlayer.free.Goals as goal

pub returns : goal.returns
returns c = λ log plans read rests old ring so_far.
    let self = c.args.self.now in
    let id = c.args.id in
    let others = λ (hold : HeldFile). not (nat_eq hold.id id) in
    let next = record self { holds = c.retain.new.self } in
    let is : next.holds.items ≡ filter others self.holds.items = filter_same _ _ _ (λ x b f' k. search rules) _ _ c.retain.ensures.filtered in
    moves_free old log plans ring self next id (λ hold inside apart. rw is (in_filter others self.holds.items inside (rw (ne_eqb hold.id id apart) refl))) rests so_far
