use Rattle.fx_server.proofs.{arith, length-map, Box, TableWorker, empty_slots, opened_of}
use Rattle.fx_server.proofs.opening.open.Goals as goal

pub returns-clause-opened : goal.returns-clause-opened
returns-clause-opened c =
    (opened_of _ (empty_slots c.args.slots (0, c.args.slots)) _ _ c.args.slots c.args.workers c.args.installing c.in_ok-list.ensures.dealt
    c.in-Ok.ensures.opened c.in-Ok.ensures.empty c.in-Ok.ensures.count c.in-Ok.ensures.new).0

pub returns-clause-count : goal.returns-clause-count
returns-clause-count c = omega (
  arith,
  length-map c.in_ok-list.list.items (λ (it : Box TableWorker). it.value),
  (opened_of _ (empty_slots c.args.slots (0, c.args.slots)) _ _ c.args.slots c.args.workers c.args.installing c.in_ok-list.ensures.dealt
      c.in-Ok.ensures.opened c.in-Ok.ensures.empty c.in-Ok.ensures.count c.in-Ok.ensures.new).1,
)
