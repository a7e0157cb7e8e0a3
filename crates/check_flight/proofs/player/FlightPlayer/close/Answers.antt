use Rattle.check_flight.proofs.{◌∙◌, false≢true, sym, marked_more, moves_close}
use Rattle.check_flight.proofs.player.FlightPlayer.close.Goals as goal

pub returns : goal.returns
returns c = λ _ log plans read rests old ring so_far.
    let self = c.args.self.now in
    let next = record self { removed = c.remove_file.new.files; closed = c.insert_full.new.self } in
    moves_close old log plans ring self next c.args.file (rw c.deref.ensures.value at (c.has_file.ensures c.if-not-has_file.false))
    (λ hold inside same. false≢true (sym c.if-is_held.false ∙ c.is_held.ensures hold (rw c.deref-else-not-has_file.ensures.value inside) same))
    c.remove_file.ensures.others c.remove_file.ensures.gone
    (marked_more self.closed c.insert_full.new.self c.args.file (rw c.file_number.ensures at c.in_ok-insert_full.ensures.updates)) rests so_far
