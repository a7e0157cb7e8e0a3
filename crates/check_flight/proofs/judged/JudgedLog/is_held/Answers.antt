use Rattle.check_flight.proofs.{false≢true, happening_of, take-map}
use Rattle.check_flight.proofs.judged.JudgedLog.is_held.Goals as goal

pub returns : goal.returns
returns c = λ unfreed.
    let first = take-map happening_of c.args.at c.args.self.now.events.now in (
      c.in-Some.look,
      rw first (c.is_found_at.ensures c.if-not-is_found_at.false),
      λ inside. let freed = c.was_freed.ensures.sound (rw first at inside) in false≢true (rw freed at unfreed),
    )
