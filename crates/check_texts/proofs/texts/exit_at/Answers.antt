use Rattle.check_texts.proofs.{length, refl, slice_get_read}
use Rattle.check_texts.proofs.texts.exit_at.Goals as goal

pub returns-clause-there : goal.returns-clause-there
returns-clause-there c =
    let rest = c.in_ok-rest.ensures.lookup in
    let exit = c.in_ok-exit.ensures.lookup in
    let own = slice_get_read c.deref-2.result.now (length c.deref-2.result.now) c.in_ok-place.place c.in_ok-exit.exit.now refl exit.3.0 exit.1 in (
      c.in_ok-rest.rest.now,
      c.in_ok-place.place,
      slice_get_read c.args.rests.now (length c.args.rests.now) c.args.number c.in_ok-rest.rest.now refl rest.3.0 rest.1,
      rw c.deref-2.ensures.value at own,
    )
