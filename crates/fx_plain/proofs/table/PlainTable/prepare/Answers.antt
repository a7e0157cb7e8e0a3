use Rattle.fx_plain.proofs.Words.{sym, arith, state_of}
use Rattle.fx_plain.proofs.Prepared.{fields_keep, state_of-fields, own_number, settled_at_opening}
use Rattle.fx_plain.proofs.table.PlainTable.prepare.Goals as goal

pub invariant_of-self-2 : goal.invariant_of-self-2
invariant_of-self-2 c =
    let enough = rw (sym c.self.view_is) at c.requires.numbers in let settled = rw (sym c.self.view_is) at c.requires.settled in
    let filed = c.in_ok-renumber.ensures.ok in (
      fields_keep c.self.invariant.0.0 enough c.ranges.numbers.fits filed c.start_again.ensures c.self.invariant.0.1 settled,
      record {
        inside = omega arith;
        own = λ u n at out. own_number c.self.invariant.0.0 enough c.ranges.numbers.fits filed c.start_again.ensures u at;
      },
    )

pub returns-clause-ok : goal.returns-clause-ok
returns-clause-ok c = grind (arith, state_of-fields)

pub returns-clause-settled : goal.returns-clause-settled
returns-clause-settled c = settled_at_opening (state_of c.args.self.now) _ c.args.numbers (returns-clause-ok c)

pub returns-clause-sound : goal.returns-clause-sound
returns-clause-sound c = (invariant_of-self-2 c).0.0
