use Rattle.fx_lasting.proofs.{arith, ap, ◌*◌, ℕ, groups_in, group_steps}
use Rattle.fx_lasting.specs.range.Tries.{scan_steps}
use Rattle.fx_lasting.proofs.range_lemmas.Trying.{still_then, still_within, found_then}
use Rattle.fx_lasting.proofs.range_lemmas.Scanning.{fails_last, follows}
use Rattle.fx_lasting.proofs.table.LastingTable.scan.Goals as goal

pub returns-then-self-eq0-clause-fails : goal.returns-then-self-eq0-clause-fails
returns-then-self-eq0-clause-fails c none = λ slot its.
    absurd (omega (arith, its.0, its.1, c.if-self-eq0.true, ap (λ (z : ℕ × ℕ). z.1) c.args.self.now.same_range))

pub returns-clause-found : goal.returns-clause-found
returns-clause-found c = let len = c.args.self.now.range_len in
    found_then _ (groups_in len * group_steps len) (scan_steps len) c.args.file c.scan_groups.result (omega arith) c.in_default.ensures.tries c.scan_groups.ensures.found

pub returns-clause-none : goal.returns-clause-none
returns-clause-none c none = still_within c.args.file (omega arith) (still_then c.args.file c.in_default.ensures.tries (c.scan_groups.ensures.none none))

pub returns-clause-fails : goal.returns-clause-fails
returns-clause-fails c none = λ slot its. (fails_last c.args.self.now.table.shared.key).earlier c.args.seat.now.me c.try_slot.new.seat.me c.scan_groups.new.seat.me slot
    (follows c.in_default.ensures.tries.0) (c.scan_groups.ensures.fails none slot its)
