use Rattle.fx_lasting.proofs.{arith, ap, ℕ, ◌*◌, true, SeesFile, groups_in, group_steps}
use Rattle.fx_lasting.proofs.range_lemmas.Scanning.{follows, full_lasts}
use Rattle.fx_lasting.proofs.range_lemmas.GapSearches.{looks_then, looks_within}
use Rattle.fx_lasting.proofs.table.LastingTable.look_for.Goals as goal

pub returns-clause-looks : goal.returns-clause-looks
returns-clause-looks c =
    let k = c.args.self.now.table.shared.key in
    let len = c.args.self.now.range_len in
    let saw : SeesFile k c.first_slot-first.result c.args.seat.now.me true c.sees_file.new.seat.me = rw c.if-not-sees_file.false at c.sees_file.ensures.saw in
    looks_within k c.args.seat.now.me c.look_in_groups.new.seat.me c.look_in_groups.result (omega arith)
    (looks_then k c.args.seat.now.me c.sees_file.new.seat.me c.look_in_groups.new.seat.me (groups_in len * group_steps len) c.look_in_groups.result saw.1
    c.look_in_groups.ensures.looks)

pub returns-then-self-eq0-clause-full : goal.returns-then-self-eq0-clause-full
returns-then-self-eq0-clause-full c none = λ slot its.
    absurd (omega (arith, its.0, its.1, c.if-self-eq0.true, ap (λ (z : ℕ × ℕ). z.1) c.args.self.now.same_range))

pub returns-clause-full : goal.returns-clause-full
returns-clause-full c none =
    let k = c.args.self.now.table.shared.key in
    let saw : SeesFile k c.first_slot-first.result c.args.seat.now.me true c.sees_file.new.seat.me = rw c.if-not-sees_file.false at c.sees_file.ensures.saw in
    λ slot its. (full_lasts k).earlier c.args.seat.now.me c.sees_file.new.seat.me c.look_in_groups.new.seat.me slot (follows saw.1)
    (c.look_in_groups.ensures.full none slot its)
