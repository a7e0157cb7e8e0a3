use Rattle.check_lines.proofs.{ℕ, ap, Table, ring_with_slots}
use Rattle.check_lines.proofs.Calls.{none_in_range, same_in_range}
use Rattle.check_lines.proofs.call_answer.accepted.Goals as goal

pub returns-in_ok-empty_slots-in-Sparse-clause-in_range : goal.returns-in_ok-empty_slots-in-Sparse-clause-in_range
returns-in_ok-empty_slots-in-Sparse-clause-in_range c =
    λ _. none_in_range c.in_ok-empty_slots-in-Sparse.field-0 c.in_ok-empty_slots-in-Sparse.ensures

pub returns-in_ok-_none-in-Register-clause-in_range : goal.returns-in_ok-_none-in-Register-clause-in_range
returns-in_ok-_none-in-Register-clause-in_range c =
    λ _. c.in_ok-_none-in-Register.ensures.in_range (none_in_range c.in_ok-slots-in-Register.slots c.in_ok-slots-in-Register.ensures)

pub returns-in_ok-slots-in-Range-clause-left : goal.returns-in_ok-slots-in-Range-clause-left
returns-in_ok-slots-in-Range-clause-left c =
    let ring = ring_with_slots c.args.catalogue.now c.args.ring.now in
    let range : ℕ × ℕ = (c.in-Range.off, c.in-Range.len) in
    rw c.in-Range.is (ap (λ (t : Table). record ring { size = t.size; range = range; at = t.at }) c.in_ok-slots-in-Range.ensures)

pub returns-in_ok-slots-in-Range-clause-in_range : goal.returns-in_ok-slots-in-Range-clause-in_range
returns-in_ok-slots-in-Range-clause-in_range c =
    same_in_range c.in_ok-slots-in-Range.slots c.args.ring.now.slots c.in_ok-slots-in-Range.ensures

pub returns-in_ok-closed-in-Update-clause-in_range : goal.returns-in_ok-closed-in-Update-clause-in_range
returns-in_ok-closed-in-Update-clause-in_range c = λ fits.
    c.in_ok-closed-in-Update.ensures.in_range (same_in_range c.in_ok-slots-in-Update.slots c.args.ring.now.slots c.in_ok-slots-in-Update.ensures fits)

pub returns-in_ok-copy-in-Submit-clause-in_range : goal.returns-in_ok-copy-in-Submit-clause-in_range
returns-in_ok-copy-in-Submit-clause-in_range c =
    same_in_range c.in_ok-copy-in-Submit.field-0 c.args.ring.now.slots c.in_ok-copy-in-Submit.ensures
