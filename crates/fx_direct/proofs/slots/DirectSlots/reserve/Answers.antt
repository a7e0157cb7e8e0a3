use Rattle.fx_direct.proofs.Words.{arith, ◌+◌, ◌<◌, ℕ, length, subst, sym, ◌∙◌, LifeKey, Opening, slot_numbered}
use Rattle.fx_direct.proofs.Keeping.{kept, number_left}
use Rattle.fx_direct.proofs.slots.DirectSlots.reserve.Goals as goal

pub invariant_of-self-2 : goal.invariant_of-self-2
invariant_of-self-2 c =
    let found = c.in-Some.ensures.found in let k : LifeKey = record { slot = c.in-Some.slot; number = c.number.result + 1 } in
    let inside : c.in-Some.slot < length c.self.inside.list = subst (λ (n : ℕ). c.in-Some.slot < n) c.self.invariant.same found.0 in
    let room = number_left (slot_numbered c.self.inside.list c.in-Some.slot) _ (sym (c.self.invariant.ordered c.in-Some.slot inside) ∙ found.1) in
    rw c.begin.ensures (kept c.self.inside.list c.self.inside.order c.self.invariant k inside c.take.new.self Opening (let n = c.number.ensures in omega arith)
    c.in-Some.ensures.same c.in-Some.ensures.range (λ s lt. found.2 s))
