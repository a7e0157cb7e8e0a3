use Rattle.fx_direct.proofs.Words.{arith, ◌≡◌, ◌<◌, length, Chained, slot_numbered, unused, get_or_default}
use Rattle.fx_direct.proofs.Sums.{goes_on, one_over, still_counted}
use Rattle.fx_direct.proofs.slot_list.SlotList.advance.Goals as goal

pub overflow_sub-self : goal.overflow_sub-self
overflow_sub-self c =
    let inside : c.args.key.slot < length c.self.inside.slots.items = grind (arith, c.in-Some.ensures, c.self.inside.slots.ok) in
    let here : slot_numbered c.self.inside.slots.items c.args.key.slot ≡ record { number = c.args.key.number; phase = Chained c.in-Chained.chain } =
    grind (arith, c.in-Some.ensures, c.if-slot-key.false, c.in-Chained.is, get_or_default c.self.inside.slots.items c.args.key.slot c.in-Some.slot.now unused inside) in
    grind (arith, one_over, c.advance.ensures.went (grind (arith, c.if-not-advance.false)) c.args.key)

pub invariant_of-self-2 : goal.invariant_of-self-2
invariant_of-self-2 c =
    let inside : c.args.key.slot < length c.self.inside.slots.items = grind (arith, c.in-Some.ensures, c.self.inside.slots.ok) in
    let here : slot_numbered c.self.inside.slots.items c.args.key.slot ≡ record { number = c.args.key.number; phase = Chained c.in-Chained.chain } =
    grind (arith, c.in-Some.ensures, c.if-slot-key.false, c.in-Chained.is, get_or_default c.self.inside.slots.items c.args.key.slot c.in-Some.slot.now unused inside) in
    let number : c.in-Some.slot.now.number ≡ c.args.key.number = grind (arith, c.if-slot-key.false) in
    rw number (still_counted c.self.inside.slots.items c.self.inside.lives c.self.inside.calls c.self.invariant c.args.key c.args.member c.in-Chained.chain c.advance.new.self inside here
    (c.advance.ensures.went (grind (arith, c.if-not-advance.false)) c.args.key))

pub returns-clause-went : goal.returns-clause-went
returns-clause-went c = λ is.
    grind (arith, goes_on, c.in-Some.ensures, c.if-slot-key.false, c.in-Chained.is, c.self.view_is, c.advance.ensures.went (grind (arith, c.if-not-advance.false)) c.args.key)
