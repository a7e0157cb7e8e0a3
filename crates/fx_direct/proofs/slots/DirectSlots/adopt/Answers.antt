use Rattle.fx_direct.proofs.Words.{arith, ◌≤◌, ◌+◌, Bool, refl, sym, subst, ap, ◌∙◌, Some, None, LifeKey, Slot, Live, Ending, is_adoptable}
use Rattle.fx_direct.proofs.Words.{DirectMachine, machine_with, AdoptsFile, unless_live, MOST_LIVES}
use Rattle.fx_direct.proofs.Asking.{adopts}
use Rattle.fx_direct.proofs.slots.DirectSlots.adopt.Goals as goal

pub returns-then-self-clause-adopted : goal.returns-then-self-clause-adopted
returns-then-self-clause-adopted c =
    let range = c.self.inside.order.range in let stopped = c.self.inside.stopped in let k : LifeKey = record { slot = c.args.slot; number = c.in-Some.earlier.number + 1 } in
    let number = ap (λ (s : Slot). s.number + 1) c.in-Some.ensures.1 in let may = sym (ap (λ (s : Slot). is_adoptable s.phase) c.in-Some.ensures.1) ∙ sym c.may_be_adopted.ensures ∙ c.if-not-may_be_adopted.false in
    let most : k.number ≤ MOST_LIVES = let n = c.if-earlier-ge-MOST_LIVES.false in omega arith in (
      refl,
      subst (λ (m : DirectMachine). AdoptsFile m k (Some c.ask.result) (machine_with c.ask.new.list range stopped)) c.self.view_is
          (adopts range c.self.inside.list k stopped (Ending 0 0) (Some c.ask.result) c.ask.new.list c.in-Some.ensures.0 number most may
          (ap (λ (b : Bool). unless_live b (Live 0 0)) c.if-self.true) (c.ask.ensures.slot, refl, c.ask.ensures.list)),
    )

pub returns-clause-adopted : goal.returns-clause-adopted
returns-clause-adopted c =
    let range = c.self.inside.order.range in let stopped = c.self.inside.stopped in let k : LifeKey = record { slot = c.args.slot; number = c.in-Some.earlier.number + 1 } in
    let number = ap (λ (s : Slot). s.number + 1) c.in-Some.ensures.1 in let may = sym (ap (λ (s : Slot). is_adoptable s.phase) c.in-Some.ensures.1) ∙ sym c.may_be_adopted.ensures ∙ c.if-not-may_be_adopted.false in
    let most : k.number ≤ MOST_LIVES = let n = c.if-earlier-ge-MOST_LIVES.false in omega arith in
    grind (arith, adopts range c.self.inside.list k stopped (Live 0 0) None c.set.new.self c.in-Some.ensures.0 number most may, c.set.ensures)
