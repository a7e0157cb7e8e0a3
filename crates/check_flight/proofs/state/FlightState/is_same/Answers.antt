use Rattle.check_flight.proofs.{◌≡◌, ◌∙◌, sym, refl, slice_eq-Decides, file_Decides, rules, WaitingLook, not-false}
use Rattle.check_outcomes.proofs.Viewing.{progress_Decides}
use Rattle.std.specs.Bool.{Decides}
use Rattle.check_flight.specs.contracts.state.WaitingLookPartialEq.TheImpl.{eq-value as eq-of-look}
use Rattle.check_flight.proofs.state.FlightState.is_same.Goals as goal

waiting_Decides : (a b : WaitingLook) → Decides (eq-of-look.it a b) (a ≡ b)
waiting_Decides a b = search rules

pub returns-then-self-other : goal.returns-then-self-other
returns-then-self-other c = λ same. record {
  table = search rules;
  base = search rules;
  chains = (slice_eq-Decides progress_Decides _ _ _ refl).0 (not-false _ (sym c.ne.ensures ∙ c.if-ne.false));
  removed = (slice_eq-Decides file_Decides _ _ _ c.eq.ensures).0 same;
  waiting = (slice_eq-Decides waiting_Decides _ _ _ refl).0 (not-false _ (sym c.ne-2.ensures ∙ c.if-ne-2.false));
}
