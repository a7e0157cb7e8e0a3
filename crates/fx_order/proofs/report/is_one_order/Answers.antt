use Rattle.fx_order.proofs.{◌≡◌, ℕ, ◌+◌, refl, sym, subst, ap, ◌∙◌, arith, all_completed, all_asked, ring_of_slots, Reported, IsOrderOf}
use Rattle.fx_order.proofs.{ring_with_slots}
use Rattle.fx_order.proofs.report.is_one_order.Goals as goal

pub returns-clause-order : goal.returns-clause-order
returns-clause-order c = (
  λ _. let ring = ring_with_slots c.args.catalogue.now c.args.ring.now in
      let room = c.args.report.now.closes.room in
      let number : c.args.report.now.submission ≡ c.args.ring.now.submissions + 1 = omega arith in
      subst (λ (r : Reported). IsOrderOf c.args.order.now ring (all_asked c.args.requests.now) r) (λ i. record {
        submission = sym number i;
        completions = all_completed (c.deref.ensures.value i);
        closes = record { files = c.files.ensures i; room = room };
      }) ((rw c.in-Some.is at c.in_ok-left.ensures.order).0 refl c.args.ring.now.registrations room),
  λ _. refl,
)

pub returns-clause-left : goal.returns-clause-left
returns-clause-left c = λ _.
    let number : c.args.report.now.submission ≡ c.args.ring.now.submissions + 1 = omega arith in
    ap (λ (n : ℕ). ring_of_slots c.args.catalogue.now c.in-Some.left n c.args.ring.now.registrations) number
    ∙ (rw c.in-Some.is at c.in_ok-left.ensures.left) c.args.ring.now.registrations
