use Rattle.check_lines.proofs.{instruction_of, IsNoSubmission, ◌≡◌, ◌<◌, ◌^◌, ◌∙◌, ap, sym, pos, to_z, w64, arith, length, string_bytes, ℤ, ints}
use Rattle.check_lines.proofs.{ring_with_slots, result_line, rules, RingState, None, Some, AreOf, all_closed, closed_files}
use Rattle.check_lines.proofs.Calls.{few_told, copy_in_range, still, accepted_line}
use Rattle.check_lines.proofs.call_answer.call.Goals.{After-deref-2}
use Rattle.check_lines.proofs.call_answer.call.Goals as goal

pub returns-in-Submit-clause-value : goal.returns-in-Submit-clause-value
returns-in-Submit-clause-value c = rw c.in-Submit.is (c.in_ok-ring.ensures.same c.args.catalogue.now)

pub returns-in-Submit-clause-in_range : goal.returns-in-Submit-clause-in_range
returns-in-Submit-clause-in_range c = copy_in_range c.in_ok-ring.ring c.args.ring.now c.in_ok-ring.ensures.same

pub returns-in-Some-clause-value : goal.returns-in-Some-clause-value
returns-in-Some-clause-value c =
    still (λ (r : RingState). ring_with_slots c.args.catalogue.now c.in_ok-ring-2.ring ≡ r) (instruction_of c.args.command.now)
    (c.in_ok-ring-2.ensures.same c.args.catalogue.now)
    (λ none. absurd (let e : None ≡ Some c.in-Some.errno = sym none ∙ (sym c.head_of-refusal.ensures.refusal ∙ c.in-Some.is) in cc))

pub returns-in-Some-clause-in_range : goal.returns-in-Some-clause-in_range
returns-in-Some-clause-in_range c = copy_in_range c.in_ok-ring-2.ring c.args.ring.now c.in_ok-ring-2.ensures.same

-- the files that the call closes are of the catalogue, and few
files : (c : After-deref-2) → AreOf c.args.catalogue.now c.deref-2.result.now × (length c.deref-2.result.now < 2 ^ 32)
files c =
    closed_files c.args.catalogue.now c.args.ring.now (instruction_of c.args.command.now) c.deref-2.result.now
    (c.deref-2.ensures.value ∙ c.in_ok-slots.ensures.closed) c.requires.ring c.requires.few (sym c.head_of-refusal.ensures.refusal ∙ c.in_default-refusal.is)

pub close_in_order-requires-clause-entries : goal.close_in_order-requires-clause-entries
close_in_order-requires-clause-entries c = (files (goal.at.close_in_order-requires-clause-entries c).After-deref-2).0

pub close_in_order-requires-clause-few : goal.close_in_order-requires-clause-few
close_in_order-requires-clause-few c = (files (goal.at.close_in_order-requires-clause-few c).After-deref-2).1

pub with_closes-requires : goal.with_closes-requires
with_closes-requires c =
    all_closed c.args.catalogue.now c.deref-2.result.now c.in_ok-closes.closes (files (goal.at.with_closes-requires c).After-deref-2).0 c.in_ok-closes.ensures

pub returns-clause-line : goal.returns-clause-line
returns-clause-line c =
    let before = ring_with_slots c.args.catalogue.now c.args.ring.now in
    let command = instruction_of c.args.command.now in
    let call : IsNoSubmission command = search rules in
    let none = sym c.head_of-refusal.ensures.refusal ∙ c.in_default-refusal.is in
    let few = few_told before command c.requires.few none in
    let value : to_z w64 c.head_of-refusal.result.2 ≡ pos c.head_of-refusal.result.2 = omega (arith, ints) in
    accepted_line before command c.deref-2.result.now c.in_ok-closes.closes c.as_str.result.now (string_bytes c.in_ok-line-3.line) call none
    (c.deref-2.ensures.value ∙ c.in_ok-slots.ensures.closed) c.in_ok-closes.ensures
    (c.as_str.ensures.value ∙ c.in_ok-first.ensures ∙ ap (λ (z : ℤ). result_line c.head_of-refusal.result.0.now z) value
    ∙ (λ i. result_line (c.head_of-refusal.ensures.word i) (pos (c.head_of-refusal.ensures.res i)))) c.in_ok-line-3.ensures
