use Rattle.check_judge.proofs.{◌≡◌, ◌+◌, ◌∷◌, length, length-drop, drop, sym, append-nil, ◌++◌, arith, option_to_list, length-map, refl}
use Rattle.check_judge.proofs.{instruction_of, instructions_of, ring_with_slots, shown, take_rest, IsCommandVerdict}
use Rattle.check_judge.specs.declared.command.CommandVerdict.{CommandVerdict}
use Rattle.check_judge.proofs.Plays.{GoesWith, at_start, ended, goes_on, next_instruction, not_ended, stops}
use Rattle.check_judge.proofs.play.judge_rest.Goals.{in-Some+in_ok-push-in-Printed, in_default, In_ok-count, In_ok-play_end}
use Rattle.check_judge.proofs.play.judge_rest.Goals as goal

pub loop-done-init : goal.loop-done-init
loop-done-init c = record {
  inside = omega arith;
  kept = c.requires;
  so_far = rw c.new-orders.ensures.items
      (at_start (ring_with_slots c.args.catalogue.now c.args.start) (instructions_of c.args.commands.now) c.args.text.now);
}

-- the next command was answered
module _ (c : In_ok-count) where
  next : drop c.loop-done.done (instructions_of c.args.commands.now)
      ≡ instruction_of c.index-commands-done.result ∷ drop (c.loop-done.done + 1) (instructions_of c.args.commands.now)
  next = next_instruction c.args.commands.now refl c.loop-done-test.true c.index-commands-done.is

  answered : {a : CommandVerdict} → c.in_ok-count.field-0 ≡ a
      → IsCommandVerdict c.args.catalogue.now c.loop-done.ring (instruction_of c.index-commands-done.result) (drop c.loop-done.at c.args.text.now) a
      c.play_command.new.ring
  answered is = rw (take_rest c.args.text.now c.loop-done.at, is) at c.in_ok-count.ensures.answer

pub loop-done-preserved : goal.loop-done-preserved
loop-done-preserved c =
    let a = (goal.at.loop-done-preserved c).In_ok-count in
    let orders = c.loop-done.orders.items in
    let grown : c.match-order.orders.items ≡ orders ++ option_to_list c.in-Printed.order = elim c.match-order.branch [
      | in-Some+in_ok-push-in-Printed w ↦ rw (w.orders-is, w.in-Some.is) w.in_ok-push-in-Printed.ensures.items
      | in_default w ↦ rw (w.orders-is, w.in_default.is, append-nil)
    ] in
    let answer = answered a c.in-Printed.is in
    record {
      inside =
          let front = answer.0 in
          let before = c.loop-done.invariant.inside in
          let size = length-drop c.loop-done.at c.args.text.now in omega arith;
      kept = c.in_ok-count.ensures.kept;
      so_far = goes_on c.loop-done.invariant.so_far (next a) c.in-Printed.count c.in-Printed.order answer.1 answer.2 grown;
    }

pub returns-in-Broken : goal.returns-in-Broken
returns-in-Broken c =
    let a = (goal.at.returns-in-Broken c).In_ok-count in
    rw c.broken.ensures (stops c.loop-done.invariant.so_far (next a) _ c.in-Broken.fault c.loop-done.invariant.inside (answered a c.in-Broken.is))

-- all commands were
module _ (c : In_ok-play_end) where
  as_many : length c.args.commands.now ≡ length (instructions_of c.args.commands.now)
  as_many = sym (length-map c.args.commands.now instruction_of)

  all_done : GoesWith (ring_with_slots c.args.catalogue.now c.args.start) (instructions_of c.args.commands.now) c.args.text.now
      (length c.args.commands.now) c.loop-done.at c.loop-done.orders.items (ring_with_slots c.args.catalogue.now c.loop-done.ring)
  all_done =
      let past = c.loop-done-test.false in
      let below = c.loop-done.auto.done-end in
      let all : c.loop-done.done ≡ length c.args.commands.now = omega arith in
      rw all at c.loop-done.invariant.so_far

pub returns-in-Some-2 : goal.returns-in-Some-2
returns-in-Some-2 c =
    let e = (goal.at.returns-in-Some-2 c).In_ok-play_end in
    let never = rw c.in-Some-2.is at c.in_ok-play_end.ensures.only in
    rw c.broken-in-Some-2.ensures (not_ended (all_done e) (as_many e) _ _ c.loop-done.invariant.inside
    (λ end. never (rw (take_rest c.args.text.now c.loop-done.at) end)))

pub returns-in-None : goal.returns-in-None
returns-in-None c =
    let e = (goal.at.returns-in-None c).In_ok-play_end in
    let end = rw c.in-None.is at c.in_ok-play_end.ensures.end in (
      shown c.args.catalogue.now c.args.start,
      ended (all_done e) (as_many e) (rw (take_rest c.args.text.now c.loop-done.at) at end),
    )
