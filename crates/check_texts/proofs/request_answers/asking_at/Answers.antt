use Rattle.check_texts.proofs.{all_asked, instruction_of, arith, refl, sym, ◌+◌, ◌∙◌, take_rest, call_uncounted, counted_one, around, count_one}
use Rattle.check_texts.proofs.request_answers.asking_at.Goals as goal

pub loop-i-preserved-in_default : goal.loop-i-preserved-in_default
loop-i-preserved-in_default c = record {
  count = sym (call_uncounted (instruction_of c.index-commands-i.result) c.in_default.ensures.none)
      ∙ count_one c.args.commands.now c.loop-i-test.true c.index-commands-i.is c.loop-i.invariant.count;
  few = c.loop-i.invariant.few;
}

pub loop-i-preserved : goal.loop-i-preserved
loop-i-preserved c =
    let counted = counted_one (all_asked c.in-Some.requests.now) c.in-Some.ensures.faultless c.in-Some.ensures.few in
    record {
      count = rw (c.in-Some.ensures.requests, counted)
          at (count_one c.args.commands.now c.loop-i-test.true c.index-commands-i.is c.loop-i.invariant.count);
      few = omega arith;
    }

pub returns-then-count-place-clause-some : goal.returns-then-count-place-clause-some
returns-then-count-place-clause-some c =
    let commands = c.args.commands.now in
    record {
      place_same = refl;
      split = rw (around commands c.loop-i-test.true c.index-commands-i.is, c.in-Some.ensures.requests, take_rest commands (c.loop-i.i + 1));
      number = rw c.loop-i.invariant.count at (sym c.if-count-place.true);
      counted = rw c.loop-i.invariant.count at
          (counted_one (all_asked c.in-Some.requests.now) c.in-Some.ensures.faultless c.in-Some.ensures.few ∙ c.if-count-place.true);
    }
