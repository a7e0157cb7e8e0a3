use Rattle.check_judge.proofs.{◌-◌, Some, Ok, length, sym, length-map, all_asked, asked_of, ReadsReport, lines_text, lines_in, CameBy, BeginsWith}
use Rattle.check_judge.proofs.{AreApart, HasLines, YieldsKnown, ring_with_slots, IsCounted}
use Rattle.check_judge.proofs.Plays.{begins_with}
use Rattle.check_judge.proofs.Submissions.{none_ordered, none_read, none_recorded, one_ordered, accepted_goes, accepted_keeps, ordered_done}
use Rattle.check_judge.proofs.Submissions.{ordered_is, same_slots}
use Rattle.check_judge.proofs.submission.play_submission.Goals.{In_ok-front, In-Some, In-Ok, In-Legal}
use Rattle.check_judge.proofs.submission.play_submission.Goals as goal

counted : (c : In_ok-front) → IsCounted c.args.catalogue.now c.args.ring.now (all_asked c.args.requests.now)
counted c = record { kept = c.requires.kept; accepted = c.requires.accepted; few = c.requires.few; short = c.requires.chains }

-- the lines that were read are those of a report
module _ (c : In-Some) where
  found : ReadsReport (length (all_asked c.args.requests.now)) c.args.text.now (Some (lines_in c.in-Some.front.0, c.in-Some.front.1.now))
  found = rw (sym (length-map c.args.requests.now asked_of), c.in-Some.is) at c.in_ok-front.ensures

  begins : BeginsWith c.args.text.now (length c.args.text.now - length c.in-Some.front.1.now) (lines_text (lines_in c.in-Some.front.0))
  begins = begins_with c.in-Some.front.1.now found.printed

-- the completions and closes that they describe
module _ (c : In-Ok) where
  has : HasLines c.args.catalogue.now c.in-Some.front.0 c.in-Ok.recorded
  has = rw c.in-Ok.is at c.in_ok-recorded.ensures.lines

  tells : AreApart c.args.catalogue.now c.args.ring.now.slots
      → YieldsKnown c.args.catalogue.now c.args.ring.now.slots (all_asked c.args.requests.now) c.in-Some.front.0 (Ok c.in-Ok.recorded)
  tells = rw c.in-Ok.is at c.in_ok-recorded.ensures.only

-- the accesses that lead to them
module _ (c : In-Legal) where
  came : CameBy (ring_with_slots c.args.catalogue.now c.args.ring.now) (all_asked c.args.requests.now) c.in-Ok.recorded c.in-Legal.accesses.items
      (ring_with_slots c.args.catalogue.now c.judge_submission.new.ring)
  came = rw c.in-Legal.is at c.in_ok-accesses.ensures.verdict

pub order_of-requires : goal.order_of-requires
order_of-requires c =
    let s = counted (goal.at.order_of-requires c).In_ok-front in
    let new = c.judge_submission.new.ring in
    let by = came (goal.at.order_of-requires c).In-Legal in
    record {
      accepted = c.requires.accepted;
      few_slots = same_slots s new c.in-Ok.recorded by;
      chains = (ordered_is s new c.in-Ok.recorded by).chains;
      done = ordered_done s new c.in-Ok.recorded by;
    }

pub returns-in-Legal-clause-kept : goal.returns-in-Legal-clause-kept
returns-in-Legal-clause-kept c =
    accepted_keeps (counted (goal.at.returns-in-Legal-clause-kept c).In_ok-front) c.judge_submission.new.ring c.in-Ok.recorded
    (came (goal.at.returns-in-Legal-clause-kept c).In-Legal) c.in_ok-accesses.ensures.ring

pub returns-in-Legal-clause-answer : goal.returns-in-Legal-clause-answer
returns-in-Legal-clause-answer c =
    let s = counted (goal.at.returns-in-Legal-clause-answer c).In_ok-front in
    let f = (goal.at.returns-in-Legal-clause-answer c).In-Some in
    let o = (goal.at.returns-in-Legal-clause-answer c).In-Ok in
    let by = came (goal.at.returns-in-Legal-clause-answer c).In-Legal in
    let made = c.in_ok-order-in-Legal.ensures.accesses in
    let goes = accepted_goes s c.judge_submission.new.ring c.in-Ok.recorded c.in_ok-order-in-Legal.order c.in-Some.front.0 (rw made by)
    c.in_ok-order-in-Legal.ensures.submission (rw (sym made) at c.in_ok-order-in-Legal.ensures.places) (has o) (begins f) in (
      goes.0,
      goes.1,
      one_ordered s c.args.text.now c.in-Some.front.0 c.in-Some.front.1.now (found f) c.in-Ok.recorded (has o) (tells o) (begins f) (λ room. (by room).0),
    )

pub returns-in_default-clause-answer : goal.returns-in_default-clause-answer
returns-in_default-clause-answer c =
    none_read (counted (goal.at.returns-in_default-clause-answer c).In_ok-front) c.args.text.now
    (rw (sym (length-map c.args.requests.now asked_of), c.in_default.is) at c.in_ok-front.ensures)

pub returns-in-Err-clause-answer : goal.returns-in-Err-clause-answer
returns-in-Err-clause-answer c =
    none_recorded (counted (goal.at.returns-in-Err-clause-answer c).In_ok-front) c.args.text.now c.in-Some.front.0 c.in-Some.front.1.now
    (found (goal.at.returns-in-Err-clause-answer c).In-Some) c.in-Err.fault (rw c.in-Err.is at c.in_ok-recorded.ensures.only)

pub returns-in-NotLegal-clause-answer : goal.returns-in-NotLegal-clause-answer
returns-in-NotLegal-clause-answer c =
    let o = (goal.at.returns-in-NotLegal-clause-answer c).In-Ok in
    none_ordered (counted (goal.at.returns-in-NotLegal-clause-answer c).In_ok-front) c.args.text.now c.in-Some.front.0 c.in-Some.front.1.now
    (found (goal.at.returns-in-NotLegal-clause-answer c).In-Some) c.in-Ok.recorded (has o) (tells o)
    (rw c.in-NotLegal.is at c.in_ok-accesses.ensures.verdict).1
