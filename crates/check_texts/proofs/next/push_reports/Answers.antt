use Rattle.check_texts.proofs.{IsPossible, all_asked, stage_of, stage_reported, stages_of, take_all, grows_on, there_more, counted_one, few_left}
use Rattle.check_texts.proofs.{possible_may_lead, reports_are_all}
use Rattle.check_texts.proofs.next.push_reports.Goals.{After-possible-item}
use Rattle.check_texts.proofs.next.push_reports.Goals as goal

is_possible : (c : After-possible-item)
    → IsPossible (stage_of c.args.setting.now.catalogue.now c.args.from.now).ring (all_asked c.args.requests.now) c.possible-item.result
is_possible c = rw (c.possible-item.is, c.deref-possible-items.ensures.value)
    (c.in_ok-found.ensures.each c.args.from.now.ring.registrations _ _ (rw c.deref-possible-items.ensures.value at c.loop-possible-test.true))

pub push_report-requires-clause-room : goal.push_report-requires-clause-room
push_report-requires-clause-room c =
    few_left (is_possible (goal.at.push_report-requires-clause-room c).After-possible-item).by c.args.from.now.few_slots

pub push_report-requires-clause-entries : goal.push_report-requires-clause-entries
push_report-requires-clause-entries c = (is_possible (goal.at.push_report-requires-clause-entries c).After-possible-item).entries

pub loop-possible-preserved : goal.loop-possible-preserved
loop-possible-preserved c =
    let keeps = c.args.setting.now.keeps in
    let old = stage_of c.args.setting.now.catalogue.now c.args.from.now in
    let is = is_possible (goal.at.loop-possible-preserved c).After-possible-item in
    let one = c.in_ok-push_report.ensures.grows in
    record {
      grows = grows_on (λ s same. rw same (possible_may_lead keeps old (all_asked c.args.requests.now) c.requires.faultless c.requires.few is))
          c.loop-possible.invariant.grows one;
      there = there_more (stage_reported keeps old) c.deref-possible-items.result.now c.loop-possible-test.true c.possible-item.is one
          c.loop-possible.invariant.there c.in_ok-push_report.ensures.there;
    }

pub returns : goal.returns
returns c = record {
  grows = c.loop-possible.invariant.grows;
  all = λ all.
      let old = stage_of c.args.setting.now.catalogue.now c.args.from.now in
      let number = c.args.from.now.ring.registrations in
      reports_are_all c.args.setting.now.keeps old c.deref-possible-items.result.now
      (stages_of c.args.setting.now.catalogue.now c.loop-possible.rings.items) c.requires.ring c.requires.accepted
      (rw c.deref-possible-items.ensures.value (c.in_ok-found.ensures.each number))
      (rw (take_all c.loop-possible.possible-index c.deref-possible-items.result.now c.loop-possible-test.false) at c.loop-possible.invariant.there)
      (counted_one (all_asked c.args.requests.now) c.requires.faultless c.requires.few)
      (rw c.deref-possible-items.ensures.value (c.in_ok-found.ensures.ends all number))
      (λ keeps. rw c.deref-possible-items.ensures.value (c.in_ok-found.ensures.all all keeps number));
}
