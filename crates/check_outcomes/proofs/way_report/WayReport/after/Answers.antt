use Rattle.check_outcomes.proofs.{◌≡◌, ◌∙◌, ◌++◌, ◌<◌, all_completed, answers_of, ap, arith, length, length-map, refl, sym, set_answers}
use Rattle.check_outcomes.proofs.way_report.WayReport.after.Goals as goal

pub returns : goal.returns
returns c =
    let before = c.args.self.now.answers.items in
    let all = c.push_lists.new.all.items in
    let lists : answers_of all ≡ answers_of before =
    c.in_ok-push_lists.ensures ∙ (λ j. answers_of (c.in_ok-answers.ensures.items j) ++ answers_of (c.deref-2.ensures.value j)) in
    let many : length all ≡ length before =
    sym (length-map all (λ own. all_completed own.items)) ∙ ap length lists ∙ length-map before (λ own. all_completed own.items) in
    let within : c.args.i < length all = omega (arith, many, c.requires) in
    record {
      there = c.requires;
      answers = rw lists at (set_answers all all c.push_copies.new.all (all_completed c.args.own.now) refl within c.index_mut.ensures.value
          c.in_ok-push_copies.ensures);
      removed = rw c.deref.ensures.value at c.in_ok-removed.ensures;
    }
