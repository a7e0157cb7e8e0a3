use Rattle.check_texts.proofs.{completed_of, Said, has_pushed, pushed}
use Rattle.check_texts.proofs.request_answers.push_answer.Goals as goal

pub goes_on-requires : goal.goes_on-requires
goes_on-requires c = rw (c.in_ok-ring.ensures.ring c.args.setting.now.catalogue.now) c.requires.ring

pub returns-clause-grows : goal.returns-clause-grows
returns-clause-grows c =
    let ends = rw (c.in_ok-ring.ensures.ring c.args.setting.now.catalogue.now) at (c.in_ok-goes_on.ensures c.if-not-branch.false) in
    pushed (λ (s : Said). completed_of s.completion) c.args.answers.now.items _ c.in_ok-push.ensures.items (c.in_ok-completion.ensures, ends)

pub returns-clause-there : goal.returns-clause-there
returns-clause-there c held =
    rw c.in_ok-completion.ensures
    at (has_pushed (λ (s : Said). completed_of s.completion) c.args.answers.now.items _ c.in_ok-push.ensures.items)
