use Rattle.check_judge.proofs.{IfOk, Instruction, sym, subst, IsCommandVerdict}
use Rattle.check_judge.proofs.play.play_command.Goals as goal

pub returns-in-Some-clause-answer : goal.returns-in-Some-clause-answer
returns-in-Some-clause-answer c =
    subst (λ (i : Instruction). IfOk c.play_submission.result (λ answer. IsCommandVerdict c.args.catalogue.now c.args.ring.now i c.args.text.now answer
    c.play_submission.new.ring)) (sym c.in-Some.ensures.requests) c.play_submission.ensures.answer
