use Rattle.check_judge.proofs.{◌≡◌, ◌∙◌, List, drop, sym, ap, Instruction, instruction_of, instructions_of, take_rest, drop-map}
use Rattle.check_judge.proofs.play.judge_from.Goals as goal

pub returns-clause-judged : goal.returns-clause-judged
returns-clause-judged c =
    let all = c.commands-commands.result.now in
    let done = c.args.done in
    let rest : instructions_of (drop done all) ≡ drop done c.args.script.now.commands =
    sym (drop-map instruction_of done all) ∙ ap (λ (l : List Instruction). drop done l) c.commands-commands.ensures in
    rw (take_rest all done, rest, c.catalogue-catalogue.ensures.value) at c.in_ok-judgement.ensures
