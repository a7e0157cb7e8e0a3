use Rattle.check_judge.proofs.{IfOk-weaker}
use Rattle.check_judge.proofs.Plays.{judged_script}
use Rattle.check_judge.proofs.play.judge.Goals as goal

pub returns : goal.returns
returns c = IfOk-weaker c.judge_rest.result _ _ (judged_script c.args.script.now c.args.text.now)
    (rw (c.new_ring.ensures.ring c.catalogue-catalogue.result.now, c.commands-commands.ensures, c.catalogue-catalogue.ensures.value) at c.judge_rest.ensures)
