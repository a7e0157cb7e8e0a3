use Rattle.fx_judge.proofs.judge.judge_text.Goals as goal

pub returns : goal.returns
returns c = c.conclude.ensures _ _ c.in-Ok.ensures.script c.in-Ok-judge.ensures
