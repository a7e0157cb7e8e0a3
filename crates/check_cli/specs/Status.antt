-- The exit status of the program: after a verdict, or after a list of answers or of texts.
use Rattle.std.specs.Prelude.{ℕ, if◌then◌else◌}
use Rattle.check_texts.specs.declared.request_answers.RequestAnswers.{RequestAnswers}
use Rattle.check_texts.specs.declared.texts.AllTexts.{AllTexts}
use Rattle.check_judge.specs.declared.judgement.Judgement.{Judgement}
use Rattle.check_judge.specs.declared.judgement.Judgement.TheVariants.{Legal, NotLegal, Undecided}

-- 0 where these are all answers of a request, 6 where there may be more
abbrev pub may_status : RequestAnswers → ℕ
may_status may = if may.are_all then 0 else 6

-- 0 where these are all ways of a script, 6 where there may be more
abbrev pub all_status : AllTexts → ℕ
all_status all = if all.are_counted then 0 else 6

-- 0 where the script may print the text, 1 where it may not, 6 where neither was shown
abbrev pub status : Judgement → ℕ
status (Legal orders) = 0
status (NotLegal broken) = 1
status (Undecided submission doubt) = 6
