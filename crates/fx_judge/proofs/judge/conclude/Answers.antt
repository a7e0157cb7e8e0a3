use Rattle.fx_judge.proofs.{arith, refl}
use Rattle.fx_judge.proofs.judge.conclude.Goals as goal

pub returns-in-NotLegal : goal.returns-in-NotLegal
returns-in-NotLegal c = λ script meaning read judged. record {
  known = omega arith;
  legal = λ so. absurd (omega (arith, so));
  not_legal = λ _. record {
    meaning = meaning;
    read = read;
    broken = c.in-NotLegal.broken;
    breaks = rw c.in-NotLegal.is at judged;
    its_commands = refl;
    its_place = refl;
  };
  bad_script = λ so. absurd (omega (arith, so));
}
