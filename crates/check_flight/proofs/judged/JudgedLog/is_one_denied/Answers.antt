use Rattle.check_flight.proofs.{refl, inside_at, completed_of}
use Rattle.check_flight.proofs.judged.JudgedLog.is_one_denied.Goals as goal

pub returns-then-is_denied : goal.returns-then-is_denied
returns-then-is_denied c = λ _. (
  completed_of c.c-item.result,
  inside_at completed_of c.args.answered.now c.loop-c-test.true c.c-item.is refl,
  c.is_denied.ensures c.if-is_denied.true,
)
