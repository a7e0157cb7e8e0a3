use Rattle.check_texts.proofs.{◌∷◌, All-push, IsRest}
use Rattle.check_texts.proofs.rests.rests_before.Goals as goal

pub loop-own-preserved : goal.loop-own-preserved
loop-own-preserved c = λ command commands behind are later.
    rw c.in_ok-push.ensures.items
    (All-push (IsRest c.args.setting.now.catalogue.now (command ∷ commands) (c.args.later.now ∷ behind)) c.loop-own.rests.items _
    (c.loop-own.invariant command commands behind are later)
    (c.in_ok-rest_before.ensures command commands behind (rw c.own-item.is (are _ _ c.loop-own-test.true)) later))
