use Rattle.check_texts.proofs.{Instruction, KeptWays, List, All, ◌∷◌, AreExits, IsRest}
use Rattle.check_texts.proofs.rests.rests_before.Given as goal

abbrev pub invariant-loop-own : goal.invariant-loop-own
invariant-loop-own l = (command : Instruction) (commands : List Instruction) (behind : List (List KeptWays))
    → All (AreExits l.setting.catalogue.now command) l.exits → All (IsRest l.setting.catalogue.now commands behind) l.later
    → All (IsRest l.setting.catalogue.now (command ∷ commands) (l.later ∷ behind)) l.rests.items
