use Rattle.check_texts.proofs.{FileEntry, Instruction, KeptWays, List, map, ring_with_slots, stages_of, string_bytes, take, ◌≡◌, ◌∷◌, All, IsTrue}
use Rattle.check_texts.proofs.{AreExits, AreWaysBy, IsRest}
use Rattle.check_texts.proofs.rests.rest_before.Given as goal

abbrev pub invariant-loop-i : goal.invariant-loop-i
invariant-loop-i l = record {
  ring : (catalogue : List FileEntry) → ring_with_slots catalogue l.rest.ring ≡ ring_with_slots catalogue l.exits.ring;
  all : IsTrue l.rest.are_all → IsTrue l.exits.are_all;
  ways : (command : Instruction) (commands : List Instruction) (behind : List (List KeptWays)) → AreExits l.setting.catalogue.now command l.exits
      → All (IsRest l.setting.catalogue.now commands behind) l.later
      → AreWaysBy l.setting.catalogue.now command commands (l.later ∷ behind) (stages_of l.setting.catalogue.now (take l.i l.to))
      (map string_bytes l.lines.keys) l.rest;
}
