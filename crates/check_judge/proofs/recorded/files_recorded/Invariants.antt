use Rattle.check_judge.proofs.{◌≡◌, All, List, map, take, Closed, named_close_of, named_closes, AreApart, MayBeClosed}
use Rattle.check_judge.proofs.recorded.files_recorded.Given as goal

abbrev pub invariant-loop-i : goal.invariant-loop-i
invariant-loop-i l = record {
  recorded : named_closes l.catalogue l.files.items ≡ map named_close_of (take l.i l.lines);
  only : AreApart l.catalogue l.slots → (others : List Closed) → All (MayBeClosed l.catalogue l.slots) others
      → named_closes l.catalogue others ≡ map named_close_of l.lines → l.files.items ≡ take l.i others;
}
