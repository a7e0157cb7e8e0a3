use Rattle.check_texts.proofs.{List, Some, concat, drop, slice_get, string_bytes, ℕ, ◌++◌, ◌≡◌, AreAllCounted, rests_in, ways_at}
use Rattle.check_texts.proofs.texts.text_at.Given as goal

abbrev pub invariant-loop-own : goal.invariant-loop-own
invariant-loop-own l = record {
  counted : AreAllCounted (rests_in (drop l.own-index l.rests));
  way : (front : List (List ℕ)) × (string_bytes l.text ≡ concat front)
      × ((later : List (List ℕ)) → slice_get (ways_at (rests_in (drop l.own-index l.rests)) l.number) l.left ≡ Some later
      → slice_get (ways_at (rests_in l.rests) 0) l.way ≡ Some (front ++ later));
}
