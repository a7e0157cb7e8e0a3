use Rattle.check_texts.proofs.{List, Some, concat, map, slice_get, string_bytes, ℕ, ◌<◌, ◌≡◌, Contains, rests_in, ways_at}
use Rattle.check_texts.proofs.texts.each_text.Given as goal

abbrev pub invariant-loop-way : goal.invariant-loop-way
invariant-loop-way l = record {
  each : (text : List ℕ) → Contains (map string_bytes l.texts.keys) text → Contains (map concat (ways_at (rests_in l.rests) 0)) text;
  all : (k : ℕ) (lines : List (List ℕ)) → k < l.way → slice_get (ways_at (rests_in l.rests) 0) k ≡ Some lines
      → Contains (map string_bytes l.texts.keys) (concat lines);
}
