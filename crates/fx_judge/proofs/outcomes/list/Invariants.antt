use Rattle.fx_judge.proofs.{◌≡◌, map, string_bytes, take, joined, lengths_in}
use Rattle.fx_judge.proofs.outcomes.list.Given as goal

-- the texts so far are listed
abbrev pub invariant-loop-text : goal.invariant-loop-text
invariant-loop-text l = record {
  bytes : l.listed.bytes.items ≡ joined (map string_bytes (take l.text-index l.texts));
  lengths : l.listed.lengths.items ≡ lengths_in (map string_bytes (take l.text-index l.texts));
}
