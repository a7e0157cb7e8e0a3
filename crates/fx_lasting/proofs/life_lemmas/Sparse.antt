-- The words and places of a table that is opened with empty slots.
use Rattle.fx_lasting.proofs.{◌≡◌, ◌+◌, ◌≤◌, ℕ, List, sym, ap, ◌∙◌, arith, length, Option, None, Closed, Start, slots_of, nodes_of, MOST_SLOTS}
use Rattle.fx_lasting.proofs.{AreNamed, OpensWith, words_for, replicate, length-replicate, read_default, slice_index, in_place}

pub same_size : (k : Start) → slots_of k ≡ k.size
same_size k = length-replicate {A = Option ℕ} k.size None

pub opens_with : (k : Start) (n : ℕ) {words words' : List ℕ} → k.size ≤ MOST_SLOTS → k.range_start + k.range_len ≤ k.size → k.passes ≤ 1024 → n ≤ 16777214
    → n ≡ nodes_of k → words ≡ replicate (words_for k.size k.passes n) 0 → AreNamed k.size words words' → OpensWith k words' (replicate n None)
opens_with k n few range passes nodes many are named = let same = same_size k in let count = length-replicate {A = ℕ} (words_for k.size k.passes n) 0 in record {
  slots = omega (arith, same, few);
  range = omega (arith, same, range);
  passes = passes;
  nodes = omega (arith, many, nodes);
  words_length = named.count ∙ (ap (length {A = ℕ}) are ∙ (count ∙ λ i. words_for (sym same i) k.passes (many i)));
  homes_length = length-replicate {A = Option Closed} n None ∙ many;
  named = λ slot l. named.named slot (omega (arith, same, l));
  others = λ place apart. named.others place (λ slot l. apart slot (omega (arith, same, l)))
      ∙ (ap (λ (l : List ℕ). slice_index l place) are ∙ read_default (words_for k.size k.passes n) place 0);
  vacant = λ m l. in_place (replicate n None) m (omega (arith, l, many, length-replicate {A = Option Closed} n None)) (read_default n m None);
}
