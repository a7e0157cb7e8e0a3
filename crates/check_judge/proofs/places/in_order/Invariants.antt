use Rattle.check_judge.proofs.{◌≡◌, ◌+◌, ◌<◌, ℕ, Some, length, map, slice_get, slice_index_or, take, Vec, places_of_chain, AccessPlace, count_of}
use Rattle.check_judge.proofs.places.in_order.Given as goal

abbrev pub invariant-loop-x : goal.invariant-loop-x
invariant-loop-x l = record {
  size : length l.next.items ≡ length l.lists;
  counts : (k : ℕ) → k < length l.lists → slice_index_or l.next.items k 0 ≡ count_of (k + 1) (take l.x-index l.order);
  chains : map (λ p. p.chain) l.places.items ≡ map (λ x. x.chain) (take l.x-index l.order);
  listed : (k : ℕ) (list : Vec AccessPlace) → slice_get l.lists k ≡ Some list
      → places_of_chain (k + 1) l.places.items ≡ take (count_of (k + 1) (take l.x-index l.order)) list.items;
}
