use Rattle.fx_lasting.proofs.{◌≡◌, All, false, length, map, view_of, IsPassOfTable, AllWithin, IsIdle}
use Rattle.fx_lasting.proofs.table.LastingTable.settle_all.Given as goal

-- the passes so far keep no node
abbrev pub invariant-loop-index : goal.invariant-loop-index
invariant-loop-index l = record {
  count : length l.passes.items ≡ length l.initial.passes.items;
  ready : All (λ p. IsPassOfTable l.self p × IsIdle (view_of p)) l.passes.items;
  unkept : AllWithin (λ p. p.keeps ≡ false) l.passes.items 0 l.index;
  same : map view_of l.passes.items ≡ map view_of l.initial.passes.items;
}
