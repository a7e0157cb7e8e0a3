use Rattle.fx_lasting.proofs.{◌≡◌, ◌≤◌, ◌-◌, ◌+◌, map, vec_capacity, stocks_back, [], dealt, seats, IsPassOf, AreDealt}
use Rattle.fx_lasting.proofs.life_lemmas.Gathered.{shown}
use Rattle.fx_lasting.proofs.table.LastingTable.deal.Given as goal

abbrev pub invariant-loop-number : goal.invariant-loop-number
invariant-loop-number l = record {
  before : AreDealt (IsPassOf l.self.table.shared.table_id l.self.table.shared.key) shown l.number l.self.passes l.list.items;
  table : l.seat.table_id ≡ l.self.table.shared.table_id;
  me : l.seat.me ≡ (dealt seats l.self.table.shared.key l.number, []);
  room : l.self.passes ≤ vec_capacity l.list;
  stocks : map (λ s. s.items) l.stocks.items
      ≡ stocks_back l.self.size l.self.passes l.self.installing l.number ((l.self.passes + 1) - l.number);
}

abbrev pub decreases-loop-number : goal.decreases-loop-number
decreases-loop-number l = l.self.passes - l.number
