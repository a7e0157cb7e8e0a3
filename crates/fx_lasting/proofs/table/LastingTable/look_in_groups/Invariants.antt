use Rattle.fx_lasting.proofs.{◌≡◌, ℕ, ◌+◌, ◌*◌, ◌%◌, ◌<◌, ◌≤◌, [], groups_in, group_steps, EachInGroup, WasFull}
use Rattle.fx_lasting.specs.Ends.{Does}
use Rattle.fx_lasting.proofs.table.LastingTable.look_in_groups.Given as goal

-- the groups before this one are looked at
abbrev pub invariant-loop : goal.invariant-loop
invariant-loop l = record {
  table : l.seat.table_id ≡ l.initial.seat.table_id;
  places : l.seat.me.1 ≡ l.initial.seat.me.1;
  group : l.group ≡ (l.initial.group + l.counter * l.step) % l.groups;
  inside : l.group < groups_in l.self.range_len;
  still : (most : ℕ) × (most ≤ l.counter * group_steps l.self.range_len) × Does l.initial.seat.me [] l.initial.seat.me.0.work most l.seat.me;
  full : (i : ℕ) → i < l.counter → EachInGroup l.self.table.shared.key ((l.initial.group + i * l.step) % l.groups)
      (WasFull l.self.table.shared.key l.initial.seat.me l.seat.me);
}
