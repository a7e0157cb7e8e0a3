use Rattle.fx_lasting.proofs.{◌≡◌, ℕ, ◌+◌, ◌*◌, ◌%◌, ◌<◌, ◌≤◌, groups_in, StillPlaces, FailsToFill, group_steps, EachInGroup}
use Rattle.fx_lasting.proofs.table.LastingTable.scan_groups.Given as goal

-- the groups before this one are scanned
abbrev pub invariant-loop : goal.invariant-loop
invariant-loop l = record {
  table : l.seat.table_id ≡ l.initial.seat.table_id;
  group : l.group ≡ (l.initial.group + l.counter * l.step) % l.groups;
  inside : l.group < groups_in l.self.range_len;
  still : (most : ℕ) × (most ≤ l.counter * group_steps l.self.range_len) × StillPlaces l.node l.lost l.file most l.initial.seat.me l.seat.me;
  fails : (i : ℕ) → i < l.counter → EachInGroup l.self.table.shared.key ((l.initial.group + i * l.step) % l.groups)
      (FailsToFill l.self.table.shared.key l.initial.seat.me l.seat.me);
}
