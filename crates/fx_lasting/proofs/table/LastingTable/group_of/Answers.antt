use Rattle.fx_lasting.proofs.{arith, range_at_start, ◌^◌, same_groups, is_group, group_by}
use Rattle.fx_lasting.proofs.table.LastingTable.group_of.Goals as goal

pub returns : goal.returns
returns c = let t = c.args.self.now in let range = range_at_start t.table.shared.key in
    let is = group_by range c.args.slot t.range_start t.range_len (2 ^ t.group_bits) t.same_range t.groups.0 in
    record { group = is; few = omega (arith, is, same_groups t, is_group range c.args.slot c.requires.0 c.requires.1) }
