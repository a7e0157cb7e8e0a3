use Rattle.fx_plain.proofs.Words.{rules, ◌≡◌, ◌<◌, Some, None, length, slot_at, Contents, the_view}
use Rattle.fx_plain.proofs.Cells.{has_file-At}
use Rattle.fx_plain.proofs.Removals.{seen_at}
use Rattle.fx_plain.proofs.table.PlainTable.identity_at.Goals as goal

pub file-requires : goal.file-requires
file-requires c =
    let v : Contents = the_view c.self.inside in let inside : c.args.slot < length v.slots = search rules in
    let at : slot_at v.slots c.args.slot ≡ Some c.in_ok-number.number = seen_at v.slots None inside c.index.ensures c.in_ok-number.was in
    let named = c.self.invariant.0.0.placed c.args.slot c.in_ok-number.number at in
    has_file-At c.self.inside.nodes c.in_ok-number.number named.1
