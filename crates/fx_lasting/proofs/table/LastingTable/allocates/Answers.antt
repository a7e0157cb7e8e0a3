use Rattle.fx_lasting.proofs.{◌∙◌, sym, range_at_start, in_range_so, was_in}
use Rattle.fx_lasting.proofs.table.LastingTable.allocates.Goals as goal

pub returns : goal.returns
returns c =
    let range = range_at_start c.args.self.now.table.shared.key in
    record {
      inside = λ is. was_in range c.args.slot (sym c.is_in_range.ensures ∙ is);
      outside = λ is inside. let bad = sym (in_range_so range c.args.slot inside.0 inside.1) ∙ (sym c.is_in_range.ensures ∙ is) in cc bad;
    }
