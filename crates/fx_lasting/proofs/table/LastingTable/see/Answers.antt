use Rattle.fx_lasting.proofs.{ap, ◌∙◌, slot_of, slot_back}
use Rattle.fx_lasting.proofs.slot_lemmas.ByNode.{saw_if}
use Rattle.fx_lasting.proofs.slot_lemmas.Seeing.{may_see}
use Rattle.fx_lasting.proofs.table.LastingTable.see.Goals as goal

pub load-word-requires : goal.load-word-requires
load-word-requires c = may_see c.args.self.now c.args.seat.now c.requires.table c.requires.at.1 c.requires.slot c.slot_place.ensures

pub returns : goal.returns
returns c =
    let saw = c.load-word.ensures.2 in
    record {
      table = c.load-word.ensures.0;
      places = saw.goes.carried;
      saw = saw_if c.args.node c.requires.at.1.pass.0 (ap slot_of c.slot_place.ensures ∙ slot_back c.args.slot) saw c.named_by.result c.named_by.ensures;
    }
