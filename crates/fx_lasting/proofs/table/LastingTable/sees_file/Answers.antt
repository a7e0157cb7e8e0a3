use Rattle.fx_lasting.proofs.{ap, ◌∙◌, slot_of, slot_back}
use Rattle.fx_lasting.proofs.slot_lemmas.Seeing.{may_see}
use Rattle.fx_lasting.proofs.slot_lemmas.EmptySlots.{sees_so}
use Rattle.fx_lasting.proofs.table.LastingTable.sees_file.Goals as goal

pub load-word-requires : goal.load-word-requires
load-word-requires c = may_see c.args.self.now c.args.seat.now c.requires.table c.requires.at.1 c.requires.slot c.slot_place.ensures

pub returns : goal.returns
returns c = record {
  table = c.load-word.ensures.0;
  places = c.load-word.ensures.2.goes.carried;
  saw = rw c.is_some.ensures (sees_so c.requires.at.1.pass.0 (ap slot_of c.slot_place.ensures ∙ slot_back c.args.slot) c.load-word.ensures.2
      c.file_node_of.result c.file_node_of.ensures);
}
