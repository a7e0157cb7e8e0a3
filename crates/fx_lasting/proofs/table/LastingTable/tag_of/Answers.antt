use Rattle.fx_lasting.proofs.{tag_inside, tag_word, holds_on, held_inside}
use Rattle.fx_lasting.proofs.node_lemmas.Labelling.{reads_tag_keep}
use Rattle.fx_lasting.proofs.table.LastingTable.tag_of.Goals as goal

pub load-requires : goal.load-requires
load-requires c =
    let holds = holds_on _ c.requires.held.1 in (
      c.requires.fits.seated.table,
      tag_inside c.args.self.now (held_inside c.requires.fits.seated.at holds) c.tag_place-place.ensures,
      reads_tag_keep _ _ _ _ c.args.hold.now.node c.requires.held.0 c.args.pass.now.seat.me _ c.requires.fits.seated.at.pass holds
          (tag_word c.args.self.now c.args.hold.now.node c.tag_place-place.ensures),
    )

pub returns-clause-tag : goal.returns-clause-tag
returns-clause-tag c f holding = c.load.ensures.2.tag f c.args.hold.now.node (holds_on _ holding)
