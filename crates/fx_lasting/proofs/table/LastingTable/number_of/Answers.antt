use Rattle.fx_lasting.proofs.{◌≡◌, subst, Start, node_of_number, number_inside, number_word, holds_on, held_inside}
use Rattle.fx_lasting.proofs.node_lemmas.Labelling.{reads_number_keep}
use Rattle.fx_lasting.proofs.table.LastingTable.number_of.Goals as goal

pub load-requires : goal.load-requires
load-requires c =
    let holds = holds_on _ c.requires.held.1 in (
      c.requires.fits.seated.table,
      number_inside c.args.self.now (held_inside c.requires.fits.seated.at holds) c.number_place-place.ensures,
      reads_number_keep _ _ _ _ c.args.hold.now.node c.requires.held.0 c.args.pass.now.seat.me _ c.requires.fits.seated.at.pass holds
          (number_word c.args.self.now c.args.hold.now.node c.number_place-place.ensures),
    )

pub returns-clause-number : goal.returns-clause-number
returns-clause-number c f holding = c.load.ensures.2.number f c.args.hold.now.node (holds_on _ holding)

pub returns-clause-node : goal.returns-clause-node
returns-clause-node c f holding = subst (λ (k : Start). node_of_number k f.number ≡ c.args.hold.now.node) c.requires.fits.seated.at.pass.0
    (c.load.ensures.2.node f c.args.hold.now.node (holds_on _ holding))
