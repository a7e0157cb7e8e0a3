use Rattle.check_flight.proofs.{false≢true, slice_index_or, sym, ◌∙◌, happening_of, take-map, Contains-get_or, Identity}
use Rattle.fx_base.specs.declared.mark.Mark.TheVariants.{Registered}
use Rattle.check_flight.proofs.passage.is_one_unclosed.Goals as goal

abbrev no_file : Identity
no_file = record { mark = Registered 0 0; entry = 0; tag = 0 }

pub returns-then-not-was_closed : goal.returns-then-not-was_closed
returns-then-not-was_closed c = λ _.
    let files = c.args.files.now in
    let i = c.loop-file.file-index in (
      slice_index_or files i no_file,
      Contains-get_or files i no_file c.loop-file-test.true,
      λ inside. false≢true (sym c.if-not-was_closed.true ∙ c.was_closed.ensures.sound (rw (take-map happening_of c.args.at c.args.log.now.events.now) at inside)),
    )
