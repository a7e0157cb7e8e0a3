use Rattle.fx_lasting.proofs.{refl, ap, ◌∙◌, sym, arith, List, Log, first_log, Covered, same_groups}
use Rattle.fx_lasting.proofs.range_lemmas.QuestionSteps.{decides_keep}
use Rattle.fx_lasting.proofs.table.LastingTable.decide.Goals as goal

pub load-question-requires : goal.load-question-requires
load-question-requires c = let t = c.args.self.now in let at = c.requires.at in (
  c.requires.table,
  omega (arith, t.words),
  decides_keep _ _ _ _ c.args.seat.now.me _ at.pass (omega (arith, at.its_number, c.requires.number))
      (sym (ap (λ (l : List Log). (first_log l).asked) at.pass.1) ∙ (c.requires.asked ∙ ap Covered (same_groups t))) refl,
)
