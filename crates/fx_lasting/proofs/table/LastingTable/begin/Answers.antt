use Rattle.fx_lasting.proofs.{◌≡◌, ℕ, ◌^◌, refl, ap, ◌∙◌, sym, arith, Log, List, first_log, bit_of, NotAsked, subst, HasQuestionOf, number_is}
use Rattle.fx_lasting.proofs.{runs_goes, runs_within}
use Rattle.fx_lasting.proofs.range_lemmas.QuestionSteps.{begins_keep, asks_keep}
use Rattle.fx_lasting.proofs.range_lemmas.Questions.{is_gone, learns_at_work, learns_then}
use Rattle.fx_lasting.proofs.table.LastingTable.begin.Goals as goal

pub load-question-requires : goal.load-question-requires
load-question-requires c = (
  c.requires.table,
  omega (arith, c.args.self.now.words),
  begins_keep _ _ _ _ c.args.seat.now.me _ c.requires.at.pass (omega (arith, c.requires.at.its_number, c.requires.number)) refl,
)

pub fetch_add-requires : goal.fetch_add-requires
fetch_add-requires c =
    let run = runs_goes (c.load-question.ensures.2.gone (is_gone c.load-question.result c.requires.at c.asks.ensures.1 c.if-not-asks.true)) in
    let at = learns_at_work c.requires.at run in
    let not_yet : at.log.asked ≡ NotAsked = sym (ap (λ (l : List Log). (first_log l).asked) at.pass.1) ∙ run.asked in (
      c.load-question.ensures.0 ∙ c.requires.table,
      omega (arith, c.args.self.now.words),
      rw (c.pass_bit.ensures ∙ ap (λ (n : ℕ). 2 ^ bit_of n) (sym at.its_number)) (asks_keep _ _ _ _ c.load-question.new.seat.me _ at.pass
          (omega (arith, at.its_number, c.requires.number)) not_yet refl),
    )

pub returns-then-not-asks-clause-asked : goal.returns-then-not-asks-clause-asked
returns-then-not-asks-clause-asked c = learns_then c.args.seat.now.me
    (runs_goes (c.load-question.ensures.2.gone (is_gone c.load-question.result c.requires.at c.asks.ensures.1 c.if-not-asks.true)))
    (runs_goes c.fetch_add.ensures.2.goes)

pub returns-else-not-asks-clause-asked : goal.returns-else-not-asks-clause-asked
returns-else-not-asks-clause-asked c =
    let there = subst (HasQuestionOf c.load-question.result) (sym (number_is c.requires.at)) (c.asks.ensures.0 c.if-not-asks.false) in
    runs_within (omega arith) (runs_goes (c.load-question.ensures.2.there there))
