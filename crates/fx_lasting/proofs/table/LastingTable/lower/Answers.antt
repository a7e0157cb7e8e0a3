use Rattle.fx_lasting.proofs.{◌≡◌, refl, ap, ◌∙◌, sym, subst, arith, uncounted, Inside, Change, group_of, group_at, range_at_start, true, Runs, []}
use Rattle.fx_lasting.proofs.{group_word, its_group, still_at_work, runs_one, runs_goes, turns_then, runs_within, was_in, group_back}
use Rattle.fx_lasting.proofs.range_lemmas.GroupSteps.{lowers_keep}
use Rattle.fx_lasting.proofs.range_lemmas.QuestionSteps.{checks_keep, breaks_keep}
use Rattle.fx_lasting.proofs.table.LastingTable.lower.Goals.{After-fetch_sub}
use Rattle.fx_lasting.proofs.table.LastingTable.lower.Goals as goal

pub group_of-requires : goal.group_of-requires
group_of-requires c = was_in (range_at_start c.args.self.now.table.shared.key) c.args.slot (sym c.requires.inside ∙ c.if-inside.true)

pub fetch_sub-requires : goal.fetch_sub-requires
fetch_sub-requires c = let t = c.args.self.now in (
  c.requires.table,
  group_word t c.group_of.ensures.few c.group_place.ensures,
  lowers_keep _ _ _ _ c.group_of.result c.args.seat.now.me _ c.requires.at.1.pass c.requires.change (its_group t c.group_of.ensures.few) c.group_place.ensures,
)

pub load-question-requires : goal.load-question-requires
load-question-requires c = let lowered = c.fetch_sub.ensures.2.turns.stepped in (
  c.fetch_sub.ensures.0 ∙ c.requires.table,
  omega (arith, c.args.self.now.words),
  checks_keep _ _ _ _ _ c.fetch_sub.new.seat.me _ (still_at_work c.requires.at.1 (runs_one lowered)).pass lowered.change refl,
)

pub swap-requires : goal.swap-requires
swap-requires c = let lowered = c.fetch_sub.ensures.2.turns.stepped in
    let goes = c.load-question.ensures.2.asked (omega (arith, c.if-question-ne0.true)) in (
      c.load-question.ensures.0 ∙ (c.fetch_sub.ensures.0 ∙ c.requires.table),
      omega (arith, c.args.self.now.words),
      breaks_keep _ _ _ _ _ c.load-question.new.seat.me _ (still_at_work (still_at_work c.requires.at.1 (runs_one lowered)) (runs_goes goes)).pass
          (goes.stepped.change ∙ lowered.change) refl,
    )

-- the account is one with the slot's group
its_change : (c : After-fetch_sub)
    → Inside (group_at c.group_place.result) ≡ uncounted c.args.inside true (group_of (range_at_start c.args.self.now.table.shared.key) c.args.slot)
its_change c = let here = ap group_at c.group_place.ensures ∙ (group_back c.group_of.result ∙ c.group_of.ensures.group) in
    λ i. uncounted (sym c.if-inside.true i) true (here i)

pub returns-then-question-ne0-clause-runs : goal.returns-then-question-ne0-clause-runs
returns-then-question-ne0-clause-runs c =
    let lowered = c.fetch_sub.ensures.2.turns.stepped in
    let goes = c.load-question.ensures.2.asked (omega (arith, c.if-question-ne0.true)) in
    let broke = c.swap.ensures.2.turns (group_at c.group_place.result) (goes.stepped.change ∙ lowered.change) in
    subst (λ (z : Change). Runs c.args.seat.now.me [] c.args.seat.now.me.0.work c.args.seat.now.me.0.glance z 3 c.swap.new.seat.me)
    (its_change (goal.at.returns-then-question-ne0-clause-runs c).After-fetch_sub)
    (turns_then (turns_then (runs_one lowered) (runs_goes goes)) (runs_one broke.stepped))

pub returns-else-question-ne0-clause-runs : goal.returns-else-question-ne0-clause-runs
returns-else-question-ne0-clause-runs c =
    let lowered = c.fetch_sub.ensures.2.turns.stepped in
    let quiet = c.load-question.ensures.2.quiet (group_at c.group_place.result) lowered.change (omega (arith, c.if-question-ne0.false)) in
    subst (λ (z : Change). Runs c.args.seat.now.me [] c.args.seat.now.me.0.work c.args.seat.now.me.0.glance z 3 c.load-question.new.seat.me)
    (its_change (goal.at.returns-else-question-ne0-clause-runs c).After-fetch_sub)
    (runs_within (omega arith) (turns_then (runs_one lowered) (runs_one quiet.stepped)))
