use Rattle.fx_lasting.proofs.{◌≡◌, ℕ, ◌+◌, ◌<◌, [], refl, ◌∙◌, subst, arith, inr, Start, Covered, groups_in, DecidesIf, runs_within, runs_none}
use Rattle.fx_lasting.proofs.slot_lemmas.Overtaking.{short_in}
use Rattle.fx_lasting.proofs.range_lemmas.Questions.{learns_at_work, learns_then, tells_then}
use Rattle.fx_lasting.proofs.table.LastingTable.ask.Goals as goal

pub loop-group-init : goal.loop-group-init
loop-group-init c = record {
  table = refl;
  places = refl;
  asked = let r = runs_none (learns_at_work c.requires.at c.begin.ensures.asked) 0 in assumption (r, c.begin.ensures.asked.asked);
  asks = c.begin.ensures.asks;
}

pub is_full-requires-clause-at : goal.is_full-requires-clause-at
is_full-requires-clause-at c = (c.args.number, learns_at_work (learns_at_work c.requires.at c.begin.ensures.asked) c.loop-group.invariant.asked)

pub is_full-requires-clause-asked : goal.is_full-requires-clause-asked
is_full-requires-clause-asked c = c.loop-group.invariant.asked.asked

pub loop-group-preserved : goal.loop-group-preserved
loop-group-preserved c = let i = c.loop-group.invariant in record {
  table = c.is_full.ensures.table ∙ i.table;
  places = c.is_full.ensures.places ∙ i.places;
  asked = learns_then c.begin.new.seat.me i.asked (rw c.if-not-is_full.false at c.is_full.ensures.visits);
  asks = c.is_full.ensures.asks ∙ i.asks;
}

pub returns-then-not-is_full-clause-sure : goal.returns-then-not-is_full-clause-sure
returns-then-not-is_full-clause-sure c = (
  Covered c.loop-group.group,
  runs_within (omega (arith, c.loop-group-test.true)) (learns_then c.args.seat.now.me c.begin.ensures.asked
      (learns_then c.begin.new.seat.me c.loop-group.invariant.asked (rw c.if-not-is_full.true at c.is_full.ensures.visits))),
)

pub returns-clause-sure : goal.returns-clause-sure
returns-clause-sure c = let groups = groups_in c.args.self.now.range_len in let m = c.args.seat.now.me in
    let few : 2 + c.loop-group.group + 1 ≡ groups + 3 = omega (arith, c.loop-group-test.false, c.loop-group.auto.group-end, c.groups_in-group-end.ensures) in
    subst (λ (n : ℕ). DecidesIf groups n m c.decide.result c.decide.new.seat.me) few
    (tells_then m c.decide.new.seat.me groups 1 c.decide.result (learns_then m c.begin.ensures.asked c.loop-group.invariant.asked) c.decide.ensures.sure)

pub returns-then-not-is_full-clause-short : goal.returns-then-not-is_full-clause-short
returns-then-not-is_full-clause-short c _ =
    let run = learns_then c.args.seat.now.me c.begin.ensures.asked c.loop-group.invariant.asked in
    short_in c.args.self.now.table.shared.key c.args.seat.now.me c.loop-group.seat.me c.is_full.new.seat.me c.is_full.new.seat.me run.start run.seen run.met
    ([], refl) (omega arith) (c.is_full.ensures.short c.if-not-is_full.true (run.change ∙ c.requires.outside))

pub returns-clause-short : goal.returns-clause-short
returns-clause-short c fails =
    let run = learns_then c.args.seat.now.me c.begin.ensures.asked c.loop-group.invariant.asked in
    let met = c.decide.ensures.met fails c.loop-group.invariant.asks in
    inr (omega (arith, met.0, run.met), subst (λ (k : Start). 1 < k.passes) run.start met.1)
