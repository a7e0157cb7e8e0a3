use Rattle.fx_lasting.proofs.{◌≤◌, ◌+◌, ℕ, refl, ap, ◌∙◌, arith, slot_of, full_name_in, subst, sym, step, none, At, Sees, ◌≢◌, slot_inside, slot_back}
use Rattle.fx_lasting.proofs.{placed_none, still_at_work, runs_goes, runs_within}
use Rattle.fx_lasting.proofs.slot_lemmas.ByNode.{lost_run, lost_so, stands_then}
use Rattle.fx_lasting.proofs.slot_lemmas.Overtaking.{Tried, tried_more}
use Rattle.fx_lasting.specs.slots.ByNode.{word_put}
use Rattle.fx_lasting.proofs.table.LastingTable.try_exchange.Given.{Over}
use Rattle.fx_lasting.proofs.table.LastingTable.try_exchange.Goals.{After-compare_exchange-found}
use Rattle.fx_lasting.proofs.table.LastingTable.try_exchange.Goals as goal

-- the exchange that was made last
abbrev at_last : (g : Over) → After-compare_exchange-found g → At
at_last g c = step c.args.self.now.table.shared.table_id.slots c.slot_place-place.result c.loop.expected c.word_put.result none

-- an exchange that found another word saw it
saw_word : (g : Over) (c : After-compare_exchange-found g) → c.compare_exchange-found.result ≢ c.loop.expected
    → Sees (at_last g c) c.loop.seat.me c.compare_exchange-found.result c.compare_exchange-found.new.seat.me
saw_word g c other = c.requires.loses (at_last g c) c.loop.seat.me c.compare_exchange-found.result c.compare_exchange-found.new.seat.me c.compare_exchange-found.ensures.2 other

pub loop-init : goal.loop-init
loop-init g c = record {
  table = refl;
  places = refl;
  named = c.requires.named;
  still = placed_none c.requires.at.1 refl;
  tries =
      record { watches = λ l. absurd (omega arith); overtaken = λ l. absurd (omega arith) };
}

pub compare_exchange-found-requires : goal.compare_exchange-found-requires
compare_exchange-found-requires g c =
    let i = c.loop.invariant in (
      i.table ∙ c.requires.table,
      slot_inside c.args.self.now c.requires.slot c.slot_place-place.ensures,
      rw c.slot_place-place.ensures (rw c.word_put.ensures (c.requires.may _ _ c.loop.expected c.loop.counter c.loop.seat.me i.still i.places i.named)),
    )

pub returns-then-found-expected : goal.returns-then-found-expected
returns-then-found-expected g c =
    let i = c.loop.invariant in
    record {
      table = c.compare_exchange-found.ensures.0 ∙ i.table;
      tried = record {
        before = c.loop.seat.me;
        st = at_last g (goal.at.returns-then-found-expected g c).After-compare_exchange-found;
        still = runs_within (omega (arith, c.loop-test.true)) i.still;
        places = i.places;
        here = ap slot_of c.slot_place-place.ensures ∙ slot_back c.args.slot;
        named = ap (λ (z : ℕ). full_name_in z) c.if-found-expected.true ∙ i.named;
        first = c.if-found-expected.true;
        second = c.word_put.ensures ∙ ap (λ (z : ℕ). word_put c.args.to z) (sym c.if-found-expected.true);
        last = c.compare_exchange-found.ensures.2;
      };
    }

pub loop-preserved : goal.loop-preserved
loop-preserved g c =
    let i = c.loop.invariant in
    let other = c.if-found-expected.false in
    let saw = saw_word g (goal.at.loop-preserved g c).After-compare_exchange-found other in
    let says = c.in-Ok.ensures in
    record {
      table = c.compare_exchange-found.ensures.0 ∙ i.table;
      places = saw.goes.carried ∙ i.places;
      named = ap (λ (z : ℕ). full_name_in z) says.0 ∙ says.1;
      still = stands_then i.still (runs_goes saw.goes);
      tries = subst (λ (z : ℕ). Tried c.args.slot z (c.loop.counter + 1) c.args.seat.now.me c.compare_exchange-found.new.seat.me) (sym says.0)
          (tried_more i.still saw (ap slot_of c.slot_place-place.ensures ∙ slot_back c.args.slot) other i.tries);
    }

pub returns-in-Err : goal.returns-in-Err
returns-in-Err g c =
    let i = c.loop.invariant in
    let saw = saw_word g (goal.at.returns-in-Err g c).After-compare_exchange-found c.if-found-expected.false in
    let start = (still_at_work c.requires.at.1 i.still).pass.0 in
    let few : c.loop.counter + 1 ≤ 4 = omega (arith, c.loop-test.true) in
    record {
      table = c.compare_exchange-found.ensures.0 ∙ i.table;
      tried = (
        lost_so i.still few saw c.args.node start (ap slot_of c.slot_place-place.ensures ∙ slot_back c.args.slot) c.in-Err.miss c.in-Err.ensures,
        lost_run i.still few saw,
        saw.goes.carried ∙ i.places,
      );
    }

pub returns : goal.returns
returns g c = let i = c.loop.invariant in record {
  table = i.table;
  tried = (i.tries.overtaken (omega (arith, c.loop.auto.counter-end)), runs_within (omega (arith, c.loop.auto.counter-end)) i.still, i.places);
}
