use Rattle.fx_lasting.proofs.{◌≡◌, ◌+◌, ℕ, ap, ◌∙◌, subst, sym, arith, [], ◌▷◌, Look, None, Nothing, Cold, Hot, Runs, slot_of, full_name_in, IsHot}
use Rattle.fx_lasting.proofs.{slot_inside, slot_low, slot_back, runs_goes, no_name, its_name}
use Rattle.fx_lasting.proofs.hold_lemmas.Looking.{aims_keep}
use Rattle.fx_lasting.proofs.table.LastingTable.aim.Goals as goal

pub load-word-requires : goal.load-word-requires
load-word-requires c =
    let t = c.args.self.now in (
      c.requires.table,
      slot_inside t c.requires.slot c.slot_place.ensures,
      aims_keep _ _ _ _ c.args.slot c.args.seat.now.me _ c.requires.at.1.pass c.requires.unheld c.requires.nothing (slot_low t c.requires.slot) c.slot_place.ensures,
    )

pub returns-in_default : goal.returns-in_default
returns-in_default c =
    let goes = c.load-word.ensures.2.empty (no_name c.load-word.result c.in_default.ensures) in
    let here : slot_of c.slot_place.result ≡ c.args.slot = ap slot_of c.slot_place.ensures ∙ slot_back c.args.slot in
    let m = c.args.seat.now.me in
    record {
      table = c.load-word.ensures.0;
      places = goes.carried;
      aimed = subst (λ (z : ℕ). Runs m ([] ▷ Look z None) m.0.work Nothing m.0.change 1 c.load-word.new.seat.me) here (runs_goes goes);
    }

pub returns-then-is_hot_at : goal.returns-then-is_hot_at
returns-then-is_hot_at c =
    let still : (full_name_in c.load-word.result ≡ c.in-Some.node + 1) × IsHot c.load-word.result = c.is_hot_at.ensures.0 c.if-is_hot_at.true in
    let here : slot_of c.slot_place.result ≡ c.args.slot = ap slot_of c.slot_place.ensures ∙ slot_back c.args.slot in
    let goes = (c.load-word.ensures.2.hot c.in-Some.node (its_name c.load-word.result c.in-Some.node c.in-Some.ensures) still.1).0 in
    let m = c.args.seat.now.me in
    record {
      table = c.load-word.ensures.0;
      places = goes.carried;
      aimed = subst (λ (z : ℕ). Runs m [] m.0.work (Hot z c.in-Some.node) m.0.change 1 c.load-word.new.seat.me) here (runs_goes goes);
    }

pub returns-else-is_hot_at : goal.returns-else-is_hot_at
returns-else-is_hot_at c =
    let named = its_name c.load-word.result c.in-Some.node c.in-Some.ensures in
    let here : slot_of c.slot_place.result ≡ c.args.slot = ap slot_of c.slot_place.ensures ∙ slot_back c.args.slot in
    let goes = c.load-word.ensures.2.cold (λ zero. omega (arith, named, zero)) (λ hot. let bad = c.is_hot_at.ensures.1 (named, hot) in absurd (cc (sym bad ∙ c.if-is_hot_at.false))) in
    let m = c.args.seat.now.me in
    record {
      table = c.load-word.ensures.0;
      places = goes.carried;
      aimed = subst (λ (z : ℕ). Runs m [] m.0.work (Cold z) m.0.change 1 c.load-word.new.seat.me) here (runs_goes goes);
    }
