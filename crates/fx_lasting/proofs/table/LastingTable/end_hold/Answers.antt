use Rattle.fx_lasting.proofs.{◌≡◌, ◌≢◌, ◌-◌, ◌<◌, ap, ◌∙◌, subst, arith, refl, ne_eqb, [], Bool, Start, Runs, HasItsHold, leaving_work, IsHot}
use Rattle.fx_lasting.proofs.{heat_in, Retiring, guarded_round, one_less, true, false, full_name_in, count_in, Round}
use Rattle.fx_lasting.proofs.{hold_inside, hold_word, runs_goes, placed_none, runs_within}
use Rattle.fx_lasting.proofs.hold_lemmas.EndingHold.{ends_hold_keep}
use Rattle.fx_lasting.proofs.table.LastingTable.end_hold.Goals as goal

pub store-requires : goal.store-requires
store-requires c =
    let is : c.args.guarded ≡ true = c.if-guarded.true in
    let f = c.requires.left.0 in
    let word = c.args.word in
    let works = c.requires.left.1 ∙ ap (λ (b : Bool). leaving_work c.args.self.now.table.shared.key b word f) is in (
      c.requires.table,
      hold_inside c.args.self.now c.requires.at.high c.hold_place-place.ensures,
      ends_hold_keep _ _ _ _ (full_name_in word - 1) (count_in word) 0 guarded_round f c.args.seat.now.me _ c.requires.at.pass works refl
          (hold_word c.args.self.now c.requires.at.its_number c.hold_place-place.ensures),
    )

pub returns-then-guarded : goal.returns-then-guarded
returns-then-guarded c =
    let k : Start = c.args.self.now.table.shared.key in
    let is : c.args.guarded ≡ true = c.if-guarded.true in
    let word = c.args.word in
    let hot : IsHot word = subst (λ (b : Bool). HasItsHold b word) is c.requires.hold in
    let m = c.args.seat.now.me in
    record {
      table = c.store.ensures.0;
      places = (c.store.ensures.2.goes c.requires.left.0 (full_name_in word - 1) (count_in word) guarded_round 0
          (c.requires.left.1 ∙ ap (λ (b : Bool). leaving_work k b word c.requires.left.0) is)).carried;
      named = refl;
      entry = refl;
      ended = λ f works. let goes = c.store.ensures.2.goes f (full_name_in word - 1) (count_in word) guarded_round 0
          (works ∙ ap (λ (b : Bool). leaving_work k b word f) is) in
          subst (λ (z : Round). Runs m [] (Retiring f (full_name_in word - 1) (count_in word) z 0) m.0.glance m.0.change 1 c.store.new.seat.me)
          (let some : heat_in word ≢ 0 = λ none. omega (arith, hot, none) in rw (ne_eqb (heat_in word) 0 some) refl) (runs_goes goes);
    }

pub returns : goal.returns
returns c =
    let k : Start = c.args.self.now.table.shared.key in
    let is : c.args.guarded ≡ false = c.if-guarded.false in
    let word = c.args.word in
    let some_takes : 0 < count_in word = subst (λ (b : Bool). HasItsHold b word) is c.requires.hold in
    let less = one_less word some_takes in
    record {
      table = refl;
      places = refl;
      named = less.0;
      entry = less.3;
      ended = λ f works. runs_within (omega arith) (placed_none c.requires.at (works ∙ ap (λ (b : Bool). leaving_work k b word f) is));
    }
