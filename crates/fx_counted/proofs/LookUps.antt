-- A look-up keeps the rule.
use Rattle.fx_counted.proofs.{◌≡◌, ◌≢◌, ℕ, ◌+◌, ◌-◌, ◌%◌, ◌^◌, ◌<◌, List, [], ◌∷◌, sym, refl, ap, ◌∙◌, subst, arith, Option, none, keeps, step}
use Rattle.fx_counted.proofs.{Closed, ◌▷◌, State, File, Event, Look, event_of, takes_in, Names, SlotAgrees, PlacesNext, WorkAgrees, holding, Phase}
use Rattle.fx_counted.proofs.{seated, IsInside, Log, View, Idle, one_look, name_more, entry_more, takes_more, LooksKeep, Looks, holds_now, Between}
use Rattle.fx_counted.proofs.{one_more_at, length-set, IsSeated, rules, sees_now, busy, stays_same, owner_stays, IsHistory, grows_one, legal_more}
use Rattle.fx_counted.proofs.{held_mine, part_mine, same_shape, step_kept, Turn, turn_of, word_at, now, logged, its_log, tells, by_turn, Made}
use Rattle.fx_counted.proofs.{log_now, far, control_same, NodeIn, seat_in, slots_now, node_now, control_now, draws_now, words_now}
use Rattle.fx_counted.proofs.Words.{looks, slot_place, slots_of, IsNumber, state_after_all, shown, held_in, placing, held_of}

module _ (turn : Turn) (idle : turn.v.work ≡ Between Idle) (some_left : 0 < turn.x.looks_left) (s : ℕ) (inside : s < slots_of turn.v.start)
    (fits : word_at turn.st.words (slot_place s) < 18446744073709551616) where
  open turn use {st, v, r, id, x, here, one}

  abbrev found : ℕ
  found = word_at st.words (slot_place s)

  abbrev word' : ℕ
  word' = (found + 1) % 2 ^ 64

  abbrev old : State
  old = state_after_all v.start r.history

  so : SlotAgrees v.start r.history r.phase s found
  so = r.each_slot s inside

  room : takes_in found + 1 < 4294967296
  room = let a = so.takes in let b = r.look_ups in let c = r.shape.passes in omega arith

  word_is : word' ≡ found + 1
  word_is = omega (arith, room, fits)

  names_now : (file : Option File) → Names found file → Names word' file
  names_now file o = grind (arith, word_is, name_more, room, entry_more)

  takes_now : takes_in word' ≡ takes_in found + 1
  takes_now = ap takes_in word_is ∙ takes_more found room

  abbrev h' : Option File → List Event
  h' file = event_of (shown x v.work) (Look s file) ∷ r.history

  -- the file that is found is looked up once more, and held once more
  looks_are : (file : Option File) (n : ℕ) → looks (h' file) n ≡ looks r.history n + holding n (holds_now file)
  looks_are file n = grind (arith, one_more_at, looks)

  state_is : (file : Option File) → state_after_all v.start (h' file) ≡ record old { holds = λ n. old.holds n + holding n (holds_now file) }
  state_is file = grind (arith, one_more_at)

  -- the work of the pass afterwards
  does_now : (file : Option File) → old.at s ≡ file → (held_in (holds_now file) ≡ file) × (placing (holds_now file) ≡ 0)
      × ((y : Log) → PlacesNext v.start y (holds_now file)) × WorkAgrees v.start r.phase id (holds_now file) × IsInside v.start (holds_now file)
  does_now file is = grind (arith, seat_in)

  seat_now : (file : Option File) → old.at s ≡ file → IsSeated v.start (looks (h' file)) r.phase s word' file
  seat_now file is = grind arith

  -- a number whose file is not at the slot was not found
  not_found : (file : Option File) → old.at s ≡ file → {n : ℕ} {ph : Phase} → r.phase n ≡ ph → ((g : Closed) → ph ≢ seated s g)
      → holding n (holds_now file) ≡ 0
  not_found file is h3 not_seated = grind arith

  module _ (file : Option File) (is : old.at s ≡ file) where
    abbrev y : Log
    y = logged x (h' file) x.numbers_left (x.looks_left - 1)

    abbrev w : View
    w = now v y (holds_now file) v.change

    abbrev new : State
    new = state_after_all v.start (h' file)

    legal : IsHistory v.start (h' file)
    legal = legal_more v.start r.life.legal (let z = (same_shape v.start r.history).0 in omega arith, sym is) tt

    node_after : {n : ℕ} → IsNumber v.start n → (ph : Phase) → r.phase n ≡ ph → NodeIn v.start st.words st.homes (h' file) n ph
    node_after has ph h3 = grind arith

    looked : (slots : ℕ) (carried : List (ℕ × Option Closed))
        → Made turn carried (slot_place s) (λ word. (word + 1) % 2 ^ 64) (Looks (step slots (slot_place s) 1 0 none) (v, carried))
    looked slots carried = let o = its_log turn in let p = ap placing idle in let now = does_now file is in
        let names = subst (Names found) is so.names in (
          w,
          keeps,
          tt,
          step_kept turn y (holds_now file) v.change (h' file) r.phase (words_now turn s inside word') st.homes record {
            words = length-set st.words (slot_place s) word';
            homes = refl;
            number = refl;
            grows = grows_one x.number r.history _ refl;
            legal = legal;
            slots = search (rules, slots_now, state_is, names_now, looks, seat_now, so, takes_now, looks_are, not_found);
            nodes = λ n has. node_now turn s inside word' (h' file) st.homes (r.phase n) has (node_after has (r.phase n) refl);
            owners = λ n has. owner_stays st.views id v w here n (λ bad. let b = ap busy idle in omega arith) (r.phase n) (r.each_owner n has);
            no_other = λ n absent. ap (λ (z : State). z.removed n) (state_is file) ∙ r.no_other n absent;
            stays = stays_same id x.number r.phase;
            keeps = λ j u f other there is_held. refl;
            seen = sees_now turn (h' file) x.numbers_left (x.looks_left - 1);
            log = grind (arith, log_now, held_mine, shown);
            work = now.3;
            holds = λ n. let b : held_of n v ≡ 0 = ap (holding n) idle in let c = ap (λ (z : State). z.holds n) (state_is file) in omega arith;
            look_ups = omega arith;
            control = control_now turn s inside word' (control_same st.views id v w here (grind (arith, state_is file)) refl refl r.control);
            draws = draws_now turn s inside word' (h' file) x.numbers_left (x.looks_left - 1) (holds_now file) v.change (λ n is_new. is_new);
          },
          record {
            file = file;
            names = names;
            stepped = rw ((far turn).slot_back s) (tells turn carried carried (h' file) x.numbers_left (x.looks_left - 1)
                (holds_now file) v.change ([] ▷ Look s file) one_look (grows_one x.number r.history _ refl) legal
                (part_mine r.history refl) (omega arith) (omega (arith, some_left)) now.4);
            carried = refl;
          },
        )

pub looks_keep : LooksKeep
looks_keep k slots id i slot m x has idle left inside place = by_turn slots (λ k. slot < slots_of k) (λ _. slot_place slot)
    (λ word. (word + 1) % 2 ^ 64) (λ i. Looks (step slots i 1 0 none) m) has inside place
    (λ st r here within fits. looked (turn_of m x has.1 id st r here) idle left slot within fits _ refl slots m.1)
