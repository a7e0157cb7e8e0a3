-- A step that sets a pass's bit in the list keeps the rule.
use Rattle.fx_lasting.proofs.{ℕ, ◌≤◌, ◌^◌, List, Option, Closed, refl, inl, inr, arith, none, keeps, true, bit_or, bit_of, list_place, step}
use Rattle.fx_lasting.proofs.{length-set, Lists, ListsKeep, [], ◌≡◌, ◌+◌, ◌%◌, ◌<◌, ◌∙◌, false, Agrees, first_log, grows_none}
use Rattle.fx_lasting.proofs.{guards_same, covers_same, sees_same, Turn, turn_of, After, word_at, Made, by_turn, its_log, its_work, in_range, w, end}
use Rattle.fx_lasting.proofs.{met_same, none_added, range_left, tells_as, watch_same, list_words, list_here, list_apart, list_node, list_hold}
use Rattle.fx_lasting.proofs.{list_slot, list_alike, list_label}
use Rattle.fx_lasting.proofs.Calm.{calm_after, calm_kept}
use Rattle.fx_lasting.proofs.hold_lemmas.Lists.{ListGoesOn}
use Rattle.table_range.proofs.Bits.{bit_now, bit_added}
use Rattle.fx_lasting.proofs.range_lemmas.GroupSteps.{its_inside}

module _ (turn : Turn) (not_yet : turn.x.listed ≡ false) (fits : word_at turn.st.words (list_place turn.x.number) < 18446744073709551616) where
  open turn use {st, v, r, id, x, here, one}

  few : x.number ≤ 1024
  few = omega (arith, (in_range turn).1, r.shape.passes)

  abbrev new : ℕ
  new = (word_at st.words (list_place x.number) + 2 ^ bit_of x.number) % 2 ^ 64

  -- the bit was clear
  is_set : new ≡ bit_or (word_at st.words (list_place x.number)) (2 ^ bit_of x.number)
  is_set = grind (arith, bit_added, its_log)

  abbrev words' : List ℕ
  words' = list_words turn x.number few new

  abbrev listed_after : After turn
  listed_after = calm_after turn r.history r.history words' v.work v.glance v.change x.asked true (λ l. refl) x.watch (met_same x.watch.met)

  -- each word of the list
  goes_on : (p : ℕ) → ListGoesOn x.number true p (word_at st.words (list_place p)) (word_at words' (list_place p))
  goes_on p = grind (arith, list_here, few, is_set, list_apart)

  kept : Agrees v.start (end turn listed_after)
  kept = let o = its_log turn in let same = list_slot turn x.number few new in
      let own = guards_same turn listed_after x.number v.work (list_hold turn x.number few new x.number (in_range turn).0) refl
      (covers_same turn words' same x.number) o.hold o.guarded in
      calm_kept turn r.history r.history words' v.work v.glance v.change x.asked true (λ l. refl) x.watch (met_same x.watch.met) record {
        words = length-set st.words (list_place x.number) new;
        files = none_added turn;
        seen = ([], refl);
        own = refl;
        slot_words = same;
        node_words = list_node turn x.number few new;
        label_words = list_label turn x.number few new;
        hold_words = λ p other low. list_hold turn x.number few new p low;
        counts = range_left turn listed_after refl (list_alike turn x.number few new) refl refl;
        taken = λ n. refl;
        owners = inl refl;
        held = o.held;
        allowed = grind arith;
        lists = λ p few. goes_on p;
        its_bit = λ l. inr (rw (list_here turn x.number few new ∙ is_set) (bit_now x.number (word_at st.words (list_place x.number))));
        watches = watch_same v.start x.number ([], refl) same (list_alike turn x.number few new).0 x.watch o.watch;
        its = grind (arith, sees_same, its_work);
        holds = λ n. refl;
      }

  lists : (slots : ℕ) (carried : List (ℕ × Option Closed)) → Made turn carried (list_place x.number) (λ word. (word + 2 ^ bit_of x.number) % 2 ^ 64)
      (Lists (step slots (list_place x.number) (2 ^ bit_of x.number) 0 none) (v, carried))
  lists slots carried = (
    w turn listed_after,
    keeps,
    tt,
    kept,
    record {
      goes = record {
        stepped = tells_as turn listed_after true (first_log v.logs).asked (first_log v.logs).stock (rw one refl) carried carried []
            (grows_none x.number r.history) r.life.legal refl (its_inside turn);
        carried = refl;
      };
    },
  )

pub lists_keep : ListsKeep Lists
lists_keep k slots id i m x has not_yet place = by_turn slots (λ _. Unit {0}) (λ _. list_place x.number) (λ word. (word + 2 ^ bit_of x.number) % 2 ^ 64)
    (λ i. Lists (step slots i (2 ^ bit_of x.number) 0 none) m) has tt place
    (λ st r here _ fits. lists (turn_of m x has.1 id st r here) not_yet fits slots m.1)
