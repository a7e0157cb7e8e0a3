-- Steps on the question word keep the rule.
use Rattle.fx_lasting.proofs.{◌≡◌, ◌+◌, ◌^◌, ◌<◌, ◌≤◌, List, sym, refl, ap, ◌∙◌, dite, none, true, step, Full, ◌▷◌, Log, Asks, inl, inr, ◌⊎◌, Bool, ℕ}
use Rattle.fx_lasting.proofs.{subst, arith, Closed, Event, ⊎_elim, Change, Inside, Checks, Breaks, Begins, Survey, bit_of, bit_at, Watch, false, []}
use Rattle.fx_lasting.proofs.{Option, groups_in, Lowered, Decides, BeginsKeep, AsksKeep, NotAsked, Covered, first_log, IsSeenBy, its_range, not_there}
use Rattle.fx_lasting.proofs.{ℕ_discrete, range_at_start, HasQuestionOf, question_place, ChecksKeep, BreaksKeep, DecidesKeep, WatchAgrees}
use Rattle.fx_lasting.proofs.{with_question, part_mine, watch_asks, Turn, turn_of, word_at, Made, by_turn, in_range, tells, its_log, met_same}
use Rattle.fx_lasting.proofs.Words.{Turns}
use Rattle.table_range.proofs.Bits.{bit_now}
use Rattle.table_range.proofs.Steps.{counts_cleared, counts_read, counts_asked, none_visited, is_set, visited, range_full}
use Rattle.fx_lasting.proofs.range_lemmas.GroupSteps.{RangeStep, no_event, told_full, written, alike, same_slots, made, stepped_so, goes_so, goes_asked, h₁, w'}
use Rattle.fx_lasting.proofs.range_lemmas.GroupSteps.{x', words', turn_after, its_inside}

-- A step that leaves the pass at its work
module _ (turn : Turn) where
  open turn use {st, v, r, id, x, here, one}

  abbrev range : ℕ × ℕ
  range = range_at_start v.start

  -- the question word
  abbrev question : ℕ
  question = word_at st.words question_place

  -- the pass watches what it watched, has set its bit or hasn't, and may have met another one
  abbrev asks_now : Bool → ℕ → Watch
  asks_now b met = record x.watch { asks = b; met = met }

  module _ (y : ℕ) (c : Change) (q : Survey) (b : Bool) (met : ℕ) (more : x.watch.met ≤ met) (h : List Event) where
    abbrev step_so : RangeStep turn
    step_so = record {
      place = question_place;
      low = omega arith;
      unlisted = λ l. absurd (omega (arith, l));
      y = y;
      change = c;
      asked = q;
      watch = asks_now b met;
      more = more;
      h = h;
    }

    watches : IsSeenBy r.history h → (b ≡ true → HasQuestionOf y x.number ⊎ (1 < v.start.passes))
        → WatchAgrees v.start h (words' turn step_so) x.number (asks_now b met)
    watches seen asks = watch_asks v.start x.number seen (same_slots turn step_so) x.watch b met
        (λ is. subst (λ (z : ℕ). HasQuestionOf z x.number ⊎ (1 < v.start.passes)) (sym (written turn step_so).here) (asks is)) (its_log turn).watch

  -- a step after which the pass has met nobody
  abbrev asking : ℕ → Change → Survey → Bool → RangeStep turn
  asking y c q b = step_so y c q b x.watch.met (met_same x.watch.met) r.history

  asking_watches : (y : ℕ) (c : Change) (q : Survey) (b : Bool) → (b ≡ true → HasQuestionOf y x.number ⊎ (1 < v.start.passes))
      → WatchAgrees v.start r.history (words' turn (asking y c q b)) x.number (asks_now b x.watch.met)
  asking_watches y c q b = watches y c q b x.watch.met (met_same x.watch.met) r.history ([], refl)

  -- the pass watches the question word as it did
  still_asks : x.watch.asks ≡ true → HasQuestionOf question x.number ⊎ (1 < v.start.passes)
  still_asks = (its_log turn).watch.asks

  turns_inside : (y g : ℕ) (b : Bool) (carried : List (ℕ × Option Closed)) → v.change ≡ Lowered g → (n : ℕ) → v.change ≡ Lowered n
      → Turns (Inside n) (v, carried) (w' turn (asking y (Inside g) x.asked b), carried)
  turns_inside y g b carried lowered n other = let p = asking y (Inside g) x.asked b in let same : g ≡ n = cc (sym lowered ∙ other) in
      subst (λ (m : ℕ). Turns (Inside m) (v, carried) (w' turn p, carried)) same record { stepped = stepped_so turn p (no_event turn) refl carried refl; carried = refl }

  check : (slots : ℕ) (carried : List (ℕ × Option Closed)) (g : ℕ) → v.change ≡ Lowered g
      → Made turn carried question_place (λ word. word) (Checks (step slots question_place 0 0 none) (v, carried))
  check slots carried g lowered = dite (ℕ_discrete question 0)
      (λ is. let p = asking question (Inside g) x.asked x.watch.asks in
      made turn p carried (Checks (step slots question_place 0 0 none) (v, carried))
      (no_event turn) (asking_watches question (Inside g) x.asked x.watch.asks still_asks)
      (counts_cleared r.range id (w' turn p) here record { here = (written turn p).here ∙ is; others = (written turn p).others } g lowered refl)
      record { quiet = λ n other _. turns_inside question g x.watch.asks carried lowered n other; asked = λ bad. absurd (bad is) })
      (λ some_asks. let p = asking question v.change x.asked x.watch.asks in
      made turn p carried (Checks (step slots question_place 0 0 none) (v, carried))
      (no_event turn) (asking_watches question v.change x.asked x.watch.asks still_asks)
      (counts_read r.range id (w' turn p) here refl x (x' turn p) one refl refl (alike turn p refl) (visited r.range id here one))
      record { quiet = λ n _ is. absurd (some_asks is); asked = λ _. goes_so turn p (no_event turn) refl carried refl refl })

  -- the pass clears its own bit too
  break_all : (slots : ℕ) (carried : List (ℕ × Option Closed)) (g : ℕ) → v.change ≡ Lowered g
      → Made turn carried question_place (λ _. 0) (Breaks (step slots question_place 0 0 none) (v, carried))
  break_all slots carried g lowered = let p = asking 0 (Inside g) x.asked false in
      made turn p carried (Breaks (step slots question_place 0 0 none) (v, carried))
      (no_event turn) (asking_watches 0 (Inside g) x.asked false (λ bad. absurd (cc bad)))
      (counts_cleared r.range id (w' turn p) here (written turn p) g lowered refl) record { turns = turns_inside 0 g false carried lowered }

  has_bit : (p : ℕ) → (HasQuestionOf question p) ⊎ (HasQuestionOf question p → ⊥)
  has_bit p = dite (ℕ_discrete (bit_at question (bit_of p)) 1) (λ is. inl is) (λ other. inr other)

  its_number : (first_log v.logs).number ≡ x.number
  its_number = ap (λ (l : List Log). (first_log l).number) one

  was_there : HasQuestionOf question x.number → HasQuestionOf question (first_log v.logs).number
  was_there = subst (HasQuestionOf question) (sym its_number)

  is_gone : (HasQuestionOf question x.number → ⊥) → HasQuestionOf question (first_log v.logs).number → ⊥
  is_gone gone there = gone (subst (HasQuestionOf question) its_number there)

  begin : (slots : ℕ) (carried : List (ℕ × Option Closed)) → Made turn carried question_place (λ word. word) (Begins (step slots question_place 0 0 none) (v, carried))
  begin slots carried = ⊎_elim
      (λ is. let p = asking question v.change (Covered 0) true in
      made turn p carried (Begins (step slots question_place 0 0 none) (v, carried))
      (no_event turn) (asking_watches question v.change (Covered 0) true (λ _. inl is))
      (counts_read r.range id (w' turn p) here refl x (x' turn p) one refl refl (alike turn p refl) (λ _ _. none_visited))
      record { there = λ _. goes_asked turn p (no_event turn) refl carried refl; gone = λ bad. absurd (bad (was_there is)); asks = λ _. refl })
      (λ gone. let p = asking question v.change NotAsked x.watch.asks in
      made turn p carried (Begins (step slots question_place 0 0 none) (v, carried))
      (no_event turn) (asking_watches question v.change NotAsked x.watch.asks still_asks)
      (counts_read r.range id (w' turn p) here refl x (x' turn p) one refl refl (alike turn p refl) (λ _. gone))
      record { there = λ is. absurd (is_gone gone is); gone = λ _. goes_asked turn p (no_event turn) refl carried refl; asks = λ is. absurd (is_gone gone is) })
      (has_bit x.number)

  -- the pass sets its bit, which is not there
  ask : x.number ≤ 64 → x.asked ≡ NotAsked → question < 18446744073709551616 → (slots : ℕ) (carried : List (ℕ × Option Closed))
      → Made turn carried question_place (with_question x.number) (Asks (step slots question_place (2 ^ bit_of x.number) 0 none) (v, carried))
  ask few not_yet fits slots carried = let p = asking (with_question x.number question) v.change (Covered 0) true in
      let low = (in_range turn).0 in let after = w' turn p in
      made turn p carried (Asks (step slots question_place (2 ^ bit_of x.number) 0 none) (v, carried))
      (no_event turn) (asking_watches (with_question x.number question) v.change (Covered 0) true
      (λ _. inl (rw (is_set r.range id after here refl x (x' turn p) one refl refl few low not_yet fits) (bit_now x.number question))))
      (counts_asked r.range id after here refl x (x' turn p) one refl refl few low not_yet fits (written turn p) refl
      (λ j u z other there has. ((its_range r.life j there has).0, λ same. not_there r.life here one other there z has same)))
      record { goes = goes_asked turn p (no_event turn) refl carried refl; asks = refl }

  -- the pass has visited all groups
  module _ (few : x.number ≤ 64) (asked : x.asked ≡ Covered (groups_in range.1)) where
    -- a bit that the pass has set was cleared by another one
    abbrev met_now : Bool → ℕ
    met_now true = x.watch.met + 1
    met_now false = x.watch.met

    more_now : (b : Bool) → x.watch.met ≤ met_now b
    more_now b = grind arith

    tell : (slots : ℕ) (carried : List (ℕ × Option Closed))
        → Made turn carried question_place (λ word. word) (Decides (step slots question_place 0 0 none) (v, carried))
    tell slots carried = ⊎_elim
        (λ is. let p = step_so question v.change x.asked x.watch.asks x.watch.met (met_same x.watch.met) (h₁ turn) in
        let q = told_full turn (range_full r.range id here one few is asked) in
        made turn p carried (Decides (step slots question_place 0 0 none) (v, carried))
        q (watches question v.change x.asked x.watch.asks x.watch.met (met_same x.watch.met) (h₁ turn) (q.files.grows.seen r.history ([], refl)) still_asks)
        (counts_read r.range id (w' turn p) here refl x (x' turn p) one refl refl (alike turn p refl) (visited r.range id here one))
        record {
          full = λ _. record {
            stepped = tells turn (turn_after turn p) refl carried carried ([] ▷ Full) q.files.grows q.files.legal (part_mine r.history refl) (its_inside turn);
            carried = refl;
          };
          broken = λ gone. absurd (gone (was_there is));
          met = λ gone. absurd (gone (was_there is));
        })
        (λ gone. let met = met_now x.watch.asks in let more = more_now x.watch.asks in let p = step_so question v.change NotAsked false met more r.history in
        made turn p carried (Decides (step slots question_place 0 0 none) (v, carried))
        (no_event turn) (watches question v.change NotAsked false met more r.history ([], refl) (λ bad. absurd (cc bad)))
        (counts_read r.range id (w' turn p) here refl x (x' turn p) one refl refl (alike turn p refl) (λ _. gone))
        record {
          full = λ is. absurd (is_gone gone is);
          broken = λ _. goes_asked turn p (no_event turn) refl carried refl;
          met = λ _ asks. (let is : x.watch.asks ≡ true = subst (λ (l : List Log). (first_log l).watch.asks ≡ true) one asks in
              let two = ⊎_elim (λ there. absurd (gone there)) (λ many. many) (still_asks is) in
              subst (λ (l : List Log). ((first_log l).watch.met < met_now x.watch.asks) × (1 < v.start.passes)) (sym one)
              ((let low : x.watch.met < met_now x.watch.asks = (let a = ap met_now is in omega arith) in low), two));
        }) (has_bit x.number)

pub checks_keep : ChecksKeep Checks
checks_keep k slots id i g m x has lowered place = by_turn slots (λ _. Unit {0}) (λ _. question_place) (λ word. word)
    (λ i. Checks (step slots i 0 0 none) m) has tt place (λ st r here _ _. check (turn_of m x has.1 id st r here) slots m.1 g lowered)

pub breaks_keep : BreaksKeep Breaks
breaks_keep k slots id i g m x has lowered place = by_turn slots (λ _. Unit {0}) (λ _. question_place) (λ _. 0)
    (λ i. Breaks (step slots i 0 0 none) m) has tt place (λ st r here _ _. break_all (turn_of m x has.1 id st r here) slots m.1 g lowered)

pub begins_keep : BeginsKeep Begins
begins_keep k slots id i m x has few place = by_turn slots (λ _. Unit {0}) (λ _. question_place) (λ word. word)
    (λ i. Begins (step slots i 0 0 none) m) has tt place (λ st r here _ _. begin (turn_of m x has.1 id st r here) slots m.1)

pub asks_keep : AsksKeep Asks
asks_keep k slots id i m x has few not_yet place = by_turn slots (λ _. Unit {0}) (λ _. question_place) (with_question x.number)
    (λ i. Asks (step slots i (2 ^ bit_of x.number) 0 none) m) has tt place
    (λ st r here _ fits. ask (turn_of m x has.1 id st r here) few not_yet fits slots m.1)

pub decides_keep : DecidesKeep Decides
decides_keep k slots id i m x has few asked place = by_turn slots (λ k. x.asked ≡ Covered (groups_in (range_at_start k).1)) (λ _. question_place) (λ word. word)
    (λ i. Decides (step slots i 0 0 none) m) has asked place
    (λ st r here is _. tell (turn_of m x has.1 id st r here) few is slots m.1)
