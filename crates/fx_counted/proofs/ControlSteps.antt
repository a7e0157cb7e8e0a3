-- The control word: its count of full slots, and the steps that change no slot and no number.
use Rattle.fx_counted.proofs.Words.{seats, full_all, full_else, full_few, full_here, ◌≡◌, ◌≢◌, ℕ, zero, suc, ◌+◌, ◌<◌, ◌≤◌, List, set, sym, refl, ap}
use Rattle.fx_counted.proofs.Words.{◌⊎◌, arith, Option, IsSome, dite, some, ℕ_discrete, get_elem?, changed_at, File, sum_set, in_change, added, Same}
use Rattle.fx_counted.proofs.Words.{removed_by, changes_of, added_of, removed_of, if_full, full_in, ControlCounts, turned, Change, Outside, View, ◌∙◌}
use Rattle.fx_counted.proofs.Words.{length, held_by, State, Event, range_of, Agrees, looks, all_looks, word_of, control_place, draw_place, slot_place}
use Rattle.fx_counted.proofs.Words.{opening_of, IsNumber, state_after_all, Log, Start, Work, sum_by, ◌-◌, ◌%◌, ◌^◌, [], ◌∷◌, get_or-set_other, ℤ}
use Rattle.fx_counted.proofs.Words.{none, some-injective, some-ne-none, keeps, step, sum_by-cons, Closed, Full, no_use, event_of, sum_at, sum_le_at}
use Rattle.fx_counted.proofs.Words.{one_change, full_word_of, WorkAgrees, lengths, shown, IsInside, Stepped, GoesOn, SaysFull, Phase, Shared, Bool}
use Rattle.fx_counted.proofs.Words.{BeginsKeep, EndsKeep, AnswersKeep, true, end_amount_of, InRange, HasToReport, HasPass, MayChange, Sat, begun}
use Rattle.fx_counted.proofs.Words.{difference, Allows, rules}
use Rattle.fx_counted.proofs.Steps.{sees_now, stays_same, owner_same, Grows, grows_none, IsHistory, Turn, word_at, now, logged, its_log, its_work, step_kept}
use Rattle.fx_counted.proofs.Steps.{log_now, slot_same, draws_same, grows_one, legal_more, held_mine, same_shape, turn_of, by_turn, went, tells_none}
use Rattle.fx_counted.proofs.Steps.{tells_one, near, far}
use Rattle.fx_counted.proofs.LettingGo.{sub_wraps}

-- a slot's place relative to the range, and the change of the pass afterwards
abbrev pub Stands : ℕ × ℕ → ℕ → Change → Type 0
Stands range s change = (((range.0 ≤ s) × (s < range.0 + range.1)) × (change ≡ Same))
    ⊎ (((s < range.0) ⊎ (range.0 + range.1 ≤ s)) × (change ≡ Outside))

pub control_swap : (at : ℕ → Option File) {range : ℕ × ℕ} {views : List View} (id : ℕ) {v : View} (w : View) {word : ℕ} (s : ℕ)
    (old new : Option File) → get_elem? views id ≡ some v → at s ≡ old → Stands range s v.change
    → w.change ≡ turned v.change (if_full old) (if_full new) → ControlCounts at range views word
    → ControlCounts (changed_at at s new) range (set views id w) word
control_swap at {range} {views} id {v} w s old new here was stands is ok =
    let a = sum_set changes_of views id v w here in grind (arith, sum_set, full_here, full_else, removed_by)

-- Steps that change no slot and no number keep the rule: begin, end, answer and load.
-- A step that changes no slot and no number, and leaves the pass at its work.
module _ (turn : Turn) (h' : List Event) where
  open turn use {st, v, r, id, x, here, one}

  -- the history has no new event
  pub record Quiet : Type 0 where
    pub grows : Grows x.number r.history h'
    pub legal : IsHistory v.start h'
    pub state : state_after_all v.start h' ≡ state_after_all v.start r.history
    pub looked : looks h' ≡ looks r.history
    pub all : all_looks h' ≡ all_looks r.history
    pub held : held_by h' x.number ≡ held_by r.history x.number

  module _ (c : Change) (words' : List ℕ) where
    abbrev pub y : Log
    y = logged x h' x.numbers_left x.looks_left

    abbrev w : View
    w = now v y v.work c

    pub record Calm : Type 0 where
      pub quiet : Quiet
      pub words : length words' ≡ length st.words
      pub slots : (s : ℕ) → word_at words' (slot_place s) ≡ word_at st.words (slot_place s)
      pub nodes : (n : ℕ) → IsNumber v.start n → word_at words' (word_of v.start n) ≡ word_at st.words (word_of v.start n)
      pub drawn : word_at words' draw_place ≡ word_at st.words draw_place
      pub control : ControlCounts (state_after_all v.start r.history).at (range_of (opening_of v.start))
          (set st.views id w) (word_at words' control_place)

    module _ (p : Calm) where
      pub calm_agrees : Agrees v.start record { words = words'; homes = st.homes; views = set st.views id w }
      calm_agrees = let o = its_log turn in step_kept turn y v.work c h' r.phase words' st.homes record {
        words = p.words;
        homes = refl;
        number = refl;
        grows = p.quiet.grows;
        legal = p.quiet.legal;
        slots = λ s l. grind (arith, slot_same);
        nodes = λ n has. rw (p.quiet.state, p.quiet.looked, p.nodes n has) (r.each_node n has);
        owners = λ n has. owner_same st.views id v w here refl n (r.phase n) (r.each_owner n has);
        no_other = λ n absent. ap (λ (z : State). z.removed n) p.quiet.state ∙ r.no_other n absent;
        stays = stays_same id x.number r.phase;
        keeps = λ j u f other there holds. refl;
        seen = sees_now turn h' x.numbers_left x.looks_left;
        log = log_now turn (omega arith) (p.quiet.held ∙ o.held) o.next o.spares;
        work = its_work turn;
        holds = λ n. let e = ap (λ (z : State). z.holds n) p.quiet.state in omega arith;
        look_ups = let a = p.quiet.all in omega arith;
        control = rw p.quiet.state p.control;
        draws = draws_same st.views id v w here one refl refl refl p.drawn (λ n is. is) r.draws;
      }

module _ (turn : Turn) where
  open turn use {st, v, r, id, x, here, one}

  pub no_event : Quiet turn r.history
  no_event = record { grows = grows_none x.number r.history; legal = r.life.legal; state = refl; looked = refl; all = refl; held = refl }

-- the part of one of them in the gap between two totals
pub total_gap : {X : Type 0} {f g : X → ℕ} (xs : List X) (i : ℕ) {v : X} → get_elem? xs i ≡ some v
    → ((j : ℕ) (x : X) → get_elem? xs j ≡ some x → f x ≤ g x) → sum_by f xs + g v ≤ sum_by g xs + f v
total_gap [] i {v} e each = absurd (some-ne-none v (sym e))
total_gap {f} {g} (x ∷ xs) zero {v} e each = let p : f x ≡ f v = ap f (some-injective x v e) in
    let q : g x ≡ g v = ap g (some-injective x v e) in let c = sum_by-cons f x xs in let d = sum_by-cons g x xs in
    let b = sum_le_at f g xs (λ j y d. each (suc j) y d) in omega arith
total_gap {f} {g} (x ∷ xs) (suc i) {v} e each = let a = each 0 x refl in let c = sum_by-cons f x xs in
    let d = sum_by-cons g x xs in let b = total_gap xs i e (λ j y d. each (suc j) y d) in omega arith

-- a pass has a difference to report only in a change, and at most one slot
pub at_most_one : (c : Change) → (in_change c ≤ 1) × (added c ≤ in_change c) × (removed_by c ≤ in_change c)
at_most_one c = grind arith

is_inside : (k : Start) (phase : ℕ → Phase) (seat : ℕ) (d : Work) → WorkAgrees k phase seat d → IsInside k d
is_inside k phase seat d o = grind arith

module _ (k : Start) (s : Shared) (r : Agrees k s) where
  -- a seat without a pass is in no change
  pub few_changes : (j : ℕ) (u : View) → get_elem? s.views j ≡ some u → changes_of u ≤ lengths seats u
  few_changes j u there = go u.logs refl
    where
      go : (l : List Log) → u.logs ≡ l → in_change u.change ≤ length u.logs
      go [] is = let a = ap in_change ((r.life.seats j u there).empty is).1 in omega arith
      go (z ∷ l) is = let a = at_most_one u.change in let b = ap (length {A = Log}) is in omega arith

  pub few_full : full_in (state_after_all k r.history).at (range_of (opening_of k)).0 (range_of (opening_of k)).1 ≤ 256
  few_full = grind (arith, full_few)

  pub few_removed : sum_by removed_of s.views ≤ sum_by changes_of s.views
  few_removed = sum_le_at removed_of changes_of s.views (λ j u e. (at_most_one u.change).2)

  pub few_added : sum_by added_of s.views ≤ sum_by changes_of s.views
  few_added = sum_le_at added_of changes_of s.views (λ j u e. (at_most_one u.change).1)

module _ (turn : Turn) where
  open turn use {st, v, r, id, x, here, one}

  abbrev word : ℕ
  word = word_at st.words control_place

  abbrev at_now : ℕ → Option File
  at_now = (state_after_all v.start r.history).at

  abbrev range : ℕ × ℕ
  range = range_of (opening_of v.start)

  pub its_inside : IsInside v.start v.work
  its_inside = is_inside v.start r.phase id v.work (its_work turn)

  -- fewer than 16 are in a change beside this pass
  pub few_others : sum_by changes_of st.views + 1 ≤ 16 + in_change v.change
  few_others = omega (arith, total_gap st.views id here (few_changes v.start st r), r.life.whole, r.shape.passes, ap (length {A = Log}) one)

  wide : control_place < length st.words
  wide = let a = r.shape.words in let b = (near turn).control in omega arith

  -- the value that is written to the control word
  module _ (y : ℕ) where
    abbrev words' : List ℕ
    words' = set st.words control_place y

    read_else : (place : ℕ) → place ≢ control_place → word_at words' place ≡ word_at st.words place
    read_else place other = get_or-set_other st.words control_place place y 0 other

    wrote : {h' : List Event} (c : Change) → Quiet turn h' → ControlCounts at_now range (set st.views id (went turn h' v.work c)) y
        → Agrees v.start record { words = words'; homes = st.homes; views = set st.views id (went turn h' v.work c) }
    wrote c quiet control = search (rules, far, calm_agrees, read_else, set, went, wide)

  abbrev e : Event
  e = event_of (shown x v.work) Full

  -- with the event that every slot of the range is full
  told_full : ((slot : ℕ) → range.0 ≤ slot → slot < range.0 + range.1 → IsSome (at_now slot)) → Quiet turn (e ∷ r.history)
  told_full each = let all : all_looks (e ∷ r.history) ≡ all_looks r.history = omega arith in
      let legal : IsHistory v.start (e ∷ r.history) = grind (arith, legal_more, same_shape) in
      assumption (grows_one x.number r.history e refl, legal, all, held_mine e r.history refl)

  pub goes_on : (c : Change) (carried : List (ℕ × Option Closed)) → Stepped (v, carried) [] no_use v.work c (went turn r.history v.work c, carried)
  goes_on c carried = tells_none turn carried carried c its_inside

  module _ (fits : word < 18446744073709551616) where
    begin_counts : v.change ≡ Outside → ControlCounts at_now range (set st.views id (went turn r.history v.work Same)) ((word + one_change) % 2 ^ 64)
    begin_counts out = grind (arith, sum_set, few_others)

    -- the difference is reported: `amount` is 2^32 minus the difference
    end_counts : (h' : List Event) (amount : ℕ) → in_change v.change ≡ 1 → amount + added v.change ≡ one_change + removed_by v.change
        → ControlCounts at_now range (set st.views id (went turn h' v.work Outside)) ((word + (2 ^ 64 - amount)) % 2 ^ 64)
    end_counts h' amount in_now amount_is = let w = went turn h' v.work Outside in
        grind (arith, few_others, sum_at, at_most_one, sub_wraps, sum_set changes_of st.views id v w here, sum_set added_of st.views id v w here, sum_set removed_of st.views id v w here, r.control.upper, r.control.lower, few_full v.start st r, few_removed v.start st r, few_added v.start st r)

    -- a word that says so: this pass alone is in a change, and every slot of the range is full
    says_so : v.change ≡ Same → word ≡ full_word_of range.1 → (slot : ℕ) → range.0 ≤ slot → slot < range.0 + range.1 → IsSome (at_now slot)
    says_so same is = let a = total_gap st.views id here (λ j u e. (at_most_one u.change).1) in
        let b = total_gap st.views id here (λ j u e. (at_most_one u.change).2) in grind (arith, removed_by, full_all)

pub begins_keep : BeginsKeep
begins_keep k slots id i m x has out place = by_turn slots (λ _. Unit {0}) (λ _. control_place) (λ word. (word + one_change) % 2 ^ 64)
    (λ i. GoesOn Same (step slots i one_change 0 none) m) has tt place (λ st r here _ fits. let turn = turn_of m x has.1 id st r here in (
      went turn r.history m.0.work Same,
      keeps,
      tt,
      wrote turn _ Same (no_event turn) (begin_counts turn fits out),
      record { stepped = goes_on turn Same m.1; carried = refl },
    ))

pub ends_keep : EndsKeep
ends_keep k slots id i amount m x has in_now amount_is place = by_turn slots (λ _. Unit {0}) (λ _. control_place)
    (λ word. (word + (2 ^ 64 - amount)) % 2 ^ 64) (λ i. GoesOn Outside (step slots i amount 0 none) m) has tt place
    (λ st r here _ fits. let turn = turn_of m x has.1 id st r here in (
      went turn r.history m.0.work Outside,
      keeps,
      tt,
      wrote turn _ Outside (no_event turn) (end_counts turn fits r.history amount in_now amount_is),
      record { stepped = goes_on turn Outside m.1; carried = refl },
    ))

pub answers_keep : AnswersKeep
answers_keep k slots id i m x has same place = by_turn slots (λ _. Unit {0}) (λ _. control_place)
    (λ word. (word + (2 ^ 64 - one_change)) % 2 ^ 64) (λ i. SaysFull (step slots i one_change 0 none) m) has tt place
    (λ st r here _ fits. let turn = turn_of m x has.1 id st r here in
    let counts = λ (h' : List Event). end_counts turn fits h' one_change (ap in_change same)
    (let a = ap added same in let b = ap removed_by same in omega arith) in
    dite (ℕ_discrete (word turn) (full_word_of (range turn).1))
    (λ says. let each = says_so turn fits same says in (
      went turn (e turn ∷ r.history) m.0.work Outside,
      keeps,
      tt,
      wrote turn _ Outside (told_full turn each) (counts (e turn ∷ r.history)),
      record {
        full = λ _. tells_one turn (told_full turn each).legal m.1 m.1 Outside (its_inside turn);
        not_full = λ not_so. absurd (not_so says);
        carried = refl;
      },
    ))
    (λ not_so. (
      went turn r.history m.0.work Outside,
      keeps,
      tt,
      wrote turn _ Outside (no_event turn) (counts r.history),
      record { full = λ says. absurd (not_so says); not_full = λ _. goes_on turn Outside m.1; carried = refl },
    )))

-- The difference that a pass reports for a slot that it changes.
amount_told : (c : Change) {delta : ℤ} {amount : ℕ} → in_change c ≡ 1 → difference c ≡ delta → amount ≡ end_amount_of delta
    → amount + added c ≡ one_change + removed_by c
amount_told c one d e = grind arith

pub ends_by : {k : Start} (slots id : ℕ) {i amount : ℕ} {delta : ℤ} {m : Sat} {x : Log} → HasPass k m x → HasToReport true delta m.0.change
    → amount ≡ end_amount_of delta → i ≡ control_place
    → Allows (Agrees k) slots id m i (λ word. (word + (2 ^ 64 - amount)) % 2 ^ 64) (GoesOn Outside (step slots i amount 0 none) m)
ends_by slots id its tells is place = search (rules, ends_keep, amount_told)

-- a pass that began a change where it had to may change the slot
pub may_change : (k : Start) {slot : ℕ} (began : Bool) {c : Change} → InRange k slot began → c ≡ begun began → MayChange k slot c
may_change k began range is = grind arith
