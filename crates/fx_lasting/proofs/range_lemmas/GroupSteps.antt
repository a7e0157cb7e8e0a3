-- Steps on the words that count full slots keep the rule.
use Rattle.fx_lasting.proofs.{◌≡◌, ◌≢◌, ℕ, ◌+◌, ◌<◌, ◌≤◌, List, [], ◌∷◌, set, length, sym, refl, ap, ◌∙◌, subst, arith, Option, IsSome, dite}
use Rattle.fx_lasting.proofs.{get_or-set_other, get_or-set_same, some, none, ℕ_discrete, get_elem?, keeps, step, sum_by, Closed, File, Full, Event}
use Rattle.fx_lasting.proofs.{pass_event, range_at_start, Agrees, RangeCounts, lengths, owing, question_place, group_place, group_len}
use Rattle.fx_lasting.proofs.{groups_in, slot_place, word_of, hold_word_of, slots_of, list_place, state_after_all, Change, Outside, Lowered, Inside}
use Rattle.fx_lasting.proofs.{Log, Start, View, Shared, IsInside, Goes, Stepped, Lowers, Raises, as_asked, LowersKeep, RaisesKeep, CountsKeep}
use Rattle.fx_lasting.proofs.{IsGroup, length-set, inl, held_by, Survey, Covered, Sat, HasVisitedFull, part_of_pass, Watch, WatchAgrees}
use Rattle.fx_lasting.proofs.{HasGap, seats, spent, inr, ◌⊎◌, first_log, lowered, raised, RANGE_END, grows_one, legal_more, held_mine, same_shape}
use Rattle.fx_lasting.proofs.{sees_same, guards_same, covers_same, label_same, Turn, turn_of, After, word_at, slot_word, Made, by_turn, its_log}
use Rattle.fx_lasting.proofs.{its_work, in_range, tells, met_same, tells_asked, LeavesFiles, none_added, asks_alike, few_slots, logged, w, end}
use Rattle.fx_lasting.proofs.{watch_same, few_groups, group_back}
use Rattle.fx_lasting.proofs.Words.{Counts}
use Rattle.table_range.proofs.Owing.{owing_few, others_owe, more_full, group_gap}
use Rattle.table_range.proofs.Steps.{IsWritten, counts_lowered, counts_raised, counts_read, visited}
use Rattle.fx_lasting.proofs.Calm.{calm_after, calm_kept}

-- A seat without a pass owes nothing
module _ (k : Start) (s : Shared) (r : Agrees k s) where
  pub idle : (j : ℕ) (u : View) → get_elem? s.views j ≡ some u → u.logs ≡ [] → u.change ≡ Outside
  idle j u there is = ((r.life.seats j u there).empty is).2

  pub owing_most : (g : ℕ) → sum_by (λ (u : View). owing g u.change) s.views ≤ 1024
  owing_most g = let a : sum_by (λ (u : View). owing g u.change) s.views ≤ sum_by lengths s.views =
      owing_few (λ (u : View). u.logs) (λ (u : View). u.change) s.views idle g in omega (arith, a, r.life.whole, r.shape.passes)

-- A step that leaves the pass at its work
module _ (turn : Turn) where
  open turn use {st, v, r, id, x, here, one}

  abbrev pub at_now : ℕ → Option File
  at_now = (state_after_all v.start r.history).at

  abbrev pub range : ℕ × ℕ
  range = range_at_start v.start

  pub its_inside : IsInside v.start v.work
  its_inside = grind arith

  -- nothing is learned, or that the range is full
  pub record Quiet (h' : List Event) : Type 0 where
    pub files : LeavesFiles turn h'
    pub holds : (state_after_all v.start h').holds ≡ (state_after_all v.start r.history).holds
    pub held : held_by h' x.number ≡ held_by r.history x.number

  pub no_event : Quiet r.history
  no_event = record { files = none_added turn; holds = refl; held = refl }

  abbrev pub h₁ : List Event
  h₁ = pass_event x Full ∷ r.history

  pub told_full : ((slot : ℕ) → range.0 ≤ slot → slot < range.0 + range.1 → IsSome (at_now slot)) → Quiet h₁
  told_full each = grind (arith, grows_one, legal_more, in_range, same_shape, held_mine)

  -- a step on a word that counts or asks: the word becomes y
  pub record RangeStep : Type 0 where
    pub place : ℕ
    pub low : place < RANGE_END
    pub unlisted : 6 ≤ place → 22 ≤ place
    pub y : ℕ
    pub change : Change
    pub asked : Survey
    pub watch : Watch
    pub more : x.watch.met ≤ watch.met
    pub h : List Event

  module _ (p : RangeStep) where
    abbrev pub words' : List ℕ
    words' = set st.words p.place p.y

    pub written : IsWritten st.words words' p.place p.y
    written = record {
      here = get_or-set_same st.words p.place p.y 0 (omega (arith, r.shape.words, p.low));
      others = λ other apart. get_or-set_other st.words p.place other p.y 0 apart;
    }

    -- all words are as they were, if this one is
    pub alike : p.y ≡ word_at st.words p.place → (other : ℕ) → word_at words' other ≡ word_at st.words other
    alike is other = dite (ℕ_discrete other p.place) (λ e. subst (λ (i : ℕ). word_at words' i ≡ word_at st.words i) (sym e) (written.here ∙ is))
        (λ apart. written.others other apart)

    abbrev pub turn_after : After turn
    turn_after = calm_after turn p.h p.h words' v.work v.glance p.change p.asked x.listed (λ l. l) p.watch p.more

    abbrev pub w' : View
    w' = w turn turn_after

    abbrev pub x' : Log
    x' = logged x x.listed p.asked x.stock p.watch p.h

    -- what the step has to show
    abbrev pub Kept : Type 0
    Kept = RangeCounts at_now range (set st.views id w') words'

    pub same_slots : (s : ℕ) → s < slots_of v.start → slot_word words' s ≡ slot_word st.words s
    same_slots s l = written.others (slot_place s) (λ bad. omega (arith, bad, p.low))

    wrote : Quiet p.h → WatchAgrees v.start p.h words' x.number p.watch → Kept → Agrees v.start (end turn turn_after)
    wrote quiet watches counts = let o = its_log turn in
        let own = guards_same turn turn_after x.number v.work (written.others (hold_word_of v.start x.number) (λ bad. let a = (in_range turn).0 in omega (arith, bad, a, p.low))) refl
        (covers_same turn words' same_slots x.number) o.hold o.guarded in
        calm_kept turn p.h p.h words' v.work v.glance p.change p.asked x.listed (λ l. l) p.watch p.more record {
          words = length-set st.words p.place p.y;
          files = quiet.files;
          seen = ([], refl);
          own = refl;
          slot_words = same_slots;
          node_words = λ n. written.others (word_of v.start n) (λ bad. omega (arith, bad, p.low));
          label_words = label_same v.start st.words p.place p.y (λ n. (λ bad. omega (arith, bad, p.low), λ bad. omega (arith, bad, p.low)));
          hold_words = λ q other more. written.others (hold_word_of v.start q) (λ bad. omega (arith, bad, more, p.low));
          counts = rw quiet.files.at counts;
          taken = λ n. refl;
          owners = inl refl;
          held = quiet.held ∙ o.held;
          allowed = o.allowed;
          lists = λ q few. inl (written.others (list_place q) (λ bad. let a = p.unlisted (omega (arith, bad)) in omega (arith, a, bad, few)));
          its_bit = λ l. inl l;
          watches = watches;
          its = record {
            hold = own.0;
            guarded = own.1;
            sees = sees_same v.start (λ s. r.deed s x.number) same_slots v.glance o.sees;
            heats = o.heats;
            work = its_work turn;
          };
          holds = λ n. let e = ap (λ (f : ℕ → ℕ). f n) quiet.holds in omega arith;
        }

    -- the step, with its effect
    pub made : (carried : List (ℕ × Option Closed)) (told : ℕ → Sat → Type 0) → Quiet p.h → WatchAgrees v.start p.h words' x.number p.watch → Kept
        → told (word_at st.words p.place) (w', carried) → Made turn carried p.place (λ _. p.y) told
    made carried told quiet watches counts tells = (w', keeps, tt, wrote quiet watches counts, tells)

    -- nothing is learned
    module _ (quiet : Quiet p.h) (own : part_of_pass x.number p.h ≡ part_of_pass x.number r.history) (carried : List (ℕ × Option Closed)) where
      pub stepped_so : p.asked ≡ x.asked → Stepped (v, carried) [] v.work v.glance p.change (w', carried)
      stepped_so same = tells turn turn_after (λ i. (x.listed, same i, x.stock)) carried carried [] quiet.files.grows quiet.files.legal own its_inside

      pub goes_so : p.asked ≡ x.asked → p.change ≡ v.change → Goes (v, carried) [] v.work v.glance (w', carried)
      goes_so same still = record { stepped = subst (λ (z : Change). Stepped (v, carried) [] v.work v.glance z (w', carried)) still (stepped_so same); carried = refl }

      pub goes_asked : p.change ≡ v.change → Goes (as_asked p.asked (v, carried)) [] v.work v.glance (w', carried)
      goes_asked still = grind (arith, tells_asked, its_inside)

  -- the word of a group
  module _ (g : ℕ) (its : g < groups_in range.1) where
    low_g : group_place g < RANGE_END
    low_g = let a = few_groups range.1 (few_slots turn) in omega (arith, a, its)

    abbrev word : ℕ
    word = word_at st.words (group_place g)

    -- the pass watches what it watched, and may have met another one
    abbrev at_group : ℕ → Change → Survey → (met : ℕ) → x.watch.met ≤ met → RangeStep
    at_group y c q met more = record {
      place = group_place g;
      low = low_g;
      unlisted = λ l. omega arith;
      y = y;
      change = c;
      asked = q;
      watch = record x.watch { met = met };
      more = more;
      h = r.history;
    }

    abbrev counting : ℕ → Change → Survey → RangeStep
    counting y c q = at_group y c q x.watch.met (met_same x.watch.met)

    watches_on : (y : ℕ) (c : Change) (q : Survey) (met : ℕ) (more : x.watch.met ≤ met)
        → WatchAgrees v.start r.history (words' (at_group y c q met more)) x.number (record x.watch { met = met })
    watches_on y c q met more = let p = at_group y c q met more in
        let a = watch_same v.start x.number ([], refl) (same_slots p) ((written p).others question_place (λ bad. omega (arith, bad))) x.watch (its_log turn).watch in
        record { seen = a.seen; saw = a.saw; asks = a.asks }

    lower : (slots : ℕ) (carried : List (ℕ × Option Closed)) → v.change ≡ Outside
        → Made turn carried (group_place g) lowered (Lowers (step slots (group_place g) 1 0 none) (v, carried))
    lower slots carried out = let p = counting (lowered word) (Lowered g) x.asked in
        made p carried (Lowers (step slots (group_place g) 1 0 none) (v, carried))
        no_event (watches_on (lowered word) (Lowered g) x.asked x.watch.met (met_same x.watch.met))
        (counts_lowered r.range id (w' p) here g its (written p) (asks_alike turn (turn_after p) refl) out refl)
        record { turns = rw (group_back g) record { stepped = stepped_so p no_event refl carried refl; carried = refl } }

    raise : (slots : ℕ) (carried : List (ℕ × Option Closed)) → v.change ≡ Inside g
        → Made turn carried (group_place g) raised (Raises (step slots (group_place g) 1 0 none) (v, carried))
    raise slots carried inside = let p = counting (raised word) Outside x.asked in
        made p carried (Raises (step slots (group_place g) 1 0 none) (v, carried))
        no_event (watches_on (raised word) Outside x.asked x.watch.met (met_same x.watch.met))
        (counts_raised r.range id (w' p) here g its (written p) (asks_alike turn (turn_after p) refl) inside refl)
        record { turns = record { stepped = stepped_so p no_event refl carried refl; carried = refl } }

    -- a group that doesn't count all its slots: one has no file, or another pass owes it one
    module _ (fits : word < 18446744073709551616) where
      record Lag : Type 0 where
        pub met : ℕ
        pub more : x.watch.met ≤ met
        pub short : v.change ≡ Outside → HasGap v.start r.history ⊎ ((x.watch.met < met) × (1 < v.start.passes))

      gap : sum_by (λ (u : View). owing g u.change) st.views ≡ 0 → word ≢ group_len range.1 g → HasGap v.start r.history
      gap none_owes some_empty =
          let z = group_gap (λ (u : View). u.logs) (λ (u : View). u.change) st.views (idle v.start st r) r.range g its fits none_owes some_empty in
          record { slot = z.0; low = z.1; high = z.2; empty = z.3 }

      others : sum_by (λ (u : View). owing g u.change) st.views ≢ owing g v.change → 1 < v.start.passes
      others other = let a : 1 < sum_by lengths st.views = others_owe (λ (u : View). u.logs) (λ (u : View). u.change) st.views (idle v.start st r)
          (spent seats) refl refl g id v here (ap (length {A = Log}) one) other in omega (arith, a, r.life.whole)

      lagging : word ≢ group_len range.1 g → Lag
      lagging some_empty = dite (ℕ_discrete (sum_by (λ (u : View). owing g u.change) st.views) (owing g v.change))
          (λ same. record {
            met = x.watch.met;
            more = omega arith;
            short = λ out. inl (gap (let b = ap (owing g) out in omega (arith, same, b)) some_empty);
          })
          (λ other. record { met = x.watch.met + 1; more = omega arith; short = λ _. inr (omega arith, others other) })

    count : (slots : ℕ) (carried : List (ℕ × Option Closed)) → x.asked ≡ Covered g → word < 18446744073709551616
        → Made turn carried (group_place g) (λ word. word) (Counts (step slots (group_place g) 0 0 none) (v, carried))
    count slots carried asked fits = dite (ℕ_discrete word (group_len range.1 g))
        (λ all. let p = counting word v.change (Covered (g + 1)) in let few : sum_by lengths st.views ≤ 1024 = omega (arith, r.life.whole, r.shape.passes) in
        made p carried (Counts (step slots (group_place g) 0 0 none) (v, carried))
        no_event (watches_on word v.change (Covered (g + 1)) x.watch.met (met_same x.watch.met))
        (counts_read r.range id (w' p) here refl x (x' p) one refl refl (alike p refl) (λ low there.
        more_full (λ (u : View). u.logs) (λ (u : View). u.change) st.views (idle v.start st r) r.range g its few all
        (subst (HasVisitedFull (λ (u : View). u.change) at_now range st.views) asked (visited r.range id here one low there))))
        record {
          full = λ _. rw (group_back g) (goes_asked p no_event refl carried refl);
          less = λ other. absurd (other (all ∙ ap (group_len range.1) (sym (group_back g))));
          asks = sym (ap (λ (l : List Log). (first_log l).watch.asks) one);
          short = λ other. absurd (other (all ∙ ap (group_len range.1) (sym (group_back g))));
        })
        (λ some_empty. let lag = lagging fits some_empty in let p = at_group word v.change x.asked lag.met lag.more in
        made p carried (Counts (step slots (group_place g) 0 0 none) (v, carried))
        no_event (watches_on word v.change x.asked lag.met lag.more)
        (counts_read r.range id (w' p) here refl x (x' p) one refl refl (alike p refl) (visited r.range id here one))
        record {
          full = λ is. absurd (some_empty (is ∙ ap (group_len range.1) (group_back g)));
          less = λ _. goes_so p no_event refl carried refl refl;
          asks = sym (ap (λ (l : List Log). (first_log l).watch.asks) one);
          short = λ _ out. subst (λ (l : List Log). HasGap v.start r.history ⊎ (((first_log l).watch.met < lag.met) × (1 < v.start.passes))) (sym one) (lag.short out);
        })

pub lowers_keep : LowersKeep Lowers
lowers_keep k slots id i g m x has out its place = by_turn slots (λ k. IsGroup k g) (λ _. group_place g) lowered
    (λ i. Lowers (step slots i 1 0 none) m) has its place
    (λ st r here its _. lower (turn_of m x has.1 id st r here) g its slots m.1 out)

pub raises_keep : RaisesKeep Raises
raises_keep k slots id i g m x has inside its place = by_turn slots (λ k. IsGroup k g) (λ _. group_place g) raised
    (λ i. Raises (step slots i 1 0 none) m) has its place
    (λ st r here its _. raise (turn_of m x has.1 id st r here) g its slots m.1 inside)

pub counts_keep : CountsKeep Counts
counts_keep k slots id i g m x has asked its place = by_turn slots (λ k. IsGroup k g) (λ _. group_place g) (λ word. word)
    (λ i. Counts (step slots i 0 0 none) m) has its place
    (λ st r here its fits. count (turn_of m x has.1 id st r here) g its slots m.1 asked fits)
