-- A pass stores the label of the file that it places, and loads that of the file that it holds.
use Rattle.fx_lasting.proofs.{◌≡◌, ◌≢◌, ℕ, ◌+◌, ◌<◌, ◌≤◌, List, [], set, sym, refl, ap, ◌∙◌, subst, arith, Option, Some, ⊎_elim, none, keeps, step}
use Rattle.fx_lasting.proofs.{length-set, get_or-set_other, get_or-set_same, Closed, File, Agrees, WorkAgrees, HoldsAt, Labels, slots_of, nodes_of}
use Rattle.fx_lasting.proofs.{slot_place, group_place, list_place, question_place, word_of, hold_word_of, HoldsBesides, tag_word_of, number_word_of}
use Rattle.fx_lasting.proofs.{held_in, taken_of, taking, HoldsOn, Phase, placed, owner, file_in, written_in, changed_here, sum_set, Work, Placing}
use Rattle.fx_lasting.proofs.{Placement, Written, as_written, Unlabelled, Tag, Label, label_of, number_of_mark, Goes, Log, first_log, Tags, Numbers}
use Rattle.fx_lasting.proofs.{ReadsTag, ReadsNumber, TagsKeep, RecallsTag, RecallsTagKeep, NumbersKeep, ReadsTagKeep, ReadsNumberKeep, inl}
use Rattle.fx_lasting.proofs.{grows_none, busy, does_now, written_of, end_read, passed, Turn, turn_of, After, word_at, slot_word, LabelSame, Made}
use Rattle.fx_lasting.proofs.{by_turn, its_log, its_work, tells, tells_less, w, end, in_phase}
use Rattle.fx_lasting.proofs.hold_lemmas.Holds.{on_node}
use Rattle.fx_lasting.proofs.range_lemmas.GroupSteps.{its_inside}
use Rattle.fx_lasting.proofs.Calm.{read_before, read_before_kept}
use Rattle.fx_lasting.proofs.Peeking.{still}
use Rattle.fx_lasting.proofs.node_lemmas.NodeSteps.{own_after, own_node_kept}

-- the file that a pass holds beside the one that it places
pub held_besides : {d : Work} {f : File} {n own : ℕ} {l : Placement} → HoldsBesides d f n own l → held_in d ≡ Some f
held_besides is = ⊎_elim (λ e. ap held_in e) (λ e. ap held_in e) is

-- the file that a pass holds
held_file : {d : Work} {f : File} {n : ℕ} → HoldsOn d f n → held_in d ≡ Some f
held_file holds = ⊎_elim (λ is. ap held_in is) (λ z. ⊎_elim (λ is. ap held_in is) (λ is. held_besides is.2) z) holds

-- the file that a pass is about to install, and the tag that is written
abbrev placement_in : Work → Placement
placement_in (Placing n l) = l
placement_in _ = as_written 0 Unlabelled

abbrev tag_in : Written → ℕ
tag_in (Tag t) = t
tag_in _ = 0

module _ (turn : Turn) where
  open turn use {st, v, r, id, x, here, one}

  -- The pass has the place of the node, and stores one word of its label
  module _ (n : ℕ) (l : Placement) (works : v.work ≡ Placing n l) (place new : ℕ) (low : word_of v.start n < place) (high : place < word_of v.start n + 4)
      (l' : Placement) (as_many : l'.lost ≡ l.lost) where
    its : (n < nodes_of v.start) × (r.phase n ≡ placed id l)
    its = subst (WorkAgrees v.start r.phase id) works (its_work turn)

    abbrev words' : List ℕ
    words' = set st.words place new

    same : (other : ℕ) → other ≢ place → word_at words' other ≡ word_at st.words other
    same other apart = get_or-set_other st.words place other new 0 apart

    same_slots : (s : ℕ) → s < slots_of v.start → slot_word words' s ≡ slot_word st.words s
    same_slots s inside = same (slot_place s) (λ bad. omega (arith, bad, low, inside))

    same_hold : (p : ℕ) → p ≤ v.start.passes → word_at words' (hold_word_of v.start p) ≡ word_at st.words (hold_word_of v.start p)
    same_hold p few = same (hold_word_of v.start p) (λ bad. omega (arith, bad, low, few))

    same_node : (m : ℕ) → word_at words' (word_of v.start m) ≡ word_at st.words (word_of v.start m)
    same_node m = same (word_of v.start m) (λ bad. omega (arith, bad, low, high))

    abbrev stored_after : After turn
    stored_after = own_after turn n its.0 (placed id l') r.history words' st.homes (Placing n l')

    stored : ((m : ℕ) → m ≢ n → LabelSame v.start words' st.words m) → Labels v.start words' n l'.written → Agrees v.start (end turn stored_after)
    stored else label = let o = its_log turn in let node = in_phase turn its.0 its.1 in
        own_node_kept turn n its.0 (placed id l') r.history words' st.homes (Placing n l') record {
          leaves_else = record {
            as_long = length-set st.words place new;
            slots = same_slots;
            alike = (same question_place (λ bad. omega (arith, bad, low)), λ g few. same (group_place g) (λ bad. omega (arith, bad, low, few)));
            lists = λ p few. same (list_place p) (λ bad. omega (arith, bad, low, few));
            nodes = λ m other. same_node m;
            labels = else;
          };
          hold_words = same_hold;
          homes = refl;
          home_else = λ m inside other. refl;
          mine = inl (ap owner its.1);
          empty = ap file_in its.1;
          still_empty = refl;
          node = let t = sum_set (taken_of n) st.views id v (w turn stored_after) here in let a = ap (taking n) works in let b = node.untaken in record {
            counts = ap (λ (z : ℕ). z + l'.lost) (same_node n) ∙ (ap (λ (z : ℕ). word_at st.words (word_of v.start n) + z) as_many ∙ node.counts);
            few_lost = let e = as_many in let f = node.few_lost in omega arith;
            at_home = node.at_home;
            untaken = omega arith;
            unowed = node.unowed;
          };
          known = does_now st.views id v (w turn stored_after) (Placing n l') here refl;
          label = label;
          holds = sym (ap held_in works);
          taken = λ m. sym (ap (taking m) works);
          free_else = λ m other bad. let a = ap busy works in other (omega arith);
          allowed = rw works at o.allowed;
          hold = rw works at o.hold;
          guarded = tt;
          work = (its.0, changed_here r.phase n (placed id l') n refl);
        } ([], refl) refl

    goes : (carried : List (ℕ × Option Closed)) → Goes (v, carried) [] (Placing n l') v.glance (w turn stored_after, carried)
    goes carried = record { stepped = tells turn stored_after refl carried carried [] (grows_none x.number r.history) r.life.legal refl its.0; carried = refl }

  -- The tag's word has this tag after the step
  module _ (n lost t : ℕ) (u : Written) (works : v.work ≡ Placing n (as_written lost u)) where
    abbrev tag_place : ℕ
    tag_place = tag_word_of v.start n

    low_tag : word_of v.start n < tag_place
    low_tag = omega arith

    high_tag : tag_place < word_of v.start n + 4
    high_tag = omega arith

    abbrev tagged_after : After turn
    tagged_after = stored_after n (as_written lost u) works tag_place t low_tag high_tag (as_written lost (Tag t)) refl

    tagged : Agrees v.start (end turn tagged_after)
    tagged = let inside = (its n (as_written lost u) works tag_place t low_tag high_tag (as_written lost (Tag t)) refl).0 in
        stored n (as_written lost u) works tag_place t low_tag high_tag (as_written lost (Tag t)) refl
        (λ m other. (
          get_or-set_other st.words tag_place (tag_word_of v.start m) t 0 (λ bad. other (omega (arith, bad))),
          get_or-set_other st.words tag_place (number_word_of v.start m) t 0 (λ bad. omega (arith, bad)),
        ))
        (get_or-set_same st.words tag_place t 0 (omega (arith, r.shape.words, inside)))

    tag_goes : (carried : List (ℕ × Option Closed)) (m more : ℕ) (u' : Written) → v.work ≡ Placing m (as_written more u')
        → Goes (v, carried) [] (Placing m (as_written more (Tag t))) v.glance (w turn tagged_after, carried)
    tag_goes carried m more u' works' = grind (
      arith,
      goes,
      low_tag,
      high_tag,
      goes n (as_written lost u) works tag_place t low_tag high_tag (as_written lost (Tag t)) refl carried,
    )

    tag : (slots : ℕ) (carried : List (ℕ × Option Closed))
        → Made turn carried (tag_word_of v.start n) (λ _. t) (λ _. Tags (step slots (tag_word_of v.start n) t 0 none) (v, carried) t)
    tag slots carried = (w turn tagged_after, keeps, tt, tagged, record { goes = tag_goes carried })

  -- the tag that it has already
  recall : (n lost : ℕ) (works : v.work ≡ Placing n (as_written lost Unlabelled)) (slots : ℕ) (carried : List (ℕ × Option Closed))
      → Made turn carried (tag_word_of v.start n) (λ word. word) (RecallsTag (step slots (tag_word_of v.start n) 0 0 none) (v, carried))
  recall n lost works slots carried = let t = word_at st.words (tag_word_of v.start n) in (
    w turn (tagged_after n lost t Unlabelled works),
    keeps,
    tt,
    tagged n lost t Unlabelled works,
    record { goes = λ m more works'. tag_goes n lost t Unlabelled works carried m more Unlabelled works' },
  )

  -- the number
  number : (n lost t number : ℕ) → v.work ≡ Placing n (as_written lost (Tag t)) → (slots : ℕ) (carried : List (ℕ × Option Closed))
      → Made turn carried (number_word_of v.start n) (λ _. number)
      (λ _. Numbers (step slots (number_word_of v.start n) number 0 none) (v, carried) number)
  number n lost t new works slots carried = let place = number_word_of v.start n in
      let low : word_of v.start n < place = omega arith in let high : place < word_of v.start n + 4 = omega arith in
      let at = its n (as_written lost (Tag t)) works place new low high (as_written lost (Label t new)) refl in (
        w turn (stored_after n (as_written lost (Tag t)) works place new low high (as_written lost (Label t new)) refl),
        keeps,
        tt,
        stored n (as_written lost (Tag t)) works place new low high (as_written lost (Label t new)) refl
            (λ m other. (
              get_or-set_other st.words place (tag_word_of v.start m) new 0 (λ bad. omega (arith, bad)),
              get_or-set_other st.words place (number_word_of v.start m) new 0 (λ bad. other (omega (arith, bad))),
            )) (
              get_or-set_other st.words place (tag_word_of v.start n) new 0 (λ bad. omega (arith, bad))
                  ∙ subst (λ (ph : Phase). Labels v.start st.words n (written_in ph)) at.1 (r.nodes.labels n at.0),
              get_or-set_same st.words place new 0 (omega (arith, r.shape.words, at.0)),
            ),
        record {
          goes = λ m more u works'. let e : n ≡ m = cc (sym works ∙ works') in let f : t ≡ u = ap (λ (d : Work). tag_in (placement_in d).written) (sym works ∙ works') in
              let g : lost ≡ more = ap (λ (d : Work). (placement_in d).lost) (sym works ∙ works') in rw (← e, ← f, ← g) (goes n (as_written lost (Tag t)) works place new low high (as_written lost (Label t new)) refl carried);
        },
      )

  -- The pass holds the file of the node
  module _ (f : File) (n : ℕ) (holds : HoldsOn v.work f n) where
    held_at : (g : File) (m : ℕ) → HoldsOn v.work g m → HoldsAt v.start r.phase g m
    held_at g m its = grind (arith, its_work, placed)

    its_file : HoldsAt v.start r.phase f n
    its_file = held_at f n holds

    its_label : Labels v.start st.words n (label_of f.identity)
    its_label = subst (Labels v.start st.words n) (written_of (r.phase n) its_file.1) (r.nodes.labels n its_file.0)

    same_file : (g : File) (m : ℕ) → HoldsOn v.work g m → f ≡ g
    same_file g m its = let e = sym (held_file holds) ∙ held_file its in cc e

    loads : (i : ℕ) → Agrees v.start (end_read turn (read_before turn v.work v.glance r.history x.front) i)
    loads i = read_before_kept turn v.work v.glance x.front i (passed turn).seen (passed turn).own (still turn)

    sees : (carried : List (ℕ × Option Closed)) → Goes (v, carried) [] v.work v.glance (w turn (read_before turn v.work v.glance r.history x.front), carried)
    sees carried = record {
      stepped = tells_less turn (read_before turn v.work v.glance r.history x.front) refl carried carried refl (its_inside turn);
      carried = refl;
    }

    reads_tag : (slots : ℕ) (carried : List (ℕ × Option Closed))
        → Made turn carried (tag_word_of v.start n) (λ word. word) (ReadsTag (step slots (tag_word_of v.start n) 0 0 none) (v, carried))
    reads_tag slots carried = (
      w turn (read_before turn v.work v.glance r.history x.front),
      keeps,
      tt,
      loads (tag_word_of v.start n),
      record {
        goes = sees carried;
        front = ap (λ (l : List Log). (first_log l).front) (sym one);
        tag = λ g m its. its_label.0 ∙ ap (λ (h : File). h.identity.tag) (same_file g m its);
      },
    )

    reads_number : (slots : ℕ) (carried : List (ℕ × Option Closed))
        → Made turn carried (number_word_of v.start n) (λ word. word) (ReadsNumber (step slots (number_word_of v.start n) 0 0 none) (v, carried))
    reads_number slots carried = (
      w turn (read_before turn v.work v.glance r.history x.front),
      keeps,
      tt,
      loads (number_word_of v.start n),
      record {
        goes = sees carried;
        front = ap (λ (l : List Log). (first_log l).front) (sym one);
        number = λ g m its. its_label.1 ∙ ap (λ (h : File). number_of_mark h.identity.mark) (same_file g m its);
        node = λ g m its. let at = held_at g m its in on_node v.start st r m g (r.phase m) at.1 (r.nodes.each m at.0);
      },
    )

pub tags_keep : TagsKeep Tags
tags_keep k slots id i n lost t u m x has works place = by_turn slots (λ _. Unit {0}) (λ k. tag_word_of k n) (λ _. t)
    (λ i _. Tags (step slots i t 0 none) m t) has tt place
    (λ st r here _ fits. tag (turn_of m x has.1 id st r here) n lost t u works slots m.1)

pub recalls_tag_keep : RecallsTagKeep RecallsTag
recalls_tag_keep k slots id i n lost m x has works place = by_turn slots (λ _. Unit {0}) (λ k. tag_word_of k n) (λ word. word)
    (λ i. RecallsTag (step slots i 0 0 none) m) has tt place
    (λ st r here _ fits. recall (turn_of m x has.1 id st r here) n lost works slots m.1)

pub numbers_keep : NumbersKeep Numbers
numbers_keep k slots id i n lost t new m x has works place = by_turn slots (λ _. Unit {0}) (λ k. number_word_of k n) (λ _. new)
    (λ i _. Numbers (step slots i new 0 none) m new) has tt place
    (λ st r here _ fits. number (turn_of m x has.1 id st r here) n lost t new works slots m.1)

pub reads_tag_keep : ReadsTagKeep ReadsTag
reads_tag_keep k slots id i n f m x has holds place = by_turn slots (λ _. Unit {0}) (λ k. tag_word_of k n) (λ word. word)
    (λ i. ReadsTag (step slots i 0 0 none) m) has tt place
    (λ st r here _ fits. reads_tag (turn_of m x has.1 id st r here) f n holds slots m.1)

pub reads_number_keep : ReadsNumberKeep ReadsNumber
reads_number_keep k slots id i n f m x has holds place = by_turn slots (λ _. Unit {0}) (λ k. number_word_of k n) (λ word. word)
    (λ i. ReadsNumber (step slots i 0 0 none) m) has tt place
    (λ st r here _ fits. reads_number (turn_of m x has.1 id st r here) f n holds slots m.1)
