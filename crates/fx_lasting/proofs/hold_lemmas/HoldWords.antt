-- Steps of a pass on its own hold word keep the rule: it announces a node, withdraws, or steps
-- down.
use Rattle.fx_lasting.proofs.{◌≡◌, ℕ, ◌+◌, ◌<◌, List, [], ◌∷◌, sym, refl, ap, ◌∙◌, subst, arith, Option, none, keeps, Closed, File, Event, Release}
use Rattle.fx_lasting.proofs.{◌▷◌, WorkAgrees, HoldAgrees, GuardAgrees, NamesNode, HoldsAt, nodes_of, hold_word_of, held_in, taking}
use Rattle.fx_lasting.proofs.{pass_event, Work, Idle, Announced, Guarded, Owing, Yielding, Hot, Announces, Withdraws, StepsDown, AnnouncesKeep}
use Rattle.fx_lasting.proofs.{WithdrawsKeep, StepsDownKeep, Goes, announced, step, inl, ⊎_elim, dite, ℕ_discrete, one_less_at, bit_here, sum_at}
use Rattle.fx_lasting.proofs.{IsInside, IsAllowed, true, ◌⊎◌, inr, alone_in, announcing, MayAnnounce, Placement, Placing, Nearing, IsIn, placed}
use Rattle.fx_lasting.proofs.{grows_none, grows_one, legal_more, part_mine, held_mine, busy, none_added, Turn, turn_of, word_at, slot_word, Made}
use Rattle.fx_lasting.proofs.{by_turn, its_log, its_work, tells, w}
use Rattle.fx_lasting.proofs.Calm.{own_words, own_after, Own, own_kept}

module _ (turn : Turn) (carried : List (ℕ × Option Closed)) where
  open turn use {st, v, r, id, x, here, one}

  abbrev word : ℕ
  word = word_at st.words (hold_word_of v.start x.number)

  -- a pass that works with no node alone
  pass_calm : (d : Work) → busy v.work ≡ 0 → (alone_in d ≡ alone_in v.work) ⊎ (busy v.work ≡ 0)
  pass_calm d none_busy = inr none_busy

  -- a step that adds nothing to the history
  goes_quiet : (new : ℕ) (d : Work) → IsInside v.start d → Goes (v, carried) [] d v.glance (w turn (own_after turn new d r.history), carried)
  goes_quiet new d inside = record {
    stepped = tells turn (own_after turn new d r.history) refl carried carried [] (grows_none x.number r.history) r.life.legal refl inside;
    carried = refl;
  }

  module _ (new : ℕ) (d : Work) (calm : (alone_in d ≡ alone_in v.work) ⊎ (busy v.work ≡ 0)) (untaken : (n : ℕ) → taking n d ≡ taking n v.work) (holds : held_in d ≡ held_in v.work) where
    quiet : HoldAgrees new (r.debt x.number) d → GuardAgrees (slot_word (own_words turn new d)) r.phase x.number (r.debt x.number) d
        → WorkAgrees v.start r.phase id d → IsAllowed x.stock x.listed d → Own turn new d r.history
    quiet hold guard work allowed = grind (arith, none_added, its_log)

  -- its hold word names the node of a hot slot
  module _ (slots s n : ℕ) (has : x.listed ≡ true) (saw : v.glance ≡ Hot s n) where
    abbrev Announced₁ : Type 0
    Announced₁ = Made turn carried (hold_word_of v.start x.number) (λ _. announced n)
        (λ _. Announces (step slots (hold_word_of v.start x.number) (announced n) 0 none) (v, carried) (announced n))

    inside : n < nodes_of v.start
    inside = (rw saw at (its_log turn).sees).1

    announces_so : (d : Work) → announcing n v.work ≡ d → Own turn (announced n) d r.history → IsInside v.start d → Announced₁
    announces_so d is own knows = (
      w turn (own_after turn (announced n) d r.history),
      keeps,
      tt,
      own_kept turn (announced n) d own,
      record {
        goes = λ i k saw'. let at : n ≡ k = cc (sym saw ∙ saw') in
            subst (λ (z : Work). Goes (v, carried) [] z v.glance (w turn (own_after turn (announced n) d r.history), carried))
            (sym is ∙ ap (λ (j : ℕ). announcing j v.work) at) (goes_quiet (announced n) d knows);
      },
    )

    announce : MayAnnounce v.work → Announced₁
    announce may = ⊎_elim
        (λ (is : v.work ≡ Idle). let o = rw is at (its_log turn).hold in
        announces_so (Announced n) (ap (announcing n) is)
        (quiet (announced n) (Announced n) (inr (ap busy is)) (λ k. sym (ap (taking k) is)) (sym (ap held_in is)) (inl (refl, o.1)) tt inside has) inside)
        (λ (z : (own : ℕ) × (l : Placement) × (v.work ≡ Placing own l)). let o = rw z.2 at (its_log turn).hold in
        let its : IsIn v.start r.phase z.0 (placed id z.1) = subst (WorkAgrees v.start r.phase id) z.2 (its_work turn) in
        announces_so (Nearing n z.0 z.1) (ap (announcing n) z.2)
        (quiet (announced n) (Nearing n z.0 z.1) (inl (sym (ap alone_in z.2))) (λ k. sym (ap (taking k) z.2)) (sym (ap held_in z.2)) (inl (refl, o.1)) tt
        (inside, its) (subst (IsAllowed x.stock x.listed) z.2 (its_log turn).allowed, has)) (inside, its.0)) may

  withdraw : (slots n : ℕ) → v.work ≡ Announced n → Made turn carried (hold_word_of v.start x.number) (λ _. 0)
      (Withdraws (step slots (hold_word_of v.start x.number) 0 0 none) (v, carried))
  withdraw slots n is = let o : NamesNode word (r.debt x.number) n = rw is at (its_log turn).hold in
      let inside : n < nodes_of v.start = subst (WorkAgrees v.start r.phase id) is (its_work turn) in
      let calm = λ (d : Work). pass_calm d (ap busy is) in let holds = sym (ap held_in is) in dite (ℕ_discrete word (announced n))
      (λ clean. let none_owed : r.debt x.number ≡ 0 = ⊎_elim (λ (c : (word ≡ n + 1) × (r.debt x.number ≡ 0)). c.1)
      (λ (c : (word ≡ n + 1 + 4294967296) × (r.debt x.number ≡ n + 1)). absurd (let a = c.0 in omega arith)) o in
      let taken = λ (k : ℕ). sym (ap (taking k) is) in (
        w turn (own_after turn 0 Idle r.history),
        keeps,
        tt,
        own_kept turn 0 Idle (quiet 0 Idle (calm Idle) taken holds (refl, none_owed) tt tt tt),
        record {
          clean = λ k is' _. goes_quiet 0 Idle tt;
          charged = λ k is' not_so. absurd (not_so (clean ∙ (let at : n ≡ k = cc (sym is ∙ is') in ap announced at)));
        },
      ))
      (λ not_so. let owes : r.debt x.number ≡ n + 1 = ⊎_elim (λ (c : (word ≡ n + 1) × (r.debt x.number ≡ 0)). absurd (not_so c.0))
      (λ (c : (word ≡ n + 1 + 4294967296) × (r.debt x.number ≡ n + 1)). c.1) o in
      let taken = λ (k : ℕ). sym (ap (taking k) is) in (
        w turn (own_after turn 0 (Owing n) r.history),
        keeps,
        tt,
        own_kept turn 0 (Owing n) (quiet 0 (Owing n) (calm (Owing n)) taken holds (refl, owes) tt inside tt),
        record {
          clean = λ k is' clean. absurd (not_so (clean ∙ sym (let at : n ≡ k = cc (sym is ∙ is') in ap announced at)));
          charged = λ k is' _. let at : n ≡ k = cc (sym is ∙ is') in rw (← at) (goes_quiet 0 (Owing n) inside);
        },
      ))

  -- a release by the hold word
  module _ (f : File) (n : ℕ) (is : v.work ≡ Guarded f n) where
    abbrev h₁ : List Event
    h₁ = pass_event x (Release f) ∷ r.history

    released : r.debt x.number ≡ 0 → Own turn 0 Idle h₁
    released none_owed = grind (arith, grows_one, legal_more, bit_here, sum_at, its_log, taking, held_mine, one_less_at)

    step_down : (slots : ℕ) → Made turn carried (hold_word_of v.start x.number) (λ _. 0)
        (StepsDown (step slots (hold_word_of v.start x.number) 0 0 none) (v, carried))
    step_down slots = let o : NamesNode word (r.debt x.number) n = rw is at (its_log turn).hold in
        let its : HoldsAt v.start r.phase f n = subst (WorkAgrees v.start r.phase id) is (its_work turn) in dite (ℕ_discrete word (announced n))
        (λ clean. let none_owed : r.debt x.number ≡ 0 = ⊎_elim (λ (c : (word ≡ n + 1) × (r.debt x.number ≡ 0)). c.1)
        (λ (c : (word ≡ n + 1 + 4294967296) × (r.debt x.number ≡ n + 1)). absurd (let a = c.0 in omega arith)) o in
        let own = released none_owed in (
          w turn (own_after turn 0 Idle h₁),
          keeps,
          tt,
          own_kept turn 0 Idle own,
          record {
            clean = λ h k is' _. let same : f ≡ h = cc (sym is ∙ is') in rw (← same) record {
              stepped = tells turn (own_after turn 0 Idle h₁) refl carried carried ([] ▷ Release f) own.files.grows own.files.legal (part_mine r.history refl) tt;
              carried = refl;
            };
            charged = λ h k is' not_so. absurd (not_so (clean ∙ (let at : n ≡ k = cc (sym is ∙ is') in ap announced at)));
          },
        ))
        (λ not_so. let owes : r.debt x.number ≡ n + 1 = ⊎_elim (λ (c : (word ≡ n + 1) × (r.debt x.number ≡ 0)). absurd (not_so c.0))
        (λ (c : (word ≡ n + 1 + 4294967296) × (r.debt x.number ≡ n + 1)). c.1) o in
        let taken = λ (k : ℕ). sym (ap (taking k) is) in let calm = λ (d : Work). pass_calm d (ap busy is) in let holds = sym (ap held_in is) in (
          w turn (own_after turn 0 (Yielding f n) r.history),
          keeps,
          tt,
          own_kept turn 0 (Yielding f n) (quiet 0 (Yielding f n) (calm (Yielding f n)) taken holds (refl, owes) tt its tt),
          record {
            clean = λ h k is' clean. absurd (not_so (clean ∙ sym (let at : n ≡ k = cc (sym is ∙ is') in ap announced at)));
            charged = λ h k is' _. let same : f ≡ h = cc (sym is ∙ is') in let at : n ≡ k = cc (sym is ∙ is') in
                rw (← same, ← at) (goes_quiet 0 (Yielding f n) its.0);
          },
        ))

pub announces_keep : AnnouncesKeep Announces
announces_keep k slots id i s n m x has listed may saw place = by_turn slots (λ _. Unit {0}) (λ k. hold_word_of k x.number) (λ _. announced n)
    (λ i _. Announces (step slots i (announced n) 0 none) m (announced n)) has tt place
    (λ st r here _ fits. announce (turn_of m x has.1 id st r here) m.1 slots s n listed saw may)

pub withdraws_keep : WithdrawsKeep Withdraws
withdraws_keep k slots id i n m x has is place = by_turn slots (λ _. Unit {0}) (λ k. hold_word_of k x.number) (λ _. 0)
    (λ i. Withdraws (step slots i 0 0 none) m) has tt place (λ st r here _ fits. withdraw (turn_of m x has.1 id st r here) m.1 slots n is)

pub steps_down_keep : StepsDownKeep StepsDown
steps_down_keep k slots id i n f m x has is place = by_turn slots (λ _. Unit {0}) (λ k. hold_word_of k x.number) (λ _. 0)
    (λ i. StepsDown (step slots i 0 0 none) m) has tt place (λ st r here _ fits. step_down (turn_of m x has.1 id st r here) m.1 f n is slots)
