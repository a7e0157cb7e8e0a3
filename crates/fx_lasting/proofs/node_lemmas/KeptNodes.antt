-- A pass keeps the node of a closed file, takes its place again, or frees it.
use Rattle.fx_lasting.proofs.{◌≡◌, ℕ, ◌<◌, [], ◌∷◌, set, sym, refl, ap, ◌∙◌, None, none, some, rest, free, kept, Idle, Parks, step, inl, ◌⊎◌, ◌-◌}
use Rattle.fx_lasting.proofs.{List, arith, Option, keeps, takes, gives, Closed, taking, placed, owner, Placing, Resumes, ⊎_elim, sum_set, Agrees}
use Rattle.fx_lasting.proofs.{subst, set_here, set_else, nodes_of, word_of, taken_of, held_in, emptied, file_in, Emptying, IsInStock, Placement}
use Rattle.fx_lasting.proofs.{MayCarry, WorkAgrees, changed_here, SettlesNode, ParksKeep, ResumesKeep, SettlesKeep, birth_word, length-set}
use Rattle.fx_lasting.proofs.{Unlabelled, as_written, grows_none, busy, does_now, passed, Turn, turn_of, After, Homes, word_at, Made, by_turn}
use Rattle.fx_lasting.proofs.{its_log, its_work, tells, tells_less, w, end, node_words, node_here, node_hold, node_leaves, in_phase}
use Rattle.fx_lasting.proofs.Words.{Keeping}
use Rattle.fx_lasting.proofs.node_lemmas.NodeSteps.{own_after, own_node_kept}
use Rattle.fx_lasting.proofs.Calm.{read_after, read_kept}
use Rattle.fx_lasting.proofs.Peeking.{goes_still, still}

-- a word has lost few takes, or not
pub carries_or : (word : ℕ) → MayCarry word ⊎ (MayCarry word → ⊥)
carries_or word = grind arith

module _ (turn : Turn) (n : ℕ) where
  open turn use {st, v, r, id, x, here, one}

  abbrev found : ℕ
  found = word_at st.words (word_of v.start n)

  -- a pass that took the closed file of a node of its stock out
  module _ (works : v.work ≡ Emptying n) (stocked : IsInStock x.stock n) (is : MayCarry found) where
    abbrev less : ℕ
    less = birth_word - found

    at_out : (n < nodes_of v.start) × (r.phase n ≡ emptied id)
    at_out = subst (WorkAgrees v.start r.phase id) works (its_work turn)

    abbrev homes₁ : Homes
    homes₁ = set st.homes n (some None)

    abbrev words₁ : List ℕ
    words₁ = node_words turn n at_out.0 found

    abbrev park_after : After turn
    park_after = own_after turn n at_out.0 (kept id less) r.history words₁ homes₁ (Keeping n less)

    parked : Agrees v.start (end turn park_after)
    parked = let o = its_log turn in let l = at_out.0 in let ph = at_out.1 in let node = in_phase turn l ph in
        own_node_kept turn n l (kept id less) r.history words₁ homes₁ (Keeping n less) record {
          leaves_else = node_leaves turn n l found;
          hold_words = node_hold turn n l found;
          homes = length-set st.homes n (some None);
          home_else = λ m range other. set_else st.homes n m (some None) other;
          mine = inl (ap owner ph);
          empty = ap file_in ph;
          still_empty = refl;
          node = grind (arith, sum_set, taking, node_here, set_here, some);
          known = does_now st.views id v (w turn park_after) (Keeping n less) here refl;
          label = tt;
          holds = sym (ap held_in works);
          taken = λ m. sym (ap (taking m) works);
          free_else = λ m other bad. let a = ap busy works in other (omega arith);
          allowed = stocked;
          hold = rw works at o.hold;
          guarded = tt;
          work = (l, changed_here r.phase n (kept id less) n refl);
        } ([], refl) refl

    pub parks_out : (slots : ℕ) (carried : List (ℕ × Option Closed)) → carried ≡ (n, None) ∷ []
        → Made turn carried (word_of v.start n) (λ word. word) (Parks (step slots (word_of v.start n) 0 0 none) (v, carried))
    parks_out slots carried has = (
      w turn park_after,
      gives,
      tt,
      rw has parked,
      record {
        keeps = λ m works' _. let same : n ≡ m = cc (sym works ∙ works') in rw (← same)
            (tells turn park_after refl carried (rest carried) [] (grows_none x.number r.history) r.life.legal refl at_out.0, refl);
        lost = λ not_so. absurd (not_so is);
      },
    )

  pub parks : v.work ≡ Emptying n → IsInStock x.stock n → (slots : ℕ) (carried : List (ℕ × Option Closed)) → carried ≡ (n, None) ∷ []
      → Made turn carried (word_of v.start n) (λ word. word) (Parks (step slots (word_of v.start n) 0 0 none) (v, carried))
  parks works stocked slots carried has = ⊎_elim (λ is. parks_out works stocked is slots carried has) (λ more. (
    w turn (read_after turn v.work v.glance r.history),
    keeps,
    tt,
    read_kept turn v.work v.glance (word_of v.start n) (still turn),
    record { keeps = λ m _ is. absurd (more is); lost = λ _. goes_still turn carried },
  )) (carries_or found)

  -- a pass that keeps the node
  module _ (lost : ℕ) (works : v.work ≡ Keeping n lost) where
    at_rest : (n < nodes_of v.start) × (r.phase n ≡ kept id lost)
    at_rest = subst (WorkAgrees v.start r.phase id) works (its_work turn)

    abbrev homes₂ : Homes
    homes₂ = set st.homes n none

    abbrev words₂ : List ℕ
    words₂ = node_words turn n at_rest.0 found

    abbrev again_so : Placement
    again_so = as_written lost Unlabelled

    abbrev again_after : After turn
    again_after = own_after turn n at_rest.0 (placed id again_so) r.history words₂ homes₂ (Placing n again_so)

    again : Agrees v.start (end turn again_after)
    again = let o = its_log turn in let l = at_rest.0 in let ph = at_rest.1 in let node = in_phase turn l ph in
        own_node_kept turn n l (placed id again_so) r.history words₂ homes₂ (Placing n again_so) record {
          leaves_else = node_leaves turn n l found;
          hold_words = node_hold turn n l found;
          homes = length-set st.homes n none;
          home_else = λ m range other. set_else st.homes n m none other;
          mine = inl (ap owner ph);
          empty = ap file_in ph;
          still_empty = refl;
          node = grind (arith, sum_set, taking, node_here, set_here, none);
          known = does_now st.views id v (w turn again_after) (Placing n again_so) here refl;
          label = tt;
          holds = sym (ap held_in works);
          taken = λ m. sym (ap (taking m) works);
          free_else = λ m other bad. let a = ap busy works in other (omega arith);
          allowed = rw works at o.allowed;
          hold = rw works at o.hold;
          guarded = tt;
          work = (l, changed_here r.phase n (placed id again_so) n refl);
        } ([], refl) refl

    pub resumes : (slots : ℕ) (carried : List (ℕ × Option Closed))
        → Made turn carried (word_of v.start n) (λ word. word) (Resumes (step slots (word_of v.start n) 0 0 none) (v, carried))
    resumes slots carried = (
      w turn again_after,
      takes n None,
      (in_phase turn at_rest.0 at_rest.1).at_home,
      again,
      record {
        goes = λ m more works'. let same : n ≡ m = cc (sym works ∙ works') in let as_many : lost ≡ more = cc (sym works ∙ works') in
            rw (← same, ← as_many) (
              tells turn again_after refl carried ((n, None) ∷ carried) [] (grows_none x.number r.history) r.life.legal refl at_rest.0,
              refl,
              (in_phase turn at_rest.0 at_rest.1).counts,
              (in_phase turn at_rest.0 at_rest.1).few_lost,
            );
      },
    )

    abbrev words₀ : List ℕ
    words₀ = node_words turn n at_rest.0 0

    abbrev free_after : After turn
    free_after = own_after turn n at_rest.0 free x.front words₀ st.homes Idle

    freed : Agrees v.start (end turn free_after)
    freed = let o = its_log turn in let l = at_rest.0 in let ph = at_rest.1 in let node = in_phase turn l ph in
        own_node_kept turn n l free x.front words₀ st.homes Idle record {
          leaves_else = node_leaves turn n l 0;
          hold_words = node_hold turn n l 0;
          homes = refl;
          home_else = λ m range other. refl;
          mine = inl (ap owner ph);
          empty = ap file_in ph;
          still_empty = refl;
          node = let t = sum_set (taken_of n) st.views id v (w turn free_after) here in let a = ap (taking n) works in let b = node.untaken in
              rw (node_here turn n l 0) record {
                counts = refl;
                at_home = node.at_home;
                untaken = omega arith;
                unowed = node.unowed;
              };
          known = tt;
          label = tt;
          holds = sym (ap held_in works);
          taken = λ m. sym (ap (taking m) works);
          free_else = λ m other bad. let a = ap busy works in other (omega arith);
          allowed = tt;
          hold = rw works at o.hold;
          guarded = tt;
          work = tt;
        } (passed turn).seen (passed turn).own

    pub settles : (slots : ℕ) (carried : List (ℕ × Option Closed))
        → Made turn carried (word_of v.start n) (λ _. 0) (λ _. SettlesNode (step slots (word_of v.start n) 0 0 none) (v, carried) 0)
    settles slots carried = (grind (arith, keeps, freed, tells_less, tells_less turn free_after refl carried carried refl tt))

pub parks_keep : ParksKeep Parks
parks_keep k slots id i n m x has works stocked carries place = by_turn slots (λ _. Unit {0}) (λ k. word_of k n) (λ word. word)
    (λ i. Parks (step slots i 0 0 none) m) has tt place
    (λ st r here _ fits. parks (turn_of m x has.1 id st r here) n works stocked slots m.1 carries)

pub resumes_keep : ResumesKeep Resumes
resumes_keep k slots id i n lost m x has works place = by_turn slots (λ _. Unit {0}) (λ k. word_of k n) (λ word. word)
    (λ i. Resumes (step slots i 0 0 none) m) has tt place
    (λ st r here _ fits. resumes (turn_of m x has.1 id st r here) n lost works slots m.1)

pub settles_keep : SettlesKeep SettlesNode
settles_keep k slots id i n lost m x has works place = by_turn slots (λ _. Unit {0}) (λ k. word_of k n) (λ _. 0)
    (λ i _. SettlesNode (step slots i 0 0 none) m 0) has tt place
    (λ st r here _ fits. settles (turn_of m x has.1 id st r here) n lost works slots m.1)
