-- A retirement keeps the rule, when all hold words were visited.
use Rattle.fx_lasting.proofs.{Bool, StillNames, false, hold_word_of, Round, IsPassed, ⊎_elim, ◌≢◌, ◌≡◌, ℕ, ◌+◌, ◌-◌, ◌%◌, ◌^◌, ◌<◌, ◌≤◌, List, []}
use Rattle.fx_lasting.proofs.{sym, refl, ap, ◌∙◌, subst, arith, Option, Some, none, keeps, takes, Closed, File, WorkAgrees, MayBeUncharged}
use Rattle.fx_lasting.proofs.{nodes_of, word_of, held_in, if_file, taken_of, taking, owed, leaving, retired, owner, file_in}
use Rattle.fx_lasting.proofs.{removed_in, Work, Retiring, Retires, RetiresKeep, retirement_amount, step, inr, dite, ℕ_discrete, sum_by, busy}
use Rattle.fx_lasting.proofs.{none_added, Turn, turn_of, word_at, slot_word, Made, by_turn, its_log, its_work, w, NodeNow, in_phase, on_node}
use Rattle.fx_lasting.proofs.hold_lemmas.LettingGo.{IsLetGo, open_after, stays_open, goes_open, out_after, IsGone, comes_out, takes_out, sub_wraps, taken_now}

module _ (turn : Turn) (f : File) (n t : ℕ) (nx : Round) (m : ℕ) (works : turn.v.work ≡ Retiring f n t nx m) (down : nx.guarded ≡ false)
    (done : (p : ℕ) → nx.next ≤ p → p ≤ turn.v.start.passes → IsPassed turn.x.number nx p) where
  open turn use {st, v, r, id, x, here, one}

  pub its : (n < nodes_of v.start) × (r.phase n ≡ leaving id t nx m f)
  its = subst (WorkAgrees v.start r.phase id) works (its_work turn)

  pub node : NodeNow turn n (leaving id t nx m f)
  node = in_phase turn its.0 its.1

  pub lets : IsLetGo turn n f r.history r.debt []
  lets = let h = rw works at (its_log turn).hold in
      let o = subst (λ (b : Bool). StillNames b (word_at st.words (hold_word_of v.start x.number)) (r.debt x.number) n) down h in record {
        its = (its.0, ap file_in its.1);
        files = none_added turn;
        own = refl;
        holds = λ k. let a = ap (λ (d : Work). if_file k (held_in d)) works in omega arith;
        held = (its_log turn).held ∙ ap held_in works;
        owed_else = λ k other. refl;
        taken_else = λ k other. ap (taking k) works;
        debts = λ q other. refl;
        no_debt = o.1;
        hold = o.0;
        apart = λ k other bad. let a = ap busy works in other (omega arith);
      }

  abbrev amount : ℕ
  amount = retirement_amount t m

  abbrev found : ℕ
  found = word_at st.words (word_of v.start n)

  abbrev less : ℕ
  less = (found + (2 ^ 64 - amount)) % 2 ^ 64

  abbrev total : ℕ
  total = sum_by (taken_of n) st.views

  pub retiring_same : {g : File} {i a : ℕ} {b : Round} {c : ℕ} → v.work ≡ Retiring g i a b c → (f ≡ g) × (n ≡ i)
  retiring_same its = (cc (sym works ∙ its), cc (sym works ∙ its))

  -- nobody has still to be visited
  pub nobody : (q : ℕ) → q ≢ x.number → (0 < q) × (q ≤ v.start.passes) → MayBeUncharged (slot_word st.words) q (r.phase n) → ⊥
  nobody q other range may = let z = subst (MayBeUncharged (slot_word st.words) q) its.1 may in ⊎_elim other z.1 (done q z.0 range.1)

  pub retires_either : (slots : ℕ) (carried : List (ℕ × Option Closed)) → found < 18446744073709551616
      → Made turn carried (word_of v.start n) (λ word. (word + (2 ^ 64 - amount)) % 2 ^ 64)
      (Retires (step slots (word_of v.start n) amount 0 none) (v, carried))
  retires_either slots carried fits = let a = node.counts in let b = node.few_takes in let c = node.few_charges in let e = node.few_visits in
      let small : less ≡ found - amount = sub_wraps (omega arith) fits (omega arith) in
      let left : less ≡ 1 + (total + owed r.debt v.start.passes n) = omega arith in
      let idle = ap (taking n) works in
      dite (ℕ_discrete found (amount + 1))
      (λ is. let gone : IsGone lets carried less = record {
        gone = λ k. ap (removed_in k) its.1;
        not_seated = λ s h bad. cc (sym its.1 ∙ bad);
        may = inr (ap owner its.1);
        charged = nobody;
        home = node.file.at_home;
        left = omega arith;
        none_taken = omega arith;
        none_owed = omega arith;
      } in (
        w turn (out_after lets carried less),
        takes n (Some f.identity),
        node.file.at_home,
        comes_out lets carried less gone,
        record {
          waits = λ g i a b c its' not_so. absurd (not_so is);
          closes = λ g i a b c its' _. let same = retiring_same its' in rw (← same.0, ← same.1) (takes_out lets carried less gone);
        },
      ))
      (λ more. let now = taken_now lets carried less (w turn (open_after lets carried less (retired f))) refl in (
        w turn (open_after lets carried less (retired f)),
        keeps,
        tt,
        stays_open lets carried less (retired f) refl (λ k. sym (ap (removed_in k) its.1)) (inr (inr (ap owner its.1)))
            (λ s h bad. cc (sym its.1 ∙ bad))
            (λ q other range may. absurd (nobody q other range may))
            record { file = node.file; counts = omega arith; somebody = omega arith } tt,
        record {
          waits = λ g i a b c its' _. (goes_open lets carried less (retired f), rw (← (retiring_same its').0) (grind (arith, on_node, its)));
          closes = λ g i a b c its' is. absurd (more is);
        },
      ))

pub retires_keep : RetiresKeep Retires
retires_keep k slots id i n t m amount nx f s x has works down done place by = rw by
    (by_turn slots (λ (k : _). (p : ℕ) → nx.next ≤ p → p ≤ k.passes → IsPassed x.number nx p) (λ k. word_of k n)
    (λ word. (word + (2 ^ 64 - retirement_amount t m)) % 2 ^ 64)
    (λ i. Retires (step slots i (retirement_amount t m) 0 none) s) has done place
    (λ st r here done fits. retires_either (turn_of s x has.1 id st r here) f n t nx m works down done slots s.1 fits))
