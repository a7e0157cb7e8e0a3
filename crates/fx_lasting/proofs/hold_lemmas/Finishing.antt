-- A load by which a retirement finds that everybody has let its file go keeps the rule.
use Rattle.fx_lasting.proofs.{false, Round, IsPassed, ◌≡◌, ℕ, ◌+◌, ◌≤◌, List, ap, ◌∙◌, sym, arith, Option, Some, none, keeps, takes, Closed, File}
use Rattle.fx_lasting.proofs.{word_of, taking, owner, removed_in, Retiring, retirement_amount, step, inr, dite, ℕ_discrete, Finishes, FinishesKeep}
use Rattle.fx_lasting.proofs.{Turn, turn_of, word_at, Made, by_turn, w}
use Rattle.fx_lasting.proofs.Calm.{read_after, read_kept}
use Rattle.fx_lasting.proofs.hold_lemmas.LettingGo.{out_after, IsGone, comes_out, takes_out}
use Rattle.fx_lasting.proofs.Peeking.{goes_still, still}
use Rattle.fx_lasting.proofs.hold_lemmas.Retiring.{its, node, lets, retiring_same, nobody}

module _ (turn : Turn) (f : File) (n t : ℕ) (nx : Round) (m : ℕ) (works : turn.v.work ≡ Retiring f n t nx m) (down : nx.guarded ≡ false)
    (done : (p : ℕ) → nx.next ≤ p → p ≤ turn.v.start.passes → IsPassed turn.x.number nx p) where
  open turn use {st, v, r, id, x, here, one}

  abbrev found : ℕ
  found = word_at st.words (word_of v.start n)

  -- the takes and the charges are the file's
  amount_same : {g : File} {i a : ℕ} {b : Round} {c : ℕ} → v.work ≡ Retiring g i a b c → retirement_amount t m ≡ retirement_amount a c
  amount_same {a = a} {c = c} is = let p : t ≡ a = cc (sym works ∙ is) in let q : m ≡ c = cc (sym works ∙ is) in λ j. retirement_amount (p j) (q j)

  pub finishes_either : (slots : ℕ) (carried : List (ℕ × Option Closed))
      → Made turn carried (word_of v.start n) (λ word. word) (Finishes (step slots (word_of v.start n) 0 0 none) (v, carried))
  finishes_either slots carried = let o = node turn f n t nx m works down done in let a = o.counts in let b = o.few_takes in let c = o.few_charges in
      let e = o.few_visits in let idle = ap (taking n) works in let l = lets turn f n t nx m works down done in
      let at = (its turn f n t nx m works down done).1 in
      dite (ℕ_discrete found (retirement_amount t m + 1))
      (λ is. let gone : IsGone l carried found = record {
        gone = λ k. ap (removed_in k) at;
        not_seated = λ s h bad. cc (sym at ∙ bad);
        may = inr (ap owner at);
        charged = nobody turn f n t nx m works down done;
        home = o.file.at_home;
        left = omega arith;
        none_taken = omega arith;
        none_owed = omega arith;
      } in (
        w turn (out_after l carried found),
        takes n (Some f.identity),
        o.file.at_home,
        comes_out l carried found gone,
        record {
          waits = λ g i a b c its' not_so. absurd (not_so (is ∙ ap (λ (z : ℕ). z + 1) (amount_same its')));
          closes = λ g i a b c its' _. let same = retiring_same turn f n t nx m works down done its' in rw (← same.0, ← same.1) (takes_out l carried found gone);
        },
      ))
      (λ more. (
        w turn (read_after turn v.work v.glance r.history),
        keeps,
        tt,
        read_kept turn v.work v.glance (word_of v.start n) (still turn),
        record {
          waits = λ g i a b c its' _. goes_still turn carried;
          closes = λ g i a b c its' is. absurd (more (is ∙ sym (ap (λ (z : ℕ). z + 1) (amount_same its'))));
        },
      ))

pub finishes_keep : FinishesKeep Finishes
finishes_keep k slots id i n t m nx f s x has works down done place =
    by_turn slots (λ (k : _). (p : ℕ) → nx.next ≤ p → p ≤ k.passes → IsPassed x.number nx p) (λ k. word_of k n) (λ word. word)
    (λ i. Finishes (step slots i 0 0 none) s) has done place
    (λ st r here done fits. finishes_either (turn_of s x has.1 id st r here) f n t nx m works down done slots s.1)
