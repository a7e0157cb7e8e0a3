-- A pass that removed the file that it held by its hold word stores 0 there: nobody has charged the
-- word, since it alone visits the node's passes.
use Rattle.fx_lasting.proofs.{Round, IsToVisit, NamesNode, StillNames, EndsItsHold, EndsItsHoldKeep, MayBeUncharged, ◌≡◌, ℕ, ◌+◌, ◌<◌, ◌≤◌, List, []}
use Rattle.fx_lasting.proofs.{refl, subst, arith, Option, none, keeps, Closed, File, Bool, true, false, slots_of, hold_word_of, leaving, Work}
use Rattle.fx_lasting.proofs.{Retiring, step, ⊎_elim, Goes, Agrees, owed_at, Turn, turn_of, After, word_at, slot_word, Made, by_turn, its_log}
use Rattle.fx_lasting.proofs.{in_range, w, end, hold_words, hold_here, hold_node, hold_slot, hold_else, hold_label, hold_leaves}
use Rattle.fx_lasting.proofs.node_lemmas.NodeSteps.{guards_else}
use Rattle.fx_lasting.proofs.hold_lemmas.RoundSteps.{its, node, retiring_same, round_after, round_kept, goes}

module _ (turn : Turn) (f : File) (n t : ℕ) (nx : Round) (m : ℕ) (works : turn.v.work ≡ Retiring f n t nx m) (up : nx.guarded ≡ true) where
  open turn use {st, v, r, id, x, here, one}

  low : 0 < x.number
  low = (in_range turn).0

  high : x.number ≤ v.start.passes
  high = (in_range turn).1

  abbrev its_word : ℕ
  its_word = word_at st.words (hold_word_of v.start x.number)

  no_debt : r.debt x.number ≡ 0
  no_debt = let o = rw works at (its_log turn).hold in let none_owed = (node turn f n t nx m works).unowed up in
      let names : NamesNode its_word (r.debt x.number) n = subst (λ (b : Bool). StillNames b its_word (r.debt x.number) n) up o in
      ⊎_elim (λ (c : (its_word ≡ n + 1) × (r.debt x.number ≡ 0)). c.1)
      (λ (c : (its_word ≡ n + 1 + 4294967296) × (r.debt x.number ≡ n + 1)). absurd
      (let a = owed_at r.debt v.start.passes x.number n low high c.1 in omega arith)) names

  abbrev words' : List ℕ
  words' = hold_words turn x.number low high 0

  abbrev nx' : Round
  nx' = record nx { guarded = false }

  abbrev down_after : After turn
  down_after = round_after turn f n t nx m works words' r.debt nx' m

  same_slots : (s : ℕ) → s < slots_of v.start → slot_word words' s ≡ slot_word st.words s
  same_slots = hold_slot turn x.number low high 0

  ends_hold : Agrees v.start (end turn down_after)
  ends_hold = let now = node turn f n t nx m works in round_kept turn f n t nx m works words' r.debt nx' m record {
    leaves_else = hold_leaves turn x.number low high 0 n;
    same_word = hold_node turn x.number low high 0 n;
    same_label = hold_label turn x.number low high 0 n;
    own = (hold_here turn x.number low high 0, no_debt);
    owed_else = λ k other. refl;
    owed_more = refl;
    few_charges = now.few_charges;
    few_visits = now.few_visits;
    still_down = refl;
    guards = λ p e ne range. guards_else turn n (its turn f n t nx m works).0 (leaving id t nx' m f) r.history words' st.homes r.debt (Retiring f n t nx' m) v.glance
        same_slots p e (hold_else turn x.number low high 0 p ne) refl
        (λ may. let z : IsToVisit nx p = subst (MayBeUncharged (slot_word st.words) p) (its turn f n t nx m works).1 may in z);
  }

  pub end_hold : (slots : ℕ) (carried : List (ℕ × Option Closed)) → Made turn carried (hold_word_of v.start x.number) (λ _. 0)
      (λ _. EndsItsHold (step slots (hold_word_of v.start x.number) 0 0 none) (v, carried) 0)
  end_hold slots carried = (
    w turn down_after,
    keeps,
    tt,
    ends_hold,
    record {
      goes = λ g i a b c its'. let e = retiring_same turn f n t nx m works its' in
          let same : Retiring f n t nx' m ≡ Retiring g i a (record b { guarded = false }) c = cc e in
          subst (λ (z : Work). Goes (v, carried) [] z v.glance (w turn down_after, carried)) same (goes turn f n t nx m works words' r.debt nx' m carried);
    },
  )

pub ends_hold_keep : EndsItsHoldKeep EndsItsHold
ends_hold_keep k slots id i n t m nx f s x has works up place = by_turn slots (λ _. Unit {0}) (λ k. hold_word_of k x.number) (λ _. 0)
    (λ i _. EndsItsHold (step slots i 0 0 none) s 0) has tt place
    (λ st r here _ fits. end_hold (turn_of s x has.1 id st r here) f n t nx m works up slots s.1)
