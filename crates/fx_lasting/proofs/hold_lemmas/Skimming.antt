-- A pass that removed a hot file loads a word of the list: the passes without their bits hold
-- nothing of the node that isn't charged.
use Rattle.fx_lasting.proofs.{Relieving, StillNames, false, ◌≡◌, ◌≢◌, ℕ, ◌+◌, ◌*◌, ◌<◌, ◌≤◌, List, [], sym, refl, ap, ◌∙◌, subst, arith, Option, none}
use Rattle.fx_lasting.proofs.{keeps, Closed, File, HoldAgrees, GuardAgrees, MayBeUncharged, hold_word_of, leaving, Work, Guarded, Retiring, step}
use Rattle.fx_lasting.proofs.{⊎_elim, set-get_or, Round, round_from, IsToVisit, IsPassed, IsListedIn, list_place, Skims, SkimsKeep, Goes, changed_at}
use Rattle.fx_lasting.proofs.{true, Bool, IsAllowed, find_pass, each_changed, Turn, turn_of, its_log, word_at, slot_word, Made, by_turn, w}
use Rattle.fx_lasting.proofs.hold_lemmas.RoundSteps.{its, node, retiring_same, round_after, RoundStep, round_kept, goes, reads}

-- a pass whose hold word isn't 0 is listed
speaks : (stock : List ℕ) (l : Bool) {word : ℕ} (debt : ℕ) (e : Work) → word ≢ 0 → HoldAgrees word debt e → IsAllowed stock l e → l ≡ true
speaks stock l debt e some hold allowed = grind arith

module _ (turn : Turn) (f : File) (n t : ℕ) (nx : Round) (m : ℕ) (works : turn.v.work ≡ Retiring f n t nx m) (down : nx.guarded ≡ false)
    (index : ℕ) (inside : index < 16)
    (low : nx.next ≤ 64 * index + 1) (between : (p : ℕ) → nx.next ≤ p → p ≤ 64 * index → IsPassed turn.x.number nx p) where
  open turn use {st, v, r, id, x, here, one}

  abbrev found : ℕ
  found = word_at st.words (6 + index)

  abbrev nx' : Round
  nx' = round_from (6 + index) found

  -- the list has its bit
  its_bit : (p : ℕ) → 0 < p → p ≤ v.start.passes → word_at st.words (hold_word_of v.start p) ≢ 0 → IsListedIn (word_at st.words (list_place p)) p
  its_bit p more high some = let a = find_pass r.life more high in let o = (r.holds.views a.0 a.1 a.3).logs a.2 a.4 in
      let said : word_at st.words (hold_word_of v.start a.2.number) ≢ 0 = λ none. some (ap (λ (q : ℕ). word_at st.words (hold_word_of v.start q)) (sym a.5) ∙ none) in
      subst (λ (q : ℕ). IsListedIn (word_at st.words (list_place q)) q) a.5 (o.list (speaks a.2.stock a.2.listed (r.debt a.2.number) a.1.work said o.hold o.allowed))

  -- who had still to be visited has still to be, if it holds a file by its hold word
  still : (p : ℕ) → p ≢ x.number → (0 < p) × (p ≤ v.start.passes) → word_at st.words (hold_word_of v.start p) ≢ 0 → IsToVisit nx p → IsToVisit nx' p
  still p ne range some may = grind (arith, its_bit)

  guard_on : (p : ℕ) (e : Work) → p ≢ x.number → (0 < p) × (p ≤ v.start.passes) → HoldAgrees (word_at st.words (hold_word_of v.start p)) (r.debt p) e
      → GuardAgrees (slot_word st.words) r.phase p (r.debt p) e
      → GuardAgrees (slot_word st.words) (changed_at r.phase n (leaving id t nx' m f)) p (r.debt p) e
  guard_on p (Guarded h k) ne range hold guard = grind (arith, each_changed, still, its)
  guard_on p (Relieving h k own l) ne range hold guard = λ clean. each_changed (λ i z. MayBeUncharged (slot_word st.words) p z) r.phase
      (λ is. still p ne range
      (⊎_elim (λ (c : (word_at st.words (hold_word_of v.start p) ≡ k + 1) × (r.debt p ≡ 0)). λ none. let a = c.0 in omega (arith, none))
      (λ (c : (word_at st.words (hold_word_of v.start p) ≡ k + 1 + 4294967296) × (r.debt p ≡ k + 1)). λ none. let a = c.0 in omega (arith, none)) hold)
      (subst (MayBeUncharged (slot_word st.words) p) (ap r.phase is ∙ (its turn f n t nx m works).1) (guard clean)))
      (λ _. guard clean)
  guard_on p _ ne range hold guard = tt

  skimmed : RoundStep turn f n t nx m works st.words r.debt nx' m
  skimmed = let a = (node turn f n t nx m works).few_charges in let o = rw works at (its_log turn).hold in
      let own = subst (λ (b : Bool). StillNames b (word_at st.words (hold_word_of v.start x.number)) (r.debt x.number) n) down o in
      reads turn f n t nx m works nx' (own.0, own.1) (omega arith) (omega arith) refl guard_on

  skims : (slots : ℕ) (carried : List (ℕ × Option Closed))
      → Made turn carried (6 + index) (λ word. word) (Skims (step slots (6 + index) 0 0 none) (v, carried))
  skims slots carried = (
    w turn (round_after turn f n t nx m works st.words r.debt nx' m),
    keeps,
    tt,
    rw (set-get_or st.words (6 + index) 0) (round_kept turn f n t nx m works st.words r.debt nx' m skimmed),
    record {
      goes = λ g i a b c its'. let same : Retiring f n t nx' m ≡ Retiring g i a nx' c = cc (retiring_same turn f n t nx m works its') in
          subst (λ (d : Work). Goes (v, carried) [] d v.glance (w turn (round_after turn f n t nx m works st.words r.debt nx' m), carried)) same
          (goes turn f n t nx m works st.words r.debt nx' m carried);
      inside = λ p low few at is. r.holds.listed p low few (subst (λ (i : ℕ). IsListedIn (word_at st.words i) p) (sym at) is);
    },
  )

pub skims_keep : SkimsKeep Skims
skims_keep k slots id i n t m index nx f s x has works down inside low between place = by_turn slots (λ _. Unit {0}) (λ _. 6 + index) (λ word. word)
    (λ i. Skims (step slots i 0 0 none) s) has tt place
    (λ st r here _ fits. skims (turn_of s x has.1 id st r here) f n t nx m works down index inside low between slots s.1)
