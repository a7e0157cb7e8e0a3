-- A pass that removed a hot file visits the hold words of the others: where one names the node, the
-- pass charges it.
use Rattle.fx_lasting.proofs.{Relieving, StillNames, Bool, false, Round, round_at, IsPassed, ◌≡◌, ◌≢◌, ℕ, ◌+◌, ◌<◌, ◌≤◌, List, [], set}
use Rattle.fx_lasting.proofs.{sym, refl, ap, ◌∙◌, subst, arith, Option, none, keeps, Closed, File, HoldAgrees, GuardAgrees, MayBeUncharged, slots_of}
use Rattle.fx_lasting.proofs.{hold_word_of, owed, Phase, leaving, changed_at, changed_here, changed_else, Work, Guarded, Retiring, Visits, Charges}
use Rattle.fx_lasting.proofs.{VisitsKeep, ChargesKeep, step, inr, dite, ℕ_discrete, eqb, one_if, announced, charge, set-get_or, exchanged, bit_here}
use Rattle.fx_lasting.proofs.{bit_else, NamesNode, Goes, Start, Agrees, either, find_pass, owed_changed, each_changed, covers_same, Turn, turn_of}
use Rattle.fx_lasting.proofs.{word_at, slot_word, Made, by_turn, its_log, w, hold_words, hold_here, hold_node, hold_slot, hold_else, hold_label}
use Rattle.fx_lasting.proofs.{pass_back, hold_leaves, rules}
use Rattle.fx_lasting.proofs.node_lemmas.NodeSteps.{guards_else}
use Rattle.fx_lasting.proofs.hold_lemmas.RoundSteps.{its, node, retiring_same, round_after, RoundStep, round_kept, goes, reads}

module _ (turn : Turn) (f : File) (n t : ℕ) (nx : Round) (m : ℕ) (works : turn.v.work ≡ Retiring f n t nx m) (down : nx.guarded ≡ false) where
  open turn use {st, v, r, id, x, here, one}

  abbrev its_word : ℕ
  its_word = word_at st.words (hold_word_of v.start x.number)

  -- its own hold word names no node
  own_none : (its_word ≡ 0) × (r.debt x.number ≡ 0)
  own_none = let o = rw works at (its_log turn).hold in subst (λ (b : Bool). StillNames b its_word (r.debt x.number) n) down o

  -- a hold word that names nothing new
  module _ (pass : ℕ) (low : nx.next ≤ pass) (high : pass ≤ v.start.passes) (other : pass ≢ x.number)
      (between : (p : ℕ) → nx.next ≤ p → p < pass → IsPassed x.number nx p) where
    abbrev word : ℕ
    word = word_at st.words (hold_word_of v.start pass)

    cover : (words' : List ℕ) (m' : ℕ) → ((s : ℕ) → s < slots_of v.start → slot_word words' s ≡ slot_word st.words s) → (p : ℕ)
        → p ≢ x.number → p ≢ pass → (k : ℕ) → MayBeUncharged (slot_word st.words) p (r.phase k)
        → MayBeUncharged (slot_word words') p (changed_at r.phase n (leaving id t (round_at nx pass) m' f) k)
    cover words' m' same p ne not_pass k may = grind (arith, each_changed, its, covers_same)

    -- what a file held by a hold word needs, of a pass that isn't this one
    guard_else : (words' : List ℕ) (m' : ℕ) → ((s : ℕ) → s < slots_of v.start → slot_word words' s ≡ slot_word st.words s) → (p : ℕ) (e : Work)
        → p ≢ x.number → p ≢ pass → GuardAgrees (slot_word st.words) r.phase p (r.debt p) e
        → GuardAgrees (slot_word words') (changed_at r.phase n (leaving id t (round_at nx pass) m' f)) p (r.debt p) e
    guard_else words' m' same p (Guarded h k) ne not_pass guard = λ none. cover words' m' same p ne not_pass k (guard none)
    guard_else words' m' same p (Relieving h k own l) ne not_pass guard = λ none. cover words' m' same p ne not_pass k (guard none)
    guard_else words' m' same p _ ne not_pass guard = tt

    -- this pass holds nothing of the node that isn't charged, if its word doesn't name it
    guard_here : word ≢ announced n → (e : Work) → HoldAgrees word (r.debt pass) e → GuardAgrees (slot_word st.words) r.phase pass (r.debt pass) e
        → GuardAgrees (slot_word st.words) (changed_at r.phase n (leaving id t (round_at nx pass) m f)) pass (r.debt pass) e
    guard_here not_so e hold guard = grind (arith, each_changed)

    unnamed : word ≢ announced n → RoundStep turn f n t nx m works st.words r.debt (round_at nx pass) m
    unnamed not_so = grind (arith, node, reads, own_none, leaving, guard_here, guard_else)

    -- of a word that names a node: it isn't charged, and its pass owes nothing
    named_clean : (k : ℕ) → NamesNode word (r.debt pass) k → word ≡ announced n → (r.debt pass ≡ 0) × (k ≡ n)
    named_clean k hold is = grind (arith, its)

    -- a hold word that names the node isn't charged, and its pass owes nothing
    clean_debt : (e : Work) → HoldAgrees word (r.debt pass) e → word ≡ announced n → r.debt pass ≡ 0
    clean_debt e hold is = grind (arith, named_clean, unnamed, its)

    -- the charged word, and the debt
    charges_name : (k : ℕ) → NamesNode word (r.debt pass) k → word ≡ announced n → NamesNode (announced n + charge) (n + 1) k
    charges_name k hold is = let same = (named_clean k hold is).1 in inr (omega arith, omega arith)

    now_charged : (e : Work) → HoldAgrees word (r.debt pass) e → word ≡ announced n → HoldAgrees (announced n + charge) (n + 1) e
    now_charged e hold is = grind (arith, charges_name, unnamed)

    -- a pass that owes is excused
    excused : (slot_word' : ℕ → ℕ) (phase' : ℕ → Phase) (e : Work) → GuardAgrees slot_word' phase' pass (n + 1) e
    excused slot_word' phase' e = grind arith

    abbrev debt₁ : ℕ → ℕ
    debt₁ = changed_at r.debt pass (n + 1)

    module _ (more : 0 < pass) (is : word ≡ announced n) where
      abbrev words₁ : List ℕ
      words₁ = hold_words turn pass more high (announced n + charge)

      no_debt : r.debt pass ≡ 0
      no_debt = let a = find_pass r.life more high in
          let o = subst (λ (q : ℕ). HoldAgrees (word_at st.words (hold_word_of v.start q)) (r.debt q) a.1.work) a.5 ((r.holds.views a.0 a.1 a.3).logs a.2 a.4).hold in
          clean_debt a.1.work o is

      owes : (k : ℕ) → owed debt₁ v.start.passes k ≡ owed r.debt v.start.passes k + one_if (eqb (n + 1) (k + 1))
      owes k = grind (arith, owed_changed, no_debt, bit_else)

      made : RoundStep turn f n t nx m works words₁ debt₁ (round_at nx pass) (m + 1)
      made =
          search (
            rules,
            hold_slot,
            leaving,
            hold_here,
            changed_here,
            now_charged,
            excused,
            hold_else,
            changed_else,
            guard_else,
            node,
            owes,
            bit_here,
            hold_leaves,
            hold_node,
            hold_label,
            own_none,
            bit_else,
          )

    -- a step that writes what it read
    read_so : (d : ℕ → ℕ) (nx' : Round) (m' : ℕ) → RoundStep turn f n t nx m works st.words d nx' m'
        → Agrees v.start record { words = set st.words (hold_word_of v.start pass) word; homes = st.homes; views = set st.views id (w turn (round_after turn f n t nx m works st.words d nx' m')) }
    read_so d nx' m' s = rw (set-get_or st.words (hold_word_of v.start pass) 0) (round_kept turn f n t nx m works st.words d nx' m' s)

    pub visits_either : (slots : ℕ) (carried : List (ℕ × Option Closed))
        → Made turn carried (hold_word_of v.start pass) (λ word. word) (Visits (step slots (hold_word_of v.start pass) 0 0 none) (v, carried))
    visits_either slots carried = dite (ℕ_discrete word (announced n))
        (λ is. (
          w turn (round_after turn f n t nx m works st.words r.debt nx m),
          keeps,
          tt,
          read_so r.debt nx m still,
          record {
            other = λ g i a b c its' not_so. absurd (not_so (is ∙ names its'));
            names = λ g i a b c its' _. subst (λ (d : Work). Goes (v, carried) [] d v.glance (w turn (round_after turn f n t nx m works st.words r.debt nx m), carried))
                (retiring_same turn f n t nx m works its') (goes turn f n t nx m works st.words r.debt nx m carried);
          },
        ))
        (λ not_so. (
          w turn (round_after turn f n t nx m works st.words r.debt (round_at nx pass) m),
          keeps,
          tt,
          read_so r.debt (round_at nx pass) m (unnamed not_so),
          record {
            other = λ g i a b c its' _. let e = retiring_same turn f n t nx m works its' in
                let same : Retiring f n t (round_at nx pass) m ≡ Retiring g i a (round_at b pass) c = cc e in
                rw (pass_back v.start pass) (subst (λ (d : Work). Goes (v, carried) [] d v.glance (w turn (round_after turn f n t nx m works st.words r.debt (round_at nx pass) m), carried))
                same (goes turn f n t nx m works st.words r.debt (round_at nx pass) m carried));
            names = λ g i a b c its' is. absurd (not_so (is ∙ sym (names its')));
          },
        ))
      where
        names : {g : File} {i a : ℕ} {b : Round} {c : ℕ} → v.work ≡ Retiring g i a b c → announced n ≡ announced i
        names {i = i} its' = let same : n ≡ i = cc (retiring_same turn f n t nx m works its') in ap announced same

        still : RoundStep turn f n t nx m works st.words r.debt nx m
        still = let now = node turn f n t nx m works in reads turn f n t nx m works nx own_none now.few_charges now.few_visits down
            (λ p e ne range hold guard. (guards_else turn n (its turn f n t nx m works).0 (leaving id t nx m f) r.history st.words st.homes r.debt
            (Retiring f n t nx m) v.glance (λ s l. refl) p e refl refl
            (λ may. subst (MayBeUncharged (slot_word st.words) p) (its turn f n t nx m works).1 may) hold guard).1)

    abbrev Goal : ℕ → ℕ → Type 0
    Goal slots y = (carried : List (ℕ × Option Closed)) → Made turn carried (hold_word_of v.start pass) (λ _. y)
        (Charges (step slots (hold_word_of v.start pass) (announced n) (announced n + charge) none) (v, carried))

    charges_won : (slots : ℕ) → 0 < pass → word ≡ announced n → Goal slots (announced n + charge)
    charges_won slots more is carried = (
      w turn (round_after turn f n t nx m works (words₁ more is) debt₁ (round_at nx pass) (m + 1)),
      keeps,
      tt,
      round_kept turn f n t nx m works (words₁ more is) debt₁ (round_at nx pass) (m + 1) (made more is),
      record {
        made = λ g i a b c its' _. let e = retiring_same turn f n t nx m works its' in
            let same : Retiring f n t (round_at nx pass) (m + 1) ≡ Retiring g i a (round_at b pass) (c + 1) = cc e in
            rw (pass_back v.start pass) (subst (λ (d : Work). Goes (v, carried) [] d v.glance (w turn (round_after turn f n t nx m works (words₁ more is) debt₁ (round_at nx pass) (m + 1)), carried))
            same (goes turn f n t nx m works (words₁ more is) debt₁ (round_at nx pass) (m + 1) carried));
        missed = λ g i a b c its' not_so. absurd (not_so (is ∙ (let same : n ≡ i = cc (retiring_same turn f n t nx m works its') in ap announced same)));
      },
    )

    charges_lost : (slots : ℕ) → word ≢ announced n → Goal slots word
    charges_lost slots not_so carried = (
      w turn (round_after turn f n t nx m works st.words r.debt (round_at nx pass) m),
      keeps,
      tt,
      read_so r.debt (round_at nx pass) m (unnamed not_so),
      record {
        made = λ g i a b c its' is. absurd (not_so (is ∙ sym (let same : n ≡ i = cc (retiring_same turn f n t nx m works its') in ap announced same)));
        missed = λ g i a b c its' _. let e = retiring_same turn f n t nx m works its' in
            let same : Retiring f n t (round_at nx pass) m ≡ Retiring g i a (round_at b pass) c = cc e in
            rw (pass_back v.start pass) (subst (λ (d : Work). Goes (v, carried) [] d v.glance (w turn (round_after turn f n t nx m works st.words r.debt (round_at nx pass) m), carried))
            same (goes turn f n t nx m works st.words r.debt (round_at nx pass) m carried));
      },
    )

pub visits_keep : VisitsKeep Visits
visits_keep k slots id i n t m pass nx f s x has works down low high other between place = by_turn slots (λ (k : Start). pass ≤ k.passes)
    (λ k. hold_word_of k pass) (λ word. word) (λ i. Visits (step slots i 0 0 none) s) has high place
    (λ st r here high fits. visits_either (turn_of s x has.1 id st r here) f n t nx m works down pass low high other between slots s.1)

pub charges_keep : ChargesKeep Charges
charges_keep k slots id i n t m pass nx f s x has works down low high other between place = by_turn slots (λ (k : Start). pass ≤ k.passes)
    (λ k. hold_word_of k pass) (λ word. either (eqb word (announced n)) (announced n + charge) word)
    (λ i. Charges (step slots i (announced n) (announced n + charge) none) s) has high place
    (λ st r here high fits. let turn = turn_of s x has.1 id st r here in
    exchanged (word_at st.words (hold_word_of s.0.start pass)) (announced n) (announced n + charge)
    (λ y. Goal turn f n t nx m works down pass low high other between slots y)
    (λ is. charges_won turn f n t nx m works down pass low high other between slots
    (let a = (node turn f n t nx m works).few_charges in omega arith) is)
    (λ not_so. charges_lost turn f n t nx m works down pass low high other between slots not_so) s.1)
