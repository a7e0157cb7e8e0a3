-- The rule of the range when passes move and no count changes, and when a slot changes.
use Rattle.table_range.proofs.Words.{◌≡◌, ◌≢◌, ℕ, ◌+◌, ◌-◌, ◌%◌, ◌^◌, ◌<◌, ◌≤◌, List, [], ◌∷◌, set, get_or, sym, refl, ap, ◌∙◌, arith, Option, Some}
use Rattle.table_range.proofs.Words.{None, Bool, true, false, cond, subst, dite, some, get_elem?, changed_at, dec_le, sum_by, changed_here}
use Rattle.table_range.proofs.Words.{changed_else, File, sum_set, owing, full_in, GroupCounts, RangeCounts, AreFull, HasVisitedFull, HasQuestionOf}
use Rattle.table_range.proofs.Words.{is_in, uncounted, account, Change, Outside, Inside, Survey, NotAsked, Covered, full_few, IsSome, groups_in}
use Rattle.table_range.proofs.Words.{group_of, group_start, group_len, group_place, question_place, ◌⊎◌, ⊎_elim, inl, inr, at_set, ℕ_discrete}
use Rattle.table_range.proofs.Words.{Contains, is_some, not, bit_of, MOST_IN_RANGE}
use Rattle.std.proofs.lemmas.Nat.Bits.{bit_at-zero}
use Rattle.table_range.proofs.GroupSlots.{in_range_so, is_in_or, few_slots, few_groups}
use Rattle.table_range.proofs.Slots.{counted, none_in, one_in, full_swap, owing_so, owes_to}

-- the words that count and ask are the same
abbrev pub CountAlike : List ℕ → List ℕ → Type 0
CountAlike words' words = (get_or words' question_place 0 ≡ get_or words question_place 0)
    × ((g : ℕ) → g < 64 → get_or words' (group_place g) 0 ≡ get_or words (group_place g) 0)

-- nobody asks where the question word is 0
pub none_asks : {word : ℕ} (p : ℕ) → word ≡ 0 → HasQuestionOf word p → ⊥
none_asks p none there = let z = subst (λ (q : ℕ). HasQuestionOf q p) none there in let a = bit_at-zero (bit_of p) in omega (arith, z, a)

pub visited_map : {V : Type 0} {change : V → Change} {at at' : ℕ → Option File} {range : ℕ × ℕ} {views views' : List V} (a : Survey)
    → ((n : ℕ) → AreFull change at range views n → AreFull change at' range views' n)
    → HasVisitedFull change at range views a → HasVisitedFull change at' range views' a
visited_map NotAsked f o = o
visited_map (Covered n) f o = f n o

-- each pass of a view has asked what it had asked in another one
abbrev pub AskAlike : {V L : Type 0} → (V → List L) → (L → ℕ) → (L → Survey) → V → V → Type 0
AskAlike {V} {L} logs number asked w v = (y : L) → Contains (logs w) y → (x : L) × Contains (logs v) x × (number x ≡ number y) × (asked x ≡ asked y)

-- passes may be in other seats: they owe as much, who may empty a slot might before, and each was
-- there
pub record AreMoved {V L : Type 0} (logs : V → List L) (change : V → Change) (number : L → ℕ) (asked : L → Survey) (views views' : List V) : Type 0 where
  pub owe : (f : Change → ℕ) → f Outside ≡ 0 → sum_by (λ u. f (change u)) views' ≡ sum_by (λ u. f (change u)) views
  pub calm : (j : ℕ) (u : V) (g : ℕ) → get_elem? views' j ≡ some u → change u ≡ Inside g
      → (i : ℕ) × (w : V) × (get_elem? views i ≡ some w) × (change w ≡ Inside g)
  pub was : (j : ℕ) (u : V) (y : L) → get_elem? views' j ≡ some u → Contains (logs u) y
      → (i : ℕ) × (w : V) × (x : L) × (get_elem? views i ≡ some w) × Contains (logs w) x × (number x ≡ number y) × (asked x ≡ asked y)

-- One view changes
module _ {V : Type 0} {change : V → Change} {at : ℕ → Option File} {range : ℕ × ℕ} {views : List V} (id : ℕ) {v : V} (w : V)
    (here : get_elem? views id ≡ some v) where
  -- what was full is full
  pub full_still : {at' : ℕ → Option File} {n : ℕ} → AreFull change at range views n
      → ((s : ℕ) → range.0 ≤ s → s < range.0 + range.1 → group_of range s < n → IsSome (at' s))
      → ((g : ℕ) → change w ≡ Inside g → n ≤ g) → AreFull change at' range (set views id w) n
  full_still o full calm = record {
    full = full;
    calm = λ j u g there is. ⊎_elim (λ (t : (j ≡ id) × (w ≡ u)). calm g (ap change t.1 ∙ is))
        (λ t. o.calm j u g t.1 is) (at_set views id j w u there);
  }

  pub full_same : {n : ℕ} → change w ≡ change v → AreFull change at range views n → AreFull change at range (set views id w) n
  full_same same o = full_still o o.full (λ g is. o.calm id v g here (sym same ∙ is))

module _ {V L : Type 0} {logs : V → List L} {change : V → Change} {number : L → ℕ} {asked : L → Survey} where
  -- the first view owes nothing, and nobody asks
  pub counts_alone : {at : ℕ → Option File} {range : ℕ × ℕ} {words : List ℕ} (v : V) → change v ≡ Outside
      → ((g : ℕ) → g < groups_in range.1 → get_or words (group_place g) 0 ≡ full_in at (group_start range g) (group_len range.1 g))
      → get_or words question_place 0 ≡ 0 → RangeCounts logs change number asked at range (v ∷ []) words
  counts_alone {at} {range} v out groups none = record {
    groups = λ g l. let a = groups g l in let b = full_few at (group_start range g) (group_len range.1 g) in let c = few_slots range.1 g in
        let d = ap (owing g) out in record { counts = omega (arith, a, b, c, d) };
    questions = λ j u y e has few there. absurd (none_asks (number y) none there);
  }

  -- a step changes one view, and nothing in it that counts or asks
  pub moved_one : {views : List V} (id : ℕ) {v : V} (w : V) → get_elem? views id ≡ some v → change w ≡ change v → AskAlike logs number asked w v
      → AreMoved logs change number asked views (set views id w)
  moved_one {views} id {v} w here same asks = record {
    owe = λ f none. omega (arith, sum_set (λ u. f (change u)) views id v w here, ap f same);
    calm = λ j u g there is. ⊎_elim (λ (t : (j ≡ id) × (w ≡ u)). (id, v, here, sym same ∙ (ap change t.1 ∙ is))) (λ t. (j, u, t.1, is))
        (at_set views id j w u there);
    was = λ j u y there has. ⊎_elim
        (λ (t : (j ≡ id) × (w ≡ u)). let z = asks y (subst (λ (z : V). Contains (logs z) y) (sym t.1) has) in (id, v, z.0, here, z.1, z.2, z.3))
        (λ t. (j, u, y, t.1, has, refl, refl)) (at_set views id j w u there);
  }

  -- a step that leaves the range as it is keeps the rule
  pub counts_same : {at at' : ℕ → Option File} {range : ℕ × ℕ} {views views' : List V} {words words' : List ℕ}
      → RangeCounts logs change number asked at range views words → range.1 ≤ MOST_IN_RANGE → AreMoved logs change number asked views views'
      → at' ≡ at → CountAlike words' words → RangeCounts logs change number asked at' range views' words'
  counts_same {at} {at'} {range} {views} {views'} {words} {words'} ok few moved same alike = record {
    groups = λ g l. let a = (ok.groups g l).counts in let b = moved.owe (owing g) refl in
        rw (same, alike.1 g (omega (arith, l, few_groups range.1 few))) record { counts = omega (arith, a, b) };
    questions = λ j u y there has low asks. let z = moved.was j u y there has in
        subst (HasVisitedFull change at' range views') z.6 (visited_map (asked z.2)
        (λ n o. record {
          full = λ s from to l. subst (λ (f : ℕ → Option File). IsSome (f s)) (sym same) (o.full s from to l);
          calm = λ i w g is in_it. let c = moved.calm i w g is in_it in o.calm c.0 c.1 g c.2 c.3;
        }) (ok.questions z.0 z.1 z.2 z.3 z.4 (omega (arith, low, z.5))
        (subst (λ (q : ℕ × ℕ). HasQuestionOf q.0 q.1) (λ i. (alike.0 i, sym z.5 i)) asks)));
  }

  -- One view changes
  module _ {at : ℕ → Option File} {range : ℕ × ℕ} {views : List V} (id : ℕ) {v : V} (w : V) (here : get_elem? views id ≡ some v) {words : List ℕ}
      (ok : RangeCounts logs change number asked at range views words) where
    -- one word changes at most, and the questions of others that are there were there
    pub counts_after : {at' : ℕ → Option File} {words' : List ℕ}
        → ((g : ℕ) → g < groups_in range.1 → GroupCounts change at' range (set views id w) g (get_or words' (group_place g) 0))
        → ((n : ℕ) → AreFull change at range views n → AreFull change at' range (set views id w) n)
        → ((j : ℕ) (u : V) (y : L) → j ≢ id → get_elem? views j ≡ some u → Contains (logs u) y → number y ≤ 64
        → HasQuestionOf (get_or words' question_place 0) (number y) → HasQuestionOf (get_or words question_place 0) (number y))
        → ((y : L) → Contains (logs w) y → number y ≤ 64 → HasQuestionOf (get_or words' question_place 0) (number y)
        → HasVisitedFull change at' range (set views id w) (asked y))
        → RangeCounts logs change number asked at' range (set views id w) words'
    counts_after groups keeps there own = record {
      groups = groups;
      questions = λ j u y is has few asks. ⊎_elim
          (λ (t : (j ≡ id) × (w ≡ u)). own y (subst (λ (z : V). Contains (logs z) y) (sym t.1) has) few asks)
          (λ t. visited_map (asked y) keeps (ok.questions j u y t.1 has few (there j u y t.0 t.1 has few asks))) (at_set views id j w u is);
    }

    -- the questions of all passes are as they were
    pub counts_kept : {at' : ℕ → Option File} {words' : List ℕ} → get_or words' question_place 0 ≡ get_or words question_place 0
        → ((g : ℕ) → g < groups_in range.1 → GroupCounts change at' range (set views id w) g (get_or words' (group_place g) 0))
        → ((n : ℕ) → AreFull change at range views n → AreFull change at' range (set views id w) n) → AskAlike logs number asked w v
        → RangeCounts logs change number asked at' range (set views id w) words'
    counts_kept {at'} {words'} word groups keeps asks = counts_after groups keeps
        (λ j u y other there has few. subst (λ (q : ℕ). HasQuestionOf q (number y)) word)
        (λ y has few there. let z = asks y has in subst (HasVisitedFull change at' range (set views id w)) z.3
        (visited_map (asked z.0) keeps (ok.questions id v z.0 here z.1 (omega (arith, few, z.2))
        (subst (λ (q : ℕ × ℕ). HasQuestionOf q.0 q.1) (λ i. (word i, sym z.2 i)) there))))

    -- a group of which nothing changes
    pub group_same : {g word : ℕ} → owing g (change w) ≡ owing g (change v) → g < groups_in range.1
        → word ≡ get_or words (group_place g) 0 → GroupCounts change at range (set views id w) g word
    group_same {g} same l is = let a = sum_set (λ u. owing g (change u)) views id v w here in let u = (ok.groups g l).counts in
        rw is record { counts = ap (λ (n : ℕ). (get_or words (group_place g) 0 + n) % 2 ^ 64) (omega (arith, a, same)) ∙ u }

    -- a slot changes
    module _ {words' : List ℕ} (s : ℕ) (old : Option File) (few : range.1 ≤ MOST_IN_RANGE) (was : at s ≡ old) (alike : CountAlike words' words)
        (asks : AskAlike logs number asked w v) (is : change w ≡ account range s old) where
      counts_swap : (new : Option File)
          → ((g : ℕ) → owing g (change v) + counted (is_in (group_start range g, group_len range.1 g) s) new
          ≡ cond (is_in (group_start range g, group_len range.1 g) s) 1 0)
          → ((n : ℕ) → AreFull change at range views n → AreFull change (changed_at at s new) range (set views id w) n)
          → RangeCounts logs change number asked (changed_at at s new) range (set views id w) words'
      counts_swap new balance keeps = counts_kept alike.0
          (λ g l. let u = (ok.groups g l).counts in let a = sum_set (λ u. owing g (change u)) views id v w here in
          let f = full_swap at (group_start range g, group_len range.1 g) s new in
          let e = ap (counted (is_in (group_start range g, group_len range.1 g) s)) was in let b = balance g in
          let c = ap (owing g) is ∙ owing_so range s g (not (is_some old)) in
          let d = one_in (is_in (group_start range g, group_len range.1 g) s) old in
          let h = full_few (changed_at at s new) (group_start range g) (group_len range.1 g) in let m = few_slots range.1 g in
          rw (alike.1 g (omega (arith, l, few_groups range.1 few))) record { counts = omega arith }) keeps asks

      -- a pass that has taken the slot off the count empties it
      pub counts_emptied : change v ≡ uncounted (is_in range s) true (group_of range s)
          → RangeCounts logs change number asked (changed_at at s None) range (set views id w) words'
      counts_emptied off = counts_swap None (λ g. let e = ap (owing g) off ∙ owing_so range s g true in
          let z = none_in (is_in (group_start range g, group_len range.1 g) s) in omega (arith, e, z)) keeps
        where
          calm_in : (n : ℕ) → AreFull change at range views n → is_in range s ≡ true → n ≤ group_of range s
          calm_in n o inside = o.calm id v (group_of range s) here (off ∙ ap (λ (b : Bool). uncounted b true (group_of range s)) inside)

          keeps : (n : ℕ) → AreFull change at range views n → AreFull change (changed_at at s None) range (set views id w) n
          keeps n o = full_still id w here o
              (λ i low high l. let other : i ≢ s = (λ (same : i ≡ s). let a = calm_in n o (in_range_so range s (omega (arith, low, same)) (omega (arith, high, same))) in
              let e = ap (group_of range) same in omega (arith, a, e, l)) in
              subst (λ (f : Option File). IsSome f) (sym (changed_else at s None i other)) (o.full i low high l))
              (λ g owes. let z = owes_to (is_in range s) (not (is_some old)) (sym is ∙ owes) in omega (arith, calm_in n o z.0, z.2))

      -- a pass that owes nothing fills it
      pub counts_filled : (f : File) → change v ≡ Outside → RangeCounts logs change number asked (changed_at at s (Some f)) range (set views id w) words'
      counts_filled f out = counts_swap (Some f) (λ g. let e = ap (owing g) out in omega (arith, e)) keeps
        where
          was_empty : (o : Option File) → not (is_some o) ≡ true → o ≡ None
          was_empty None e = refl
          was_empty (Some g) e = absurd (cc e)

          empty_here : old ≡ None → IsSome (at s) → ⊥
          empty_here none some_there = let e : IsSome {T = File} None = subst (λ (f : Option File). IsSome f) (was ∙ none) some_there in absurd (cc e)

          keeps : (n : ℕ) → AreFull change at range views n → AreFull change (changed_at at s (Some f)) range (set views id w) n
          keeps n o = full_still id w here o
              (λ i low high l. dite (ℕ_discrete i s) (λ same. subst (λ (f : Option File). IsSome f) (sym (changed_here at s (Some f) i same)) refl)
              (λ other. subst (λ (f : Option File). IsSome f) (sym (changed_else at s (Some f) i other)) (o.full i low high l)))
              (λ g owes. let z = owes_to (is_in range s) (not (is_some old)) (sym is ∙ owes) in
              dite (dec_le n g) (λ l. l) (λ below. ⊎_elim
              (λ inside. absurd (empty_here (was_empty old z.1) (o.full s inside.0 inside.1 (omega (arith, below, z.2)))))
              (λ out. let bad : true ≡ false = sym z.0 ∙ out.1 in absurd (cc bad)) (is_in_or range s)))
