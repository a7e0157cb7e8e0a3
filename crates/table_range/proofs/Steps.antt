-- A step on a word of the range by a seat with one pass keeps the rule: one lemma for each kind.
use Rattle.table_range.proofs.Words.{◌≡◌, ◌≢◌, ℕ, ◌+◌, ◌%◌, ◌^◌, ◌<◌, ◌≤◌, List, [], ◌∷◌, set, get_or, sym, refl, ap, ◌∙◌, subst, arith, ⊎_elim, inl}
use Rattle.table_range.proofs.Words.{Option, IsSome, dite, ℕ_discrete, File, Contains, contains_only, contains_alone, some, get_elem?, sum_set, bit_here, bit_else}
use Rattle.table_range.proofs.Words.{lowered, raised, owing, bit_of, HasQuestionOf, with_question, GroupCounts, RangeCounts, AreFull, HasVisitedFull}
use Rattle.table_range.proofs.Words.{question_place, group_place, groups_in, group_of, Change, Outside, Lowered, Inside, Survey, NotAsked, Covered, bit_or}
use Rattle.table_range.proofs.GroupSlots.{is_group}
use Rattle.table_range.proofs.Bits.{bit_added, bit_was}
use Rattle.table_range.proofs.Counting.{none_asks, AskAlike, counts_after, counts_kept, full_still, full_same, group_same, visited_map}

-- the word at a place becomes y
pub record IsWritten (words words' : List ℕ) (place y : ℕ) : Type 0 where
  pub here : get_or words' place 0 ≡ y
  pub others : (other : ℕ) → other ≢ place → get_or words' other 0 ≡ get_or words other 0

-- no group is visited yet
pub none_visited : {V : Type 0} {change : V → Change} {at : ℕ → Option File} {range : ℕ × ℕ} {views : List V} → AreFull change at range views 0
none_visited = record { full = λ s low high l. absurd (omega (arith, l)); calm = λ j u m there is. omega arith }

-- what a pass knows that has asked, and that the range is full if it has visited all groups
module _ {V L : Type 0} {logs : V → List L} {change : V → Change} {number : L → ℕ} {asked : L → Survey} {at : ℕ → Option File} {range : ℕ × ℕ}
    {views : List V} {words : List ℕ} (ok : RangeCounts logs change number asked at range views words) (id : ℕ) {v : V} (here : get_elem? views id ≡ some v)
    {x : L} (one : logs v ≡ x ∷ []) (few : number x ≤ 64) (there : HasQuestionOf (get_or words question_place 0) (number x)) where
  pub visited : HasVisitedFull change at range views (asked x)
  visited = ok.questions id v x here (contains_alone one) few there

  pub range_full : asked x ≡ Covered (groups_in range.1) → (s : ℕ) → range.0 ≤ s → s < range.0 + range.1 → IsSome (at s)
  range_full all s low high = (subst (HasVisitedFull change at range views) all visited).full s low high (is_group range s low high)

owing_else : (g n : ℕ) → n ≢ g → owing n (Inside g) ≡ 0
owing_else g n other = bit_else n g (λ same. other (sym same))

owing_here : (g : ℕ) → owing g (Inside g) ≡ 1
owing_here g = bit_here g g refl

module _ {V L : Type 0} {logs : V → List L} {change : V → Change} {number : L → ℕ} {asked : L → Survey} {at : ℕ → Option File} {range : ℕ × ℕ}
    {views : List V} {words : List ℕ} (ok : RangeCounts logs change number asked at range views words) (id : ℕ) {v : V} (w : V)
    (here : get_elem? views id ≡ some v) where
  -- a group's word changes by as much as the account of the pass with the group
  module _ (g : ℕ) (its : g < groups_in range.1) where
    turned : {words' : List ℕ} (y : ℕ) → IsWritten words words' (group_place g) y → AskAlike logs number asked w v
        → ((n : ℕ) → n ≢ g → owing n (change w) ≡ owing n (change v))
        → (y + owing g (change w)) % 2 ^ 64 ≡ (get_or words (group_place g) 0 + owing g (change v)) % 2 ^ 64
        → ((n : ℕ) → change w ≡ Inside n → ⊥) → RangeCounts logs change number asked at range (set views id w) words'
    turned {words'} y wrote alike else balance calm = counts_kept id w here ok (wrote.others question_place (λ bad. omega (arith, bad)))
        (λ n l. dite (ℕ_discrete n g)
        (λ same. subst (λ (m : ℕ). GroupCounts change at range (set views id w) m (get_or words' (group_place m) 0)) (sym same)
        (subst (GroupCounts change at range (set views id w) g) (sym wrote.here)
        (let a = sum_set (λ u. owing g (change u)) views id v w here in let u = (ok.groups g its).counts in record { counts = omega (arith, a, u, balance) })))
        (λ other. group_same id w here ok (else n other) l (wrote.others (group_place n) (λ bad. other (omega (arith, bad))))))
        (λ n o. full_still id w here o o.full (λ m is. absurd (calm m is))) alike

    -- a pass takes a slot of a group off the count
    pub counts_lowered : {words' : List ℕ} → IsWritten words words' (group_place g) (lowered (get_or words (group_place g) 0)) → AskAlike logs number asked w v
        → change v ≡ Outside → change w ≡ Lowered g → RangeCounts logs change number asked at range (set views id w) words'
    counts_lowered wrote alike out is = turned (lowered (get_or words (group_place g) 0)) wrote alike
        (λ n other. ap (owing n) is ∙ (owing_else g n other ∙ sym (ap (owing n) out)))
        (let a = owing_here g in let b = ap (owing g) out in let c = ap (owing g) is in omega (arith, a, b, c))
        (λ m inside. let bad : Lowered g ≡ Inside m = sym is ∙ inside in absurd (cc bad))

    -- a pass adds one that it owes
    pub counts_raised : {words' : List ℕ} → IsWritten words words' (group_place g) (raised (get_or words (group_place g) 0)) → AskAlike logs number asked w v
        → change v ≡ Inside g → change w ≡ Outside → RangeCounts logs change number asked at range (set views id w) words'
    counts_raised wrote alike inside is = turned (raised (get_or words (group_place g) 0)) wrote alike
        (λ n other. ap (owing n) is ∙ sym (ap (owing n) inside ∙ owing_else g n other))
        (let a = owing_here g in let b = ap (owing g) inside in let c = ap (owing g) is in omega (arith, a, b, c))
        (λ m in_it. let bad : Outside ≡ Inside m = sym is ∙ in_it in absurd (cc bad))

  -- nobody asks any more: the pass may empty a slot
  pub counts_cleared : {words' : List ℕ} → IsWritten words words' question_place 0 → (g : ℕ) → change v ≡ Lowered g → change w ≡ Inside g
      → RangeCounts logs change number asked at range (set views id w) words'
  counts_cleared wrote g was is = record {
    groups = λ n l. group_same id w here ok (ap (owing n) is ∙ sym (ap (owing n) was)) l (wrote.others (group_place n) (λ bad. omega (arith, bad)));
    questions = λ j u y there has few asks. absurd (none_asks (number y) wrote.here asks);
  }

  -- Steps that change what the pass asks
  module _ (same : change w ≡ change v) (x x' : L) (one : logs v ≡ x ∷ []) (one' : logs w ≡ x' ∷ []) (its : number x' ≡ number x) where
    -- the question of the pass itself
    own : (words' : List ℕ) → (number x ≤ 64 → HasQuestionOf (get_or words' question_place 0) (number x) → HasVisitedFull change at range views (asked x'))
        → (y : L) → Contains (logs w) y → number y ≤ 64 → HasQuestionOf (get_or words' question_place 0) (number y)
        → HasVisitedFull change at range (set views id w) (asked y)
    own words' f y has few there = let is : y ≡ x' = contains_only x' y (subst (λ (l : List L). Contains l y) one' has) in
        let n : number y ≡ number x = ap number is ∙ its in
        subst (λ (z : L). HasVisitedFull change at range (set views id w) (asked z)) (sym is)
        (visited_map (asked x') (λ n. full_same id w here same)
        (f (omega (arith, few, n)) (subst (λ (p : ℕ). HasQuestionOf (get_or words' question_place 0) p) n there)))

    -- the pass reads a word. Then it has asked what it knows
    pub counts_read : {words' : List ℕ} → ((place : ℕ) → get_or words' place 0 ≡ get_or words place 0)
        → (number x ≤ 64 → HasQuestionOf (get_or words question_place 0) (number x) → HasVisitedFull change at range views (asked x'))
        → RangeCounts logs change number asked at range (set views id w) words'
    counts_read {words'} alike f = counts_after id w here ok
        (λ n l. group_same id w here ok (ap (owing n) same) l (alike (group_place n))) (λ n. full_same id w here same)
        (λ j u y other there has few. subst (λ (q : ℕ). HasQuestionOf q (number y)) (alike question_place))
        (own words' (λ few there. f few (subst (λ (q : ℕ). HasQuestionOf q (number x)) (alike question_place) there)))

    -- the pass sets its bit, which is not there
    module _ (few : number x ≤ 64) (low : 0 < number x) (not_yet : asked x ≡ NotAsked) (fits : get_or words question_place 0 < 18446744073709551616) where
      clear : HasQuestionOf (get_or words question_place 0) (number x) → ⊥
      clear there = subst (HasVisitedFull change at range views) not_yet (visited ok id here one few there)

      pub is_set : with_question (number x) (get_or words question_place 0) ≡ bit_or (get_or words question_place 0) (2 ^ bit_of (number x))
      is_set = bit_added (get_or words question_place 0) (bit_of (number x)) fits (omega arith) clear

      pub counts_asked : {words' : List ℕ} → IsWritten words words' question_place (with_question (number x) (get_or words question_place 0)) → asked x' ≡ Covered 0
          → ((j : ℕ) (u : V) (y : L) → j ≢ id → get_elem? views j ≡ some u → Contains (logs u) y → (0 < number y) × (number y ≢ number x))
          → RangeCounts logs change number asked at range (set views id w) words'
      counts_asked {words'} wrote covered others = counts_after id w here ok
          (λ n l. group_same id w here ok (ap (owing n) same) l (wrote.others (group_place n) (λ bad. omega (arith, bad))))
          (λ n. full_same id w here same)
          (λ j u y other there has few_y asks. let o = others j u y other there has in ⊎_elim (λ before. before)
          (λ bits. absurd (o.1 (omega (arith, bits, few, few_y, low, o.0))))
          (bit_was (number x) (get_or words question_place 0) (number y) (subst (λ (q : ℕ). HasQuestionOf q (number y)) (wrote.here ∙ is_set) asks)))
          (own words' (λ _ _. subst (HasVisitedFull change at range views) (sym covered) none_visited))
