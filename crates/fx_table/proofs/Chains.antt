-- Chains: each is drawn once, by one pass.
use Rattle.fx_table.proofs.Words.{common_steps, ◌≡◌, ℕ, ◌≤◌, true, false, cond, List, [], ◌∷◌, map, sym, refl, ap, subst, ◌∙◌, arith, eqb, eq-eqb}
use Rattle.fx_table.proofs.Words.{⊎_elim, Contains, dite, ℕ_discrete, sum_by, count_by, Contains-append_cases, sum_by-cons, Contents, part_of_pass}
use Rattle.fx_table.proofs.Words.{Event, Action, Doing, Opening, PassView, event_of, Use, Adds, ClosesTable, times_drawn, suc, ◌+◌, ◌-◌, ◌<◌, ◌++◌}
use Rattle.fx_table.proofs.Words.{length, take, All, range_with_len, ◌⊎◌, inl, zero, part_of_chain, IsOfDrawnChains, IsIdle, new_pass, new_passes}
use Rattle.fx_table.proofs.Words.{next_number, length-append, ◌*◌, ◌/◌, ◌%◌, mul-le-mul_right, lt_of_not-le, div-add-mod', mod-lt, map_push, All-push}
use Rattle.fx_table.proofs.Words.{All-contains, chains_of_pass, last_chain_of_pass, pass_of_chain, pass_of_number, map-range_with_len_more}
use Rattle.fx_table.proofs.SumLemmas.{contains_none, contains_head, contains_tail, contains_cases, contains_map, bit_here, one_if, bit_else, found_by}
use Rattle.fx_table.proofs.SumLemmas.{sum_of, sum_le_of}
use Rattle.fx_table.specs.Turns.{HasDrawnInTurn}

-- an element of a list is counted at least once
pub some_times : (c : ℕ) (l : List ℕ) → Contains l c → 1 ≤ count_by (λ d. eqb d c) l
some_times c l h = omega (arith, bit_here c c refl, sum_of (λ d. one_if (eqb d c)) l c h)

-- an element that is counted at least once is in the list
pub some_there : (c : ℕ) (l : List ℕ) → 1 ≤ count_by (λ d. eqb d c) l → Contains l c
some_there c l low = let d = found_by (λ n. n) c l low in subst (Contains l) d.2 d.1

-- if the passes drew a chain at most once in all, at most one of them drew it
pub one_pass : (c : ℕ) (vs : List PassView) → sum_by (times_drawn c) vs ≤ 1 → (v w : PassView)
    → Contains vs v → Contains vs w → Contains v.drawn c → Contains w.drawn c → v ≡ w
one_pass c [] few v w h i d e = absurd (contains_none v h)
one_pass c (u ∷ vs) few v w h i d e =
    let sum = sum_by-cons (times_drawn c) u vs in let vs_one = some_times c v.drawn d in let ws_one = some_times c w.drawn e in ⊎_elim
    (λ (is : v ≡ u). ⊎_elim
    (λ (same : w ≡ u). is ∙ sym same)
    (λ t. absurd (let a = ap (times_drawn c) is in let r = sum_of (times_drawn c) vs w t in omega arith)) (contains_cases u vs w i))
    (λ s. ⊎_elim
    (λ (same : w ≡ u). absurd (let a = ap (times_drawn c) same in let r = sum_of (times_drawn c) vs v s in omega arith))
    (λ t. one_pass c vs (omega arith) v w s t d e) (contains_cases u vs w i))
    (contains_cases u vs v h)

pub one_pass_of_chain : (o : Opening) (passes : List PassView) (left : Contents) (chain : ℕ) (one other : PassView)
    → ClosesTable o passes left → Contains passes one → Contains passes other → Contains one.drawn chain → Contains other.drawn chain → one ≡ other
one_pass_of_chain o passes left chain one other k h i d e = one_pass chain passes (k.drawn_once chain) one other h i d e

-- an event of a pass is in the pass's part
pub in_part : (p : ℕ) (h : List Event) (e : Event) → Contains h e → e.pass ≡ p → Contains (part_of_pass p h) e
in_part p [] e i is = absurd (contains_none e i)
in_part p (x ∷ h) e i is = ⊎_elim (grind (arith, contains_head))
    (λ t. elim (eqb x.pass p) as (λ b. Contains (cond b (x ∷ part_of_pass p h) (part_of_pass p h)) e)
    [ true ↦ contains_tail x (part_of_pass p h) e (in_part p h e t is) | false ↦ in_part p h e t is ])
    (contains_cases x h e i)

-- if all events of a chain are of one pass, the chain's part is a part of the pass's part
chain_in_pass : (c p : ℕ) (h : List Event) → ((e : Event) → Contains h e → e.chain ≡ c → e.pass ≡ p)
    → part_of_chain c h ≡ part_of_chain c (part_of_pass p h)
chain_in_pass c p [] one = refl
chain_in_pass c p (e ∷ h) one =
    let rest = chain_in_pass c p h (λ x i. one x (contains_tail e h x i)) in
    dite (ℕ_discrete e.chain c)
    (λ same. rw (eq-eqb e.pass p (one e (contains_head e h) same), eq-eqb e.chain c same) (ap (λ (l : List Event). e ∷ l) rest))
    (grind arith)

pub part_of_drawn : (o : Opening) (passes : List PassView) (left : Contents) (chain : ℕ) (v : PassView) (closing : ClosesTable o passes left)
    → ((w : PassView) → Contains passes w → IsOfDrawnChains w) → Contains passes v → Contains v.drawn chain
    → part_of_chain chain closing.history ≡ part_of_chain chain v.own
part_of_drawn o passes left chain v k drawn_for at drew =
    chain_in_pass chain v.number k.history (λ e i is.
    let a = k.authors e i in
    let mine : Contains a.0.own e = subst (λ (l : List Event). Contains l e) (k.own a.0 a.1) (in_part a.0.number k.history e i a.2) in
    let same = one_pass chain passes (k.drawn_once chain) a.0 v a.1 at (subst (Contains a.0.drawn) is (drawn_for a.0 a.1 e mine)) drew in
    a.2 ∙ ap (λ (z : PassView). z.number) same)
    ∙ ap (part_of_chain chain) (k.own v at)

-- a call's events are of the pass's last chain
pub keeps_drawn_chains : (o : Opening) (before after : PassView) (actions : List Action) (doing : Doing) (used : Use)
    → Contains before.drawn before.chain → IsOfDrawnChains before → Adds o before actions doing used after → IsOfDrawnChains after
keeps_drawn_chains o before after actions doing used drew so_far adds e h =
    rw adds.drawn (⊎_elim
    (λ new. rw (ap (λ (z : Event). z.chain) (contains_map (event_of before) actions e new).2) drew)
    (λ old. so_far e old)
    (Contains-append_cases (map (event_of before) actions) before.own e (subst (λ (l : List Event). Contains l e) adds.own h)))

-- Passes are handed out, one for each number from 1 on.

-- the passes that remain to be handed out of n, if p is next
module _ {X : Type 0} (new : ℕ → X) (p n : ℕ) where
  abbrev left : ℕ → List X
  left q = map new (range_with_len q ((n + 1) - q))

  pub first_left : p ≤ n → left p ≡ new p ∷ left (p + 1)
  first_left few = let e : (n + 1) - p ≡ suc ((n + 1) - (p + 1)) = omega arith in rw e

  pub last_left : p ≡ n → left p ≡ take 1 (left p)
  last_left last = let e : (n + 1) - p ≡ 1 = omega arith in rw e

module _ {P : Type 0} (Is : P → Type 0) (shown : P → PassView) where
  -- an idle pass of the table
  abbrev pub IsReady : P → Type 0
  IsReady p = Is p × IsIdle (shown p)

  pub fits : (ps : List P) → All IsReady ps → (p : P) → Contains ps p → Is p
  fits ps ready p h = (All-contains IsReady ps p ready h).0

  -- the passes before p were handed out, of n
  pub record AreDealt (p n : ℕ) (list : List P) : Type 0 where
    pub low : 1 ≤ p
    pub high : p ≤ n
    pub ready : All IsReady list
    pub new : map shown list ≡ new_passes (p - 1)
    pub count : length list + 1 ≡ p

module _ {P : Type 0} {Is : P → Type 0} {shown : P → PassView} {p n : ℕ} {old list : List P} {x : P} (dealt : AreDealt Is shown p n old)
    (pushed : list ≡ old ++ x ∷ []) (new : Is x × (shown x ≡ new_pass p)) where
  ready_now : All (IsReady Is shown) list
  ready_now = rw pushed (All-push (IsReady Is shown) old x dealt.ready (new.0, ap (λ (v : PassView). v.doing) new.1))

  new_now : map shown list ≡ new_passes p
  new_now =
      let next : 1 + (p - 1) ≡ p = omega arith in grind (arith, pushed, map_push, dealt.new, new.1, map-range_with_len_more new_pass 1 (p - 1) p next)

  count_now : length list ≡ p
  count_now = omega (arith, dealt.count, ap (length {A = P}) pushed, length-append old (x ∷ []))

  pub one_dealt : p < n → AreDealt Is shown (p + 1) n list
  one_dealt few = grind (arith, common_steps, ready_now, new_now, count_now)

  pub all_dealt : p ≡ n → All (IsReady Is shown) list × (length list ≡ n) × (map shown list ≡ new_passes n)
  all_dealt last = (ready_now, count_now ∙ last, new_now ∙ ap new_passes last)

-- Passes that take turns at the chains: each chain is drawn exactly once.

chain_is_there : (p n count i : ℕ) → i < count → Contains (chains_of_pass p n count) (p + i * n)
chain_is_there p n zero i l = absurd (omega arith)
chain_is_there p n (suc k) i l = dite (ℕ_discrete i k) (grind (arith, contains_head))
    (λ other. contains_tail (p + k * n) (chains_of_pass p n k) (p + i * n) (chain_is_there p n k i (omega (arith, other, l))))

chain_place : (p n count c : ℕ) → Contains (chains_of_pass p n count) c → (i : ℕ) × (i < count) × (c ≡ p + i * n)
chain_place p n zero c h = absurd (contains_none c h)
chain_place p n (suc k) c (zero, inside, is) = (k, omega arith, sym is)
chain_place p n (suc k) c (suc j, inside, is) = grind (arith, chain_place p n k c (j, omega (arith, inside), is))

-- a chain of the pass is no later than its last
chain_below : (p n count c : ℕ) → Contains (chains_of_pass p n count) c → c ≤ last_chain_of_pass p n count
chain_below p n zero c h = absurd (contains_none c h)
chain_below p n (suc k) c h =
    let (i, inside, is) = chain_place p n (suc k) c h in grind (arith, common_steps, inside, is)

-- the number of times that the chain is among the pass's first `count`
abbrev times : ℕ → ℕ → ℕ → ℕ → ℕ
times c p n count = count_by (λ d. eqb d c) (chains_of_pass p n count)

times_more : (c p n k : ℕ) → times c p n (suc k) ≡ cond (eqb (p + k * n) c) 1 0 + times c p n k
times_more c p n k = sum_by-cons (λ d. cond (eqb d c) 1 0) (p + k * n) (chains_of_pass p n k)

chain_of_its_pass : (p n i : ℕ) → 1 ≤ p → p ≤ n → pass_of_chain n (p + i * n) ≡ p
chain_of_its_pass p n i low high = grind arith

-- a pass has drawn a chain at most once, and only one of its own
times_cases : (p n count c : ℕ) → 1 ≤ p → p ≤ n
    → (times c p n count ≡ 0) ⊎ ((times c p n count ≡ 1) × (c < p + count * n) × (p ≡ pass_of_chain n c))
times_cases p n zero c low high = inl refl
times_cases p n (suc k) c low high = grind (arith, times_cases p n k c low high, times_more, chain_of_its_pass, bit_here, bit_else)

-- the next number of a pass of n is one of its own
number_of_its_pass : (n p count : ℕ) → 1 ≤ p → p ≤ n → (left : ℕ) → 1 ≤ left → left ≤ 64
    → pass_of_number n ((256 + 64 * (p + count * n)) - left) ≡ p
number_of_its_pass n p count low high left one few = grind arith

-- a pass that has numbers left
module _ (o : Opening) (v : PassView) (some_left : 0 < v.numbers_left) where
  next_of_chain : (count : ℕ) → HasDrawnInTurn o count v → pass_of_number o.passes (next_number o v) ≡ v.number
  next_of_chain count t = grind (arith, number_of_its_pass)

  -- its next number is one of its own, from 256 on, and the table has it
  pub next_is_its_own : (count : ℕ) → HasDrawnInTurn o count v
      → (pass_of_number o.passes (next_number o v) ≡ v.number) × (256 ≤ next_number o v) × (next_number o v < 256 + 64 * o.chains)
  next_is_its_own count t = grind (arith, next_of_chain)

-- all passes of a closed table
module _ (o : Opening) (vs : List PassView) (counts : (v : PassView) → Contains vs v → (count : ℕ) × HasDrawnInTurn o count v) where
  pub drawn_inside : (v : PassView) → Contains vs v → (c : ℕ) → Contains v.drawn c → (0 < c) × (c ≤ o.chains)
  drawn_inside v h c d =
      let (count, t) = counts v h in
      let there = rw t.drawn at d in grind (arith, chain_place v.number o.passes count c there, chain_below)

  -- no chain is drawn more often than there are passes of its number
  pub drawn_few : (c : ℕ) → sum_by (times_drawn c) vs ≤ count_by (λ v. eqb v.number (pass_of_chain o.passes c)) vs
  drawn_few c = sum_le_of (times_drawn c) (λ v. cond (eqb v.number (pass_of_chain o.passes c)) 1 0) vs (λ v h.
      let (count, t) = counts v h in rw t.drawn (grind (arith, times_cases)))

  -- if each number has its pass, and each pass drew all its chains, each chain was drawn
  pub all_are_drawn : 0 < o.passes → ((n : ℕ) → 1 ≤ n → n ≤ o.passes → (v : PassView) × Contains vs v × (v.number ≡ n))
      → ((v : PassView) → Contains vs v → v.no_chains_left ≡ true)
      → (c : ℕ) → 0 < c → c ≤ o.chains → (v : PassView) × Contains vs v × Contains v.drawn c
  all_are_drawn some pass_of ended c low high =
      let n : ℕ = o.passes in
      let b : ℕ = c - 1 in
      let small : b % n < n = mod-lt b some in
      let q : ℕ = b / n in
      let rest : ℕ = b % n in
      let (v, at, number) = pass_of (rest + 1) (omega arith) (omega (arith, small)) in
      let (count, t) = counts v at in
      let u : ℕ = q * n in
      let whole : u + rest ≡ b = div-add-mod' b n in
      let is : c ≡ v.number + u = omega (arith, whole, number, low) in
      let past : o.chains < v.number + count * n = t.last_drawn (ended v at) in
      let fewer : q < count = lt_of_not-le (λ le. let m : count * n ≤ q * n = mul-le-mul_right n le in omega (arith, m, past, is, high)) in
      let there = subst (Contains (chains_of_pass v.number n count)) (sym is) (chain_is_there v.number n count q fewer) in
      (v, at, rw t.drawn there)
