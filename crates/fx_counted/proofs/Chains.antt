-- A draw keeps the rule.
use Rattle.fx_counted.proofs.{sum_by, ◌≡◌, ◌≢◌, ℕ, ◌+◌, ◌*◌, ◌%◌, ◌^◌, ◌<◌, ◌≤◌, Bool, true, false, cond, nat_lt, List, [], ◌∷◌, set, length, sym}
use Rattle.fx_counted.proofs.{refl, ap, ◌∙◌, subst, arith, eqb, lt-ltb, le-ltb, get_or-set_other, get_or-set_same, Option, ◌⊎◌, inl, dite, ⊎_elim}
use Rattle.fx_counted.proofs.{none, ℕ_discrete, dec_le, keeps, step, Closed, numbers_up_to, sum_by-cons, sum_set, sum_at, sum_le_at, once, placing}
use Rattle.fx_counted.proofs.{Phase, unborn, spare, file_in, Log, View, Idle, mul-add, mul-le-mul_left, Draws, DrawsKeep, end_in, first_or}
use Rattle.fx_counted.proofs.{DrawsChain, next_in, chain_given, Between, one_if, times, bit_here, once_is, once_more, length-set, count_by-le-length}
use Rattle.fx_counted.proofs.{bit_else, of_one, total_of_seat, passed, owner_same, grows_none, Turn, turn_of, word_at, now, its_log, step_kept}
use Rattle.fx_counted.proofs.{by_turn, Made, near, far, slot_same, control_same}
use Rattle.fx_counted.proofs.Words.{WorkAgrees, DrawsCount, control_place, draw_place, opening_of, chain_in, shown, drawn_of, ended_of}

-- the phases, where the numbers from lo to below hi are the pass's
abbrev given_out : ℕ → ℕ → ℕ → (ℕ → Phase) → ℕ → Phase
given_out lo hi p phase n = cond (nat_lt n lo) (phase n) (cond (nat_lt n hi) (spare p) (phase n))

given_either : (lo hi p : ℕ) (phase : ℕ → Phase) (n : ℕ) → ((lo ≤ n) × (n < hi) × (given_out lo hi p phase n ≡ spare p))
    ⊎ (((lo ≤ n) → (n < hi) → ⊥) × (given_out lo hi p phase n ≡ phase n))
given_either lo hi p phase n = grind arith

-- the chain that was drawn last is among those that were drawn
chain_drawn : (l : List ℕ) → 0 < first_or 0 l → 1 ≤ times (first_or 0 l) l
chain_drawn [] a = absurd (omega arith)
chain_drawn (c ∷ l) a = let b = bit_here c c refl in let e = sum_by-cons (λ d. one_if (eqb d c)) c l in omega arith

module _ (turn : Turn) where
  open turn use {st, v, r, id, x, here, one}

  abbrev found : ℕ
  found = word_at st.words draw_place

  abbrev d : DrawsCount v.start.chains v.start.numbers r.phase st.views found
  d = r.draws

  told_v : ended_of v ≡ one_if x.no_chains_left
  told_v = of_one (λ z. one_if z.no_chains_left) one

  drawn_v : (c : ℕ) → drawn_of c v ≡ times c x.drawn
  drawn_v c = of_one (λ z. times c z.drawn) one

  -- the pass's last chain was drawn
  pub chain_few : chain_in x ≤ d.given
  chain_few =
      grind (arith, chain_drawn, sum_at (drawn_of (chain_in x)) st.views id v here, drawn_v (chain_in x), d.each (chain_in x), once_is d.given (chain_in x))

  -- few passes get `None`, so the word doesn't overflow
  word_is : (found + 1) % 2 ^ 64 ≡ found + 1
  word_is = grind (arith, sum_le_at, count_by-le-length)

  module _ (idle : v.work ≡ Between Idle) (untold : x.no_chains_left ≡ false) (carried : List (ℕ × Option Closed)) (slots : ℕ) where
    -- the result of a draw
    abbrev Drawn : Type 0
    Drawn = Made turn carried draw_place (λ _. found + 1) (DrawsChain (step slots draw_place 1 0 none) (v, carried))

    -- a table's only pass has drawn all chains that were drawn
    alone : v.start.passes ≡ 1 → found ≡ chain_in x
    alone passes =
        let all : length v.logs ≡ v.start.passes = ap (length {A = Log}) one ∙ sym passes in
        let drawn_here = sym (drawn_v d.given) ∙ (sym (total_of_seat r.life id here all (λ z. times d.given z.drawn)) ∙ d.each d.given) in
        let none_told = total_of_seat r.life id here all (λ z. one_if z.no_chains_left) ∙ (told_v ∙ ap one_if untold) in let counts = d.counts in let few = chain_few in
        dite (dec_le d.given (chain_in x)) (λ le. omega (arith, le, few, counts, none_told))
        (λ gt. let none = (its_log turn).last d.given (omega (arith, gt)) in absurd (omega (arith, none, drawn_here, gt, once_is d.given d.given)))

    -- the obligations of a draw
    module _ (drawn : List ℕ) (told : Bool) (left : ℕ) (phase' : ℕ → Phase) where
      abbrev y : Log
      y = record x { drawn = drawn; no_chains_left = told; numbers_left = left; steps = x.steps + 1 }

      abbrev w : View
      w = now v y v.work v.change

      abbrev words' : List ℕ
      words' = set st.words draw_place (found + 1)

      read_else : (place : ℕ) → place ≢ draw_place → word_at words' place ≡ word_at st.words place
      read_else place other = get_or-set_other st.words draw_place place (found + 1) 0 other

      -- a number's phase stays, or the number becomes the pass's
      abbrev Phases : Type 0
      Phases = (n : ℕ) → (r.phase n ≡ phase' n) ⊎ ((r.phase n ≡ unborn) × (phase' n ≡ spare x.number))

      either_phase : {P : Type 0} → Phases → {n : ℕ} → (r.phase n ≡ phase' n → P) → (r.phase n ≡ unborn → phase' n ≡ spare x.number → P) → P
      either_phase phases {n} same new = ⊎_elim (λ e. same e) (λ t. new t.0 t.1) (phases n)

      drawn_so : Phases → first_or 0 drawn ≤ v.start.chains → ((c : ℕ) → first_or 0 drawn < c → times c drawn ≡ 0) → left ≤ 64
          → left ≤ v.start.numbers * first_or 0 drawn → ((n : ℕ) → next_in v.start y ≤ n → n < end_in v.start y → phase' n ≡ spare x.number)
          → DrawsCount v.start.chains v.start.numbers phase' (set st.views id w) (found + 1)
          → Draws (opening_of v.start) (shown x v.work) (chain_given v.start.chains found) (shown y v.work) → Drawn
      drawn_so phases chain last few inside spares draws given = let apart = far turn in (
        w,
        keeps,
        tt,
        step_kept turn y v.work v.change r.history phase' words' st.homes record {
          words = length-set st.words draw_place (found + 1);
          homes = refl;
          number = refl;
          grows = grows_none x.number r.history;
          legal = r.life.legal;
          slots = λ s l. grind (arith, slot_same, read_else, either_phase);
          nodes = λ n has. grind (arith, read_else, either_phase);
          owners = λ n has. grind (arith, either_phase, set, owner_same);
          no_other = r.no_other;
          stays = grind (arith, either_phase);
          keeps = λ j u f other there holds. either_phase phases (λ e. ap file_in (sym e)) (λ new its. ap file_in its ∙ sym (ap file_in new));
          seen = let p = passed turn in record { seen = p.seen; own = p.own };
          log = grind (arith, its_log, spare);
          work = subst (WorkAgrees v.start phase' id) (sym idle) tt;
          holds = λ n. omega arith;
          look_ups = omega arith;
          control = control_same st.views id v w here refl (read_else control_place apart.control_and_draw) refl r.control;
          draws = rw (get_or-set_same st.words draw_place (found + 1) 0 (let a = r.shape.words in let b = (near turn).draw in omega arith)) draws;
        },
        grind (arith, alone),
      )

    -- there is a next chain
    module _ (more : found < v.start.chains) where
      abbrev lo : ℕ
      lo = numbers_up_to v.start.numbers found

      abbrev hi : ℕ
      hi = numbers_up_to v.start.numbers (found + 1)

      nobody_told : sum_by ended_of st.views ≡ 0
      nobody_told = grind arith

      given_is : d.given ≡ found
      given_is = let a = nobody_told in let b = d.counts in omega arith

      -- the numbers of one chain more
      one_more : v.start.numbers * (found + 1) ≡ v.start.numbers * found + v.start.numbers
      one_more = let a = mul-add v.start.numbers found 1 in omega (arith, a)

      given_numbers : v.start.numbers * d.given ≡ v.start.numbers * found
      given_numbers = ap (λ (c : ℕ). v.start.numbers * c) given_is

      abbrev phase' : ℕ → Phase
      phase' = given_out lo hi x.number r.phase

      phases : (n : ℕ) → (r.phase n ≡ phase' n) ⊎ ((r.phase n ≡ unborn) × (phase' n ≡ spare x.number))
      phases n = grind (arith, mul-le-mul_left)

      next_drawn : Drawn
      next_drawn = let w = w ((found + 1) ∷ x.drawn) x.no_chains_left v.start.numbers phase' in let t = sum_set ended_of st.views id v w here in
          let tv = told_v in let z = nobody_told in let g = given_is in let few = chain_few in
          drawn_so ((found + 1) ∷ x.drawn) x.no_chains_left v.start.numbers phase' phases (omega arith)
          (λ c behind. let first = sum_by-cons (λ d. one_if (eqb d c)) (found + 1) x.drawn in
          let other = bit_else c (found + 1) (omega (arith, behind)) in let rest = (its_log turn).last c (omega (arith, behind, few, g)) in
          omega (arith, first, other, rest)) r.shape.numbers (omega (arith, one_more))
          (λ n low high. ⊎_elim (λ t. t.2) (λ t. absurd (t.0 (omega (arith, low, one_more)) high)) (given_either lo hi x.number r.phase n)) record {
            given = found + 1;
            few = omega arith;
            each = λ c. let s = sum_set (drawn_of c) st.views id v w here in let e = d.each c in let dv = drawn_v c in
                let co = sum_by-cons (λ d. one_if (eqb d c)) (found + 1) x.drawn in grind (arith, once, once_more found (found + 1) c refl);
            counts = let b = d.counts in omega arith;
            all = λ some_told. absurd (omega arith);
            unused = λ n low high. grind (arith, given_either, given_numbers, one_more);
          } (rw (lt-ltb found v.start.chains more) (untold, omega arith, omega arith, refl))

    -- there are no more
    none_drawn : v.start.chains ≤ found → Drawn
    none_drawn done = let w = w x.drawn true x.numbers_left r.phase in let t = sum_set ended_of st.views id v w here in
        let tv = told_v in let u = ap one_if untold in let b = d.counts in let few = d.few in let o = its_log turn in let p = ap placing idle in
        drawn_so x.drawn true x.numbers_left r.phase (λ n. inl refl) o.chain o.last o.few_left o.left_inside
        (λ n low high. o.spares n (omega arith) high) record {
          given = d.given;
          few = d.few;
          each = λ c. let s = sum_set (drawn_of c) st.views id v w here in let e = d.each c in let dv = drawn_v c in omega arith;
          counts = omega arith;
          all = λ some_told. dite (ℕ_discrete (sum_by ended_of st.views) 0) (λ e. omega (arith, e)) (λ ne. d.all (omega (arith, ne)));
          unused = d.unused;
        } (rw (le-ltb found v.start.chains done) refl)

pub draws_keep : DrawsKeep
draws_keep k slots id i m x has idle untold place = by_turn slots (λ _. Unit {0}) (λ _. draw_place) (λ word. (word + 1) % 2 ^ 64)
    (λ i. DrawsChain (step slots i 1 0 none) m) has tt place (λ st r here _ fits. let turn = turn_of m x has.1 id st r here in
    rw (word_is turn) (dite (dec_le (found turn + 1) m.0.start.chains)
    (λ next. next_drawn turn idle untold m.1 slots (omega (arith, next)))
    (λ done. none_drawn turn idle untold m.1 slots (omega (arith, done)))))
