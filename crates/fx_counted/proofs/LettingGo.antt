-- A birth keeps the rule, and so does a rest.
use Rattle.fx_counted.proofs.Words.{◌≡◌, ◌≢◌, ℕ, ◌+◌, ◌-◌, ◌%◌, ◌^◌, ◌<◌, ◌≤◌, List, ◌∷◌, ◌++◌, map, set, sym, refl, ap, ◌∙◌, arith, eq-eqb, Option}
use Rattle.fx_counted.proofs.Words.{Some, None, some, none, keeps, takes, set_here, set_else, Closed, ◌▷◌, State, File, Event, Close, Action, no_use}
use Rattle.fx_counted.proofs.Words.{event_of, sum_two, held_by, part_of_pass, NodeAgrees, OwnerAgrees, looks, word_of, place_of, IsNumber, shown, Sat}
use Rattle.fx_counted.proofs.Words.{state_after_all, end_in, next_in, placing, held_of, holding, Phase, spare, emptied, file_in, changed_at, TakesOut}
use Rattle.fx_counted.proofs.Words.{LetsGo, Idle, Holding, Emptying, Between, changed_here, changed_else, length-set, [], subst, dite, ℕ_discrete}
use Rattle.fx_counted.proofs.Words.{step, retire_amount_of, WorkAgrees, leaving, retired, owner, Retiring, RetiresKeep, Retires, inr, inl, ◌⊎◌, gives}
use Rattle.fx_counted.proofs.Words.{⊎_elim, Release, sum_at, ReleasesKeep, Releases, one_less_at, length, get_elem?, rest, next_number, born, Home}
use Rattle.fx_counted.proofs.Words.{PlacesNext, opening_of, first_log, pass_of, held_in, placed, closed, Stepped, View, Placing, mul-le-mul_left, Log}
use Rattle.fx_counted.proofs.Words.{BirthsKeep, RestsKeep, Births, Rests, Work, Agrees, Shared}
use Rattle.fx_counted.proofs.Steps.{busy, does_now, Grows, IsHistory, grows_more, legal_more, held_mine, part_mine, looks_few, Homes, MayTurn, Turn}
use Rattle.fx_counted.proofs.Steps.{its_log, tells, Made, went, OneNumber, NodeStep, node_agrees, in_phase, turn_of, its_work, by_turn, owner_stays}
use Rattle.fx_counted.proofs.Steps.{grows_one, NodeIn, grows_none, each_changed, word_at, tells_none, one_same, near, far}
use mathlib.Core.Option as maybe

module _ (turn : Turn) where
  open turn use {st, v, r, id, x, here, one}

  abbrev pub word_now : ℕ → ℕ
  word_now q = word_at st.words (word_of v.start q)

  abbrev pub home_now : ℕ → Home
  home_now q = get_elem? st.homes (place_of v.start q)

  -- the table where a number has this word, this lies in its place, and the pass does this
  abbrev changed_to : ℕ → ℕ → maybe.Option (Option Closed) → Work → Shared
  changed_to q word' lies d = record {
    words = set st.words (word_of v.start q) word';
    homes = set st.homes (place_of v.start q) lies;
    views = set st.views id (went turn r.history d v.change);
  }

  pub roomy : {q : ℕ} → IsNumber v.start q → place_of v.start q < length st.homes
  roomy {q} its = let a = r.shape.homes in let b = (near turn).home q its in omega arith

  pub else_place : {q : ℕ} → IsNumber v.start q → {n : ℕ} → IsNumber v.start n → n ≢ q → place_of v.start n ≢ place_of v.start q
  else_place {q} its {n} has other = (far turn).homes n q has its other

  -- nobody holds the file of a number without one
  pub unheld : (q : ℕ) → file_in (r.phase q) ≡ None → (j : ℕ) (u : View) (f : File) → get_elem? st.views j ≡ some u → u.work ≡ Between (Holding f)
      → f.number ≡ q → ⊥
  unheld q empty j u f there holds same = grind arith

  -- a step on the place of a number without a file, which adds no event
  home_step : {q : ℕ} (its : IsNumber v.start q) {ph ph' : Phase} (word' : ℕ) (lies : maybe.Option (Option Closed)) (d : Work)
      → r.phase q ≡ ph → file_in ph ≡ None → MayTurn turn q ph' → ((n : ℕ) → n ≢ q → busy v.work ≢ n + 1)
      → held_in v.work ≡ held_in d → ((n : ℕ) → holding n v.work ≡ holding n d)
      → NodeAgrees (state_after_all v.start r.history) q (looks r.history q) word' (some lies) ph'
      → OwnerAgrees (set st.views id (went turn r.history d v.change)) q ph' → PlacesNext v.start x d
      → ((n : ℕ) → next_in v.start x + placing d ≤ n → n < end_in v.start x → changed_at r.phase q ph' n ≡ spare x.number)
      → WorkAgrees v.start (changed_at r.phase q ph') id d
      → Agrees v.start (changed_to q word' lies d)
  home_step {q} its {ph'} word' lies d is no_file may free held holds node known next spares work =
      node_agrees turn q its word' (set st.homes (place_of v.start q) lies) r.history ph' d record {
        grows = grows_none x.number r.history;
        legal = r.life.legal;
        told = one_same v q r.history;
        homes = length-set st.homes (place_of v.start q) lies;
        home_else = λ m has other. set_else st.homes (place_of v.start q) (place_of v.start m) lies (else_place its has other);
        may = may;
        keeps = λ j u f other there is_held same. absurd (unheld q (ap file_in is ∙ no_file) j u f there is_held same);
        free = free;
        node = rw (set_here st.homes (place_of v.start q) lies (roomy its)) node;
        known = known;
        held = (its_log turn).held ∙ held;
        next = next;
        spares = spares;
        work = work;
        holds = λ n. let e = holds n in omega arith;
      }

  -- a birth
  module _ (idle : v.work ≡ Between Idle) (some_left : 0 < x.numbers_left) where
    abbrev b : ℕ
    b = next_in v.start x

    end_is : b < end_in v.start x
    end_is = let o = its_log turn in let a = o.left_inside in omega arith

    -- a number that is left to the pass is one of the table
    its_b : IsNumber v.start b
    its_b = grind (arith, mul-le-mul_left)

    is_spare : r.phase b ≡ spare x.number
    is_spare = let o = its_log turn in let p = ap placing idle in o.spares b (omega arith) end_is

    birth : Agrees v.start (changed_to b born none (Placing b))
    birth = let n = in_phase v.start st r its_b is_spare in let o = its_log turn in
        home_step its_b born none (Placing b) is_spare refl (inr (inr (inl is_spare)))
        (λ m other is. let e : busy v.work ≡ 0 = ap busy idle in omega arith) (ap held_in idle) (λ n. ap (holding n) idle)
        (assumption n) (does_now st.views id v (went turn r.history (Placing b) v.change) (Placing b) here refl) (refl, some_left)
        (λ n low high. let p = ap placing idle in changed_else r.phase b (placed id) n (λ same. omega arith) ∙ o.spares n (omega arith) high)
        (its_b, changed_here r.phase b (placed id) b refl)

    birth_tells : (carried homes : List (ℕ × Option Closed))
        → Stepped (v, carried) [] no_use (Placing (next_number (opening_of v.start) (pass_of v))) v.change
        (went turn r.history (Placing b) v.change, homes)
    birth_tells carried homes =
        let e = ap (λ (l : List Log). next_number (opening_of v.start) (shown (first_log l) v.work)) one in
        subst (λ (n : ℕ). Stepped (v, carried) [] no_use (Placing n) v.change (went turn r.history (Placing b) v.change, homes)) (sym e)
        (tells_none turn carried homes v.change its_b)

  -- a rest, of a number whose file is closed, or which was placed in vain
  rest_of : {q : ℕ} → (v.work ≡ Emptying q) ⊎ (v.work ≡ Placing q) → Agrees v.start (changed_to q 0 (some None) (Between Idle))
  rest_of {q} (inl is) = let w = subst (WorkAgrees v.start r.phase id) is (its_work turn) in
      let n = in_phase v.start st r w.0 w.1 in let o = its_log turn in
      grind (arith, closed, some, changed_else, home_step w.0 {ph' = closed} 0 (some None) (Between Idle) w.1 refl (inr (inl (ap owner w.1))))
  rest_of {q} (inr is) = let w = subst (WorkAgrees v.start r.phase id) is (its_work turn) in
      let n = in_phase v.start st r w.0 w.1 in let o = its_log turn in
      let next : (q ≡ next_in v.start x) × (0 < x.numbers_left) = subst (PlacesNext v.start x) is o.next in
      home_step w.0 {ph' = spare x.number} 0 (some None) (Between Idle) w.1 refl (inr (inl (ap owner w.1)))
      (λ m other bad. let b = ap busy is in other (omega arith)) (ap held_in is) (λ m. ap (holding m) is) (assumption n) tt tt
      (grind (arith, each_changed, spare x.number, next.0)) tt

pub births_keep : BirthsKeep
births_keep k slots id i m x has idle left place = by_turn slots (λ _. Unit {0}) (λ k. word_of k (next_in k x)) (λ _. born)
    (λ i _. Births (step slots i born 0 none) m born) has tt place (λ st r here _ fits. let turn = turn_of m x has.1 id st r here in (
      went turn r.history (Placing (b turn idle left)) m.0.change,
      takes (place_of m.0.start (b turn idle left)) None,
      (in_phase m.0.start st r (its_b turn idle left) (is_spare turn idle left)).at_home,
      birth turn idle left,
      grind (arith, birth_tells turn idle left m.1 ((place_of m.0.start (b turn idle left), None) ∷ m.1)),
    ))

pub rests_keep : RestsKeep
rests_keep k slots id i q m x has works carries place = by_turn slots (λ k. m.1 ≡ (place_of k q, None) ∷ []) (λ k. word_of k q) (λ _. 0)
    (λ i _. Rests (step slots i 0 0 none) m 0) has carries place (λ st r here carries fits. let turn = turn_of m x has.1 id st r here in (
      went turn r.history (Between Idle) m.0.change,
      gives,
      tt,
      rw carries (rest_of turn works),
      record { stepped = tells_none turn m.1 (rest m.1) m.0.change tt; carried = refl },
    ))

-- A pass is done with a file, which stays open, or is closed and taken out: a retirement and a
-- release keep the rule.

-- A pass is done with a file, which stays open, or is closed and taken out.
pub sub_wraps : {n k : ℕ} → k ≤ n → n < 18446744073709551616 → 0 < k → (n + (2 ^ 64 - k)) % 2 ^ 64 ≡ n - k
sub_wraps le fits more = omega arith

-- the looks of a file are few
pub few_looks : (turn : Turn) (n : ℕ) → looks turn.r.history n ≤ 16777216
few_looks turn n = let r = turn.r in let a = looks_few r.history n in let b = r.look_ups in let c = r.shape.passes in omega arith

pub holding_it : {n : ℕ} (f : File) → n ≡ f.number → holding n (Between (Holding f)) ≡ 1
holding_it {n} f same = rw (eq-eqb f.number n (sym same)) refl

module _ (turn : Turn) (f : File) (its : IsNumber turn.v.start f.number) (h₁ : List Event) (xs : List Action) where
  open turn use {st, v, r, id, x, here, one}

  -- by these actions, if any, the pass is done with the file, and with no other
  pub record IsLetGo : Type 0 where
    pub grows : Grows x.number r.history h₁
    pub legal : IsHistory v.start h₁
    pub own : part_of_pass x.number h₁ ≡ map (event_of (shown x v.work)) xs ++ part_of_pass x.number r.history
    pub told : OneNumber v f.number r.history h₁
    pub held : held_by h₁ x.number ≡ None
    pub holds : (n : ℕ) → (state_after_all v.start h₁).holds n + held_of n v ≡ (state_after_all v.start r.history).holds n + 0
    pub free : (n : ℕ) → n ≢ f.number → busy v.work ≢ n + 1
    pub places : placing v.work ≡ 0
    pub open_file : file_in (r.phase f.number) ≡ Some f.identity

module _ {turn : Turn} {f : File} {its : IsNumber turn.v.start f.number} {h₁ : List Event} {xs : List Action} (g : IsLetGo turn f its h₁ xs)
    (minus : ℕ → ℕ) (carried : List (ℕ × Option Closed)) where
  open turn use {st, v, r, id, x, here, one}

  abbrev q : ℕ
  q = f.number

  abbrev now : State
  now = state_after_all v.start h₁

  abbrev less : ℕ
  less = minus (word_now turn q)

  spares_stay : (ph : Phase) (n : ℕ) → next_in v.start x + 0 ≤ n → n < end_in v.start x → changed_at r.phase q ph n ≡ spare x.number
  spares_stay ph n low high = grind arith

  -- the file stays open
  pub stays_open : (ph : Phase) → MayTurn turn q ph → file_in ph ≡ file_in (r.phase q)
      → NodeAgrees now q (looks r.history q) less (home_now turn q) ph
      → OwnerAgrees (set st.views id (went turn h₁ (Between Idle) v.change)) q ph → (told : ℕ → Sat → Type 0)
      → told (word_now turn q) (went turn h₁ (Between Idle) v.change, carried) → Made turn carried (word_of v.start q) minus told
  stays_open ph may same node known told tells_so =
      let step : NodeStep turn q its less st.homes h₁ ph (Between Idle) = assumption (spares_stay ph) in
      (went turn h₁ (Between Idle) v.change, keeps, tt, node_agrees turn q its less st.homes h₁ ph (Between Idle) step, tells_so)

  pub lets_go : LetsGo (v, carried) xs (went turn h₁ (Between Idle) v.change, carried)
  lets_go = grind arith

  -- nobody holds the removed file any more
  module _ (home : home_now turn q ≡ some (some (Some f.identity))) (removed : now.removed q ≡ Some f) (unheld : now.holds q ≡ 0)
      (none_left : less ≡ 0) where
    abbrev h₂ : List Event
    h₂ = event_of (shown x v.work) (Close f) ∷ h₁

    abbrev homes' : Homes
    homes' = set st.homes (place_of v.start q) none

    grows₂ : Grows x.number r.history h₂
    grows₂ = grows_more refl g.grows

    legal₂ : IsHistory v.start h₂
    legal₂ = legal_more v.start g.legal (removed, unheld) tt

    pub comes_out : MayTurn turn q (emptied id) → (told : ℕ → Sat → Type 0)
        → told (word_now turn q) (went turn h₂ (Emptying q) v.change, (place_of v.start q, Some f.identity) ∷ carried)
        → Made turn carried (word_of v.start q) minus told
    comes_out may told tells_so =
        let step : NodeStep turn q its less homes' h₂ (emptied id) (Emptying q) = record {
          grows = grows₂;
          legal = legal₂;
          told = grind (arith, changed_else);
          homes = length-set st.homes (place_of v.start q) none;
          home_else = λ m has other. set_else st.homes (place_of v.start q) (place_of v.start m) none (else_place turn its has other);
          may = may;
          keeps = λ j u e other there holds is. grind (arith, holding_it, sum_two);
          free = g.free;
          node = grind (arith, set_here, none, roomy, changed_here);
          known = does_now st.views id v (went turn h₂ (Emptying q) v.change) (Emptying q) here refl;
          held = held_mine (event_of (shown x v.work) (Close f)) h₁ refl ∙ g.held;
          next = tt;
          spares = spares_stay (emptied id);
          work = (its, changed_here r.phase q (emptied id) q refl);
          holds = g.holds;
        } in (
          went turn h₂ (Emptying q) v.change,
          takes (place_of v.start q) (Some f.identity),
          home,
          node_agrees turn q its less homes' h₂ (emptied id) (Emptying q) step,
          tells_so,
        )

    pub takes_out : TakesOut (v, carried) xs f (went turn h₂ (Emptying q) v.change, (place_of v.start q, Some f.identity) ∷ carried)
    takes_out = record {
      stepped = tells turn carried _ h₂ x.numbers_left x.looks_left (Emptying q) v.change (xs ▷ Close f) no_use grows₂ legal₂
          (part_mine h₁ refl ∙ ap (λ (l : List Event). event_of (shown x v.work) (Close f) ∷ l) g.own) (omega arith) (omega arith) its;
      carried = refl;
    }

-- A retirement keeps the rule.
module _ (turn : Turn) (f : File) (t : ℕ) (works : turn.v.work ≡ Between (Retiring f t)) where
  open turn use {st, v, r, id, x, here, one}

  leaves : IsNumber v.start f.number × (r.phase f.number ≡ leaving id t f.identity)
  leaves = subst (WorkAgrees v.start r.phase id) works (its_work turn)

  node : NodeIn v.start st.words st.homes r.history f.number (leaving id t f.identity)
  node = in_phase v.start st r leaves.0 leaves.1

  abbrev less_amount : ℕ → ℕ
  less_amount word = (word + (2 ^ 64 - retire_amount_of t)) % 2 ^ 64

  -- the word is the holds that are left, and the amount
  counted : word_now turn f.number ≡ (state_after_all v.start r.history).holds f.number + retire_amount_of t
  counted = let n = node.counts in let a = node.all_takes in let c = few_looks turn f.number in omega arith

  -- there is no action if the file stays open
  retirement_lets_go : IsLetGo turn f leaves.0 r.history []
  retirement_lets_go = grind arith

  retiring_same : {g : File} {u : ℕ} → v.work ≡ Between (Retiring g u) → f ≡ g
  retiring_same its = cc (sym works ∙ its)

  retires_either : (slots : ℕ) (carried : List (ℕ × Option Closed)) → word_now turn f.number < 18446744073709551616
      → Made turn carried (word_of v.start f.number) less_amount
      (Retires (step slots (word_of v.start f.number) (retire_amount_of t) 0 none) (v, carried))
  retires_either slots carried fits = let a = node.all_takes in let c = few_looks turn f.number in let n = counted in
      let e : less_amount (word_now turn f.number) ≡ word_now turn f.number - (4294967296 - t) = sub_wraps (omega arith) fits (omega arith) in
      let left : less_amount (word_now turn f.number) ≡ (state_after_all v.start r.history).holds f.number = omega arith in
      let told = Retires (step slots (word_of v.start f.number) (retire_amount_of t) 0 none) (v, carried) in
      dite (ℕ_discrete (word_now turn f.number) (retire_amount_of t))
      (λ is. let none_hold : (state_after_all v.start r.history).holds f.number ≡ 0 = omega arith in
      comes_out retirement_lets_go less_amount carried node.at_home node.removed none_hold (left ∙ none_hold)
      (inr (inl (ap owner leaves.1))) told record {
        waits = λ g u _ not_so. absurd (not_so is);
        closes = λ g u its _. rw (← retiring_same its)
            (takes_out retirement_lets_go less_amount carried node.at_home node.removed none_hold (left ∙ none_hold));
      })
      (λ more. let some_hold : 0 < (state_after_all v.start r.history).holds f.number = omega arith in
      stays_open retirement_lets_go less_amount carried (retired f.identity) (inr (inl (ap owner leaves.1))) (sym (ap file_in leaves.1))
      record { counts = left; at_home = node.at_home; some_hold = omega arith; removed = node.removed } tt told record {
        waits = λ g u its _. (lets_go retirement_lets_go less_amount carried, rw (← retiring_same its) some_hold);
        closes = λ g u _ is. absurd (more is);
      })

pub retires_keep : RetiresKeep
retires_keep k slots id i amount t f m x has works place by = rw by
    (by_turn slots (λ _. Unit {0}) (λ k. word_of k f.number) (λ word. (word + (2 ^ 64 - retire_amount_of t)) % 2 ^ 64)
    (λ i. Retires (step slots i (retire_amount_of t) 0 none) m) has tt place
    (λ st r here _ fits. retires_either (turn_of m x has.1 id st r here) f t works slots m.1 fits))

-- A release keeps the rule.
module _ (turn : Turn) (f : File) (works : turn.v.work ≡ Between (Holding f)) where
  open turn use {st, v, r, id, x, here, one}

  holds_it : IsNumber v.start f.number × (file_in (r.phase f.number) ≡ Some f.identity)
  holds_it = subst (WorkAgrees v.start r.phase id) works (its_work turn)

  abbrev word : ℕ
  word = word_now turn f.number

  abbrev less_one : ℕ → ℕ
  less_one word = (word + (2 ^ 64 - 1)) % 2 ^ 64

  abbrev old : State
  old = state_after_all v.start r.history

  held_now : 0 < old.holds f.number
  held_now = omega (arith, r.holds f.number, sum_at (held_of f.number) st.views id v here, ap (holding f.number) works ∙ holding_it f refl)

  abbrev h₁ : List Event
  h₁ = event_of (shown x v.work) (Release f) ∷ r.history

  abbrev new : State
  new = state_after_all v.start h₁

  one_less : new.holds f.number ≡ old.holds f.number - 1
  one_less = changed_here old.holds f.number (old.holds f.number - 1) f.number refl

  release_lets_go : IsLetGo turn f holds_it.0 h₁ ([] ▷ Release f)
  release_lets_go = grind (arith, grows_one, legal_more, held_now, its_log, part_mine, changed_else, held_mine, shown, one_less_at, holds_it)

  -- if the word was 1, the file was retired, and this is its last hold
  by_phase : word < 18446744073709551616 → (ph : Phase) → r.phase f.number ≡ ph → file_in ph ≡ Some f.identity
      → ((word ≢ 1) × NodeAgrees new f.number (looks r.history f.number) (less_one word) (home_now turn f.number) ph)
      ⊎ ((word ≡ 1) × (less_one word ≡ 0) × (r.phase f.number ≡ retired f.identity) × (home_now turn f.number ≡ some (some (Some f.identity)))
      × (old.removed f.number ≡ Some f) × (new.holds f.number ≡ 0))
  by_phase fits ph is has = grind (arith, in_phase, holds_it, few_looks, held_now, one_less, sub_wraps, looks)

  holding_same : {g : File} → v.work ≡ Between (Holding g) → f ≡ g
  holding_same its = cc (sym works ∙ its)

  releases_either : (slots : ℕ) (carried : List (ℕ × Option Closed)) → word < 18446744073709551616
      → Made turn carried (word_of v.start f.number) less_one (Releases (step slots (word_of v.start f.number) 1 0 none) (v, carried))
  releases_either slots carried fits = let told = Releases (step slots (word_of v.start f.number) 1 0 none) (v, carried) in ⊎_elim
      (λ t. stays_open release_lets_go less_one carried (r.phase f.number) (inl refl) refl t.1
      (owner_stays st.views id v (went turn h₁ (Between Idle) v.change) here f.number (λ bad. let b = ap busy works in omega arith) (r.phase f.number)
      (r.each_owner f.number holds_it.0)) told record {
        waits = λ g its _. rw (← holding_same its) (lets_go release_lets_go less_one carried);
        closes = λ g _ is. absurd (t.0 is);
      })
      (λ t. comes_out release_lets_go less_one carried t.3 t.4 t.5 t.1 (inr (inr (inr (f.identity, t.2)))) told record {
        waits = λ g _ not_so. absurd (not_so t.0);
        closes = λ g its _. rw (← holding_same its) (takes_out release_lets_go less_one carried t.3 t.4 t.5 t.1);
      })
      (by_phase fits (r.phase f.number) refl holds_it.1)

pub releases_keep : ReleasesKeep
releases_keep k slots id i f m x has works place = by_turn slots (λ _. Unit {0}) (λ k. word_of k f.number)
    (λ word. (word + (2 ^ 64 - 1)) % 2 ^ 64) (λ i. Releases (step slots i 1 0 none) m) has tt place
    (λ st r here _ fits. releases_either (turn_of m x has.1 id st r here) f works slots m.1 fits)
