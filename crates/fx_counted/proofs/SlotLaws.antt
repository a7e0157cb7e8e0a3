-- Swaps, loads and exchanges keep the rule.
use Rattle.fx_counted.proofs.Words.{◌≡◌, ◌≢◌, ℕ, ◌-◌, ◌<◌, ◌^◌, Bool, List, [], ◌∷◌, false, refl, subst, arith, eqb, Option, Some, None, inl, none}
use Rattle.fx_counted.proofs.Words.{keeps, gives, rest, stepped, step, Closed, changed_at, numbered, File, Action, Put, Clear, Take, Allocate}
use Rattle.fx_counted.proofs.Words.{name_in, slot_word_of, Agrees, HasPass, MayChange, place_of, slot_place, Sat, slots_of, state_after_all}
use Rattle.fx_counted.proofs.Words.{Exchanges, GoesOn, turned, Change, Same, Log, Start, View, Idle, Placing, event_of, shown, set-get_or, ClearsKeep}
use Rattle.fx_counted.proofs.Words.{TakesKeep, InstallsKeep, LoadsKeep, ExchangesKeep, Installs, Removes, Between, Allows, IsInRange, rules}
use Rattle.fx_counted.proofs.Steps.{in_phase, legal_more, same_shape, Turn, turn_of, word_at, now, logged, its_work, by_turn, went, Made, far}
use Rattle.fx_counted.proofs.Steps.{control_same}
use prog.Atomic.{either}
use Rattle.fx_counted.proofs.ControlSteps.{calm_agrees, goes_on}
use Rattle.fx_counted.proofs.Swaps.{Effect, in_size, names_old, removal_agrees, removal_tells, installation_agrees, installation_tells, removed_view}
use Rattle.fx_counted.proofs.Swaps.{installed_view}

abbrev file_carried : List (ℕ × Option Closed) → Option Closed
file_carried [] = None
file_carried (c ∷ cs) = c.1

module _ (turn : Turn) (s : ℕ) (inside : s < slots_of turn.v.start) where
  open turn use {st, v, r, id, x, here, one}

  abbrev old : Option File
  old = (state_after_all v.start r.history).at s

  abbrev Facts : Action → Option File → (ℕ → Bool) → Type 0
  Facts = Effect turn s inside old refl

  pub cleared : Facts (Clear s old) None (state_after_all v.start r.history).fresh
  cleared = search (rules, legal_more, in_size)

  pub taken : Facts (Take s old) None (state_after_all v.start r.history).fresh
  taken = record { legal = legal_more v.start r.life.legal (in_size turn s inside, refl) tt; state = refl; looked = refl; all = omega arith; held = refl }

  put : (n : ℕ) (file : Closed) → v.work ≡ Placing n → Facts (Put s (numbered n file) old) (Some (numbered n file))
      (changed_at (state_after_all v.start r.history).fresh n false)
  put n file works = grind (arith, legal_more, in_phase, its_work turn, in_size turn s inside)

-- the action does to a slot what a removal does
abbrev pub IsRemoval : (ℕ → Option File → Action) → Type 0
IsRemoval act = (turn : Turn) (s : ℕ) (inside : s < slots_of turn.v.start)
    → Facts turn s inside (act s (old turn s inside)) None (state_after_all turn.v.start turn.r.history).fresh

pub removes_keep : {act : ℕ → Option File → Action} → IsRemoval act → (k : Start) (slots id i slot : ℕ) (m : Sat) (x : Log) → HasPass k m x
    → m.0.work ≡ Between Idle → slot < slots_of k → MayChange k slot m.0.change → i ≡ slot_place slot
    → Allows (Agrees k) slots id m i (λ _. 0) (Removes act (step slots i 0 0 none) m)
removes_keep {act} does k slots id i s m x has idle inside stands place = by_turn slots (λ k. (s < slots_of k) × MayChange k s m.0.change)
    (λ _. slot_place s) (λ _. 0) (λ i. Removes act (step slots i 0 0 none) m) has (inside, stands) place
    (λ st r here is fits. let turn = turn_of m x has.1 id st r here in let was = old turn s is.0 in let it = does turn s is.0 in (
      removed_view turn s is.0 was refl (act s was) is.1 idle it,
      keeps,
      tt,
      removal_agrees turn s is.0 was refl (act s was) is.1 idle it,
      grind (arith, names_old turn s is.0 was refl, far turn, removal_tells turn s is.0 was refl (act s was) is.1 idle it m.1),
    ))

pub clears_keep : ClearsKeep
clears_keep = removes_keep cleared

pub takes_keep : TakesKeep
takes_keep = removes_keep taken

pub installs_keep : InstallsKeep
installs_keep k slots id i s n new file m x has works carries small inside stands place made = by_turn slots
    (λ k. (m.1 ≡ (place_of k n, Some file) ∷ []) × (s < slots_of k) × MayChange k s m.0.change) (λ _. slot_place s) (λ _. new)
    (λ i. Installs (step slots i new 0 none) m) has (carries, inside, stands) place
    (λ st r here is fits. let turn = turn_of m x has.1 id st r here in let old = old turn s is.1 in
    let a : Action = Put s (numbered n file) old in let does = put turn s is.1 n file works in
    let w = installed_view turn s is.1 old refl a is.2 n file works small does in (
      w,
      gives,
      tt,
      rw (is.0, made) (installation_agrees turn s is.1 old refl a is.2 n file works small does),
      grind (arith, rest, names_old turn s is.1 old refl, is.0, far turn, installation_tells turn s is.1 old refl a is.2 n file works small does m.1 (rest m.1)),
    ))

-- a step that writes what it read
module _ (turn : Turn) (i : ℕ) where
  open turn use {st, v, r, id, x, here, one}

  abbrev still : View
  still = went turn r.history v.work v.change

  read_agrees : Agrees v.start (stepped st i (word_at st.words i) id [] still keeps)
  read_agrees = grind (arith, set-get_or, calm_agrees, control_same)

pub loads_keep : LoadsKeep
loads_keep k slots id i m x has same = by_turn slots (λ _. Unit {0}) (λ _. i) (λ word. word) (λ i. GoesOn Same (step slots i 0 0 none) m)
    has tt refl (λ st r here _ fits. let turn = turn_of m x has.1 id st r here in (
      went turn r.history m.0.work m.0.change,
      keeps,
      tt,
      read_agrees turn i,
      subst (λ (c : Change). GoesOn c (step slots i 0 0 none) m (word_at st.words i) (went turn r.history m.0.work m.0.change, m.1)) same
          record { stepped = goes_on turn m.0.change m.1; carried = refl },
    ))

-- an exchange
module _ (turn : Turn) (slots s n old_word : ℕ) (file : Closed) (carried : List (ℕ × Option Closed))
    (works : turn.v.work ≡ Placing n) (carries : carried ≡ (place_of turn.v.start n, Some file) ∷ [])
    (small : file.entry < 2 ^ 8) (same : turn.v.change ≡ Same) (in_range : IsInRange turn.v.start s) (empty : name_in old_word ≡ 0) where
  open turn use {st, v, r, id, x, here, one}

  abbrev m : Sat
  m = (v, carried)

  abbrev word : ℕ
  word = word_at st.words (slot_place s)

  abbrev new : ℕ
  new = slot_word_of n file.entry

  within : s < slots_of v.start
  within = let a = r.shape.range in let b = in_range.1 in omega arith

  stands : MayChange v.start s v.change
  stands = inl (in_range, same)

  abbrev Goal : ℕ → Type 0
  Goal y = Made turn carried (slot_place s) (λ _. y) (Exchanges (step slots (slot_place s) old_word new none) m)

  no_file : word ≡ old_word → (found : Option File) → (state_after_all v.start r.history).at s ≡ found → found ≡ None
  no_file is found h3 = grind arith

  lost : word ≢ old_word → Goal word
  lost other = (
    went turn r.history v.work v.change,
    keeps,
    tt,
    read_agrees turn (slot_place s),
    record { wins = λ n₂ f₂ w₂ c₂ is. absurd (other is); loses = λ _. (goes_on turn v.change m.1, refl) },
  )

  module _ (is : word ≡ old_word) where
    at_none : (state_after_all v.start r.history).at s ≡ None
    at_none = no_file is ((state_after_all v.start r.history).at s) refl

    abbrev a : Action
    a = Allocate s (numbered n file)

    allocated : Effect turn s within None at_none a (Some (numbered n file)) (changed_at (state_after_all v.start r.history).fresh n false)
    allocated = grind (arith, same_shape)

    abbrev w : View
    w = now v (logged x (event_of (shown x v.work) a ∷ r.history) (x.numbers_left - 1) x.looks_left) (Between Idle) (turned v.change 0 1)

    won : Goal new
    won = (
      w,
      gives,
      tt,
      rw carries (installation_agrees turn s within None at_none a stands n file works small allocated),
      grind (arith, turned, within, at_none, stands, allocated, far turn, rest m.1, installation_tells turn s within None at_none a stands n file works small allocated m.1 (rest m.1)),
    )

pub exchanges_keep : ExchangesKeep
exchanges_keep k slots id i s n old new file m x has works carries small same in_range place empty made = by_turn slots
    (λ k. (m.1 ≡ (place_of k n, Some file) ∷ []) × IsInRange k s)
    (λ _. slot_place s) (λ word. either (eqb word old) new word) (λ i. Exchanges (step slots i old new none) m) has (carries, in_range) place
    (λ st r here is fits. let turn = turn_of m x has.1 id st r here in
    grind (arith, won turn slots s n old file m.1 works is.0 small same is.1 empty, lost turn slots s n old file m.1 works is.0 small same is.1 empty))
