-- An installation, a take and an exchange keep the rule.
use Rattle.fx_lasting.proofs.{IsIn, List, refl, subst, arith, Some, None, none, some, keeps, gives, rest, false, File, Event, Take, State, placed}
use Rattle.fx_lasting.proofs.{ActsAt, Round, first_visit, changed_at, pass_event, WorkAgrees, full_name_in, file_word_of, TakesOutKeep, InstallsKeep}
use Rattle.fx_lasting.proofs.{mod-mul-add, new_round, get_elem?, IsHistory, slot_place, Exchanges, IsOffCount, IsInRange, uncounted, HasNoFile}
use Rattle.fx_lasting.proofs.{as_swapped, as_written, ◌≡◌, ℕ, ◌+◌, ◌^◌, ◌<◌, ◌∷◌, set, sym, ap, ◌∙◌, Put, ◌▷◌, Idle, Bool, true, step, ◌*◌, ◌-◌, ◌≤◌}
use Rattle.fx_lasting.proofs.{[], Option, Closed, Action, Agrees, taking, held_in, if_file, Placing, Removes, Stepped, account, Outside, name_in}
use Rattle.fx_lasting.proofs.{bit_and, numbered, Allocate, slots_of, nodes_of, Installs, group_of, IsInStock, first_log, name_mask, Placement}
use Rattle.fx_lasting.proofs.{label_of, put_back, with_removed, held_by, state_after_all, ExchangesKeep, range_at_start, retiring_work}
use Rattle.fx_lasting.proofs.{mask_leaves_name, le-mul_of_pos_right, grows_one, legal_more, part_mine, held_mine, same_shape, busy, Turn, turn_of}
use Rattle.fx_lasting.proofs.{After, slot_word, Made, by_turn, its_log, its_work, w, end, slot_back, in_range_so}
use Rattle.fx_lasting.proofs.slot_lemmas.Emptying.{left, left_agrees, left_tells}
use Rattle.fx_lasting.proofs.slot_lemmas.Installing.{put_after, put_agrees, put_tells}
use Rattle.fx_lasting.proofs.node_lemmas.StockMoves.{names_a_node}
use Rattle.fx_lasting.proofs.slot_lemmas.Sights.{by_exchange}
use Rattle.fx_lasting.proofs.hold_lemmas.Looking.{unnamed}
use Rattle.fx_lasting.proofs.slot_lemmas.Swaps.{begins_first, found, found_so, Ends}
use Rattle.fx_lasting.proofs.node_lemmas.Choosing.{no_file, no_take, not_busy, holds_none}

-- a take empties a slot
pub taken : (turn : Turn) (s : ℕ) → s < slots_of turn.v.start → let h = pass_event turn.x (Take s ((state_after_all turn.v.start turn.r.history).at s)) ∷ turn.r.history in
    IsHistory turn.v.start h
    × (state_after_all turn.v.start h ≡ record (state_after_all turn.v.start turn.r.history) {
      at = changed_at (state_after_all turn.v.start turn.r.history).at s None;
      removed = with_removed (state_after_all turn.v.start turn.r.history).removed ((state_after_all turn.v.start turn.r.history).at s);
    })
    × (held_by h turn.x.number ≡ held_by turn.r.history turn.x.number)
    × ActsAt s (Take s ((state_after_all turn.v.start turn.r.history).at s))
taken turn s inside = grind (arith, legal_more, same_shape, held_mine)

module _ (turn : Turn) (s : ℕ) (inside : s < slots_of turn.v.start)
    (free_of : HasNoFile turn.v.work) (off : IsOffCount turn.v.start s turn.v.change) where
  open turn use {st, v, r, id, x, here, one}

  abbrev pub old : Option File
  old = (state_after_all v.start r.history).at s

  abbrev pub its_round : Round
  its_round = new_round (first_visit v.start.passes (found turn s inside))

  pub ends : Ends turn s inside old (found turn s inside) its_round 0 (pass_event x (Take s old) ∷ r.history) None (state_after_all v.start r.history).fresh
  ends = let o = its_log turn in let h = holds_none free_of o.hold in let e = taken turn s inside in record {
    grows = grows_one x.number r.history _ refl;
    legal = e.0;
    acted = (r.history, pass_event x (Take s old), ([], refl), ([], refl), refl, e.3);
    holds = (state_after_all v.start r.history).holds;
    leads = e.1;
    held = e.2 ∙ (o.held ∙ no_file free_of);
    let_go = λ n. let a = ap (if_file n) (no_file free_of) in omega arith;
    taken = λ f is. let a = no_take free_of (r.node_of f.number) in omega arith;
    untaken = λ n apart. no_take free_of n;
    works = not_busy free_of;
    begins = begins_first turn s inside (found turn s inside) (refl, refl);
    hold_none = λ is. (h.0, h.1);
    hold = λ f is. (h.0, h.1);
  }

  abbrev pub removal : After turn
  removal = left turn s inside old refl (found turn s inside) (refl, refl) its_round (pass_event x (Take s old) ∷ r.history) ends off

  pub removal_tells : (carried : List (ℕ × Option Closed))
      → Stepped (v, carried) ([] ▷ Take s old) (retiring_work v.start (found turn s inside) old) v.glance (account (range_at_start v.start) s old)
      (w turn removal, carried)
  removal_tells carried = left_tells turn s inside old refl (found turn s inside) (refl, refl) its_round (pass_event x (Take s old) ∷ r.history) ends off
      carried ([] ▷ Take s old) (part_mine r.history refl)

  pub removal_made : (slots : ℕ) (carried : List (ℕ × Option Closed))
      → found turn s inside < 18446744073709551616
      → Made turn carried (slot_place s) (λ word. bit_and word name_mask) (Removes (step slots (slot_place s) name_mask 0 none) (v, carried))
  removal_made slots carried fits = (
    w turn removal,
    keeps,
    tt,
    rw (mask_leaves_name (found turn s inside) fits)
        (left_agrees turn s inside old refl (found turn s inside) (refl, refl) its_round (pass_event x (Take s old) ∷ r.history) ends off),
    record {
      file = old;
      names = found_so turn s inside old refl;
      stepped = rw (slot_back s) (removal_tells carried);
      carried = refl;
    },
  )

pub takes_out_keep : TakesOutKeep Removes
takes_out_keep k slots id i s m x has works inside off place = by_turn slots (λ k. (s < slots_of k) × IsOffCount k s m.0.change)
    (λ _. slot_place s) (λ word. bit_and word name_mask) (λ i. Removes (step slots i name_mask 0 none) m) has (inside, off) place
    (λ st r here is fits. removal_made (turn_of m x has.1 id st r here) s is.0 works is.1 slots m.1 fits)

-- a number that none had before, and which says the node
pub fresh_number : (turn : Turn) {n : ℕ} → n < nodes_of turn.v.start → (m : ℕ) × (turn.r.nodes.next_number ≤ m) × (turn.r.node_of m ≡ n)
fresh_number turn {n} low = let r = turn.r in let nodes = nodes_of turn.v.start in (
  r.nodes.next_number * nodes + n,
  omega (arith, le-mul_of_pos_right {m = nodes} r.nodes.next_number (omega (arith, low))),
  r.numbering (r.nodes.next_number * nodes + n) ∙ mod-mul-add r.nodes.next_number nodes n low,
)

pub new_number : (turn : Turn) {n : ℕ} {l : Placement} → turn.v.work ≡ Placing n l → (m : ℕ) × (turn.r.nodes.next_number ≤ m) × (turn.r.node_of m ≡ n)
new_number turn works = fresh_number turn (subst (WorkAgrees turn.v.start turn.r.phase turn.id) works (its_work turn)).0

-- The slot gets the file that a pass places under a number that none had before. The pass holds
-- nothing.
module _ (turn : Turn) (s : ℕ) (inside : s < slots_of turn.v.start) (old : Option File) (was : (state_after_all turn.v.start turn.r.history).at s ≡ old)
    (n lost : ℕ) (file : Closed) (works : turn.v.work ≡ Placing n (as_written lost (label_of file))) (small : file.entry < 2 ^ 8) (out : turn.v.change ≡ Outside)
    (number : ℕ) (late : turn.r.nodes.next_number ≤ number) (on_n : turn.r.node_of number ≡ n) (a : Action) where
  open turn use {st, v, r, id, x, here, one}

  abbrev before : State
  before = state_after_all v.start r.history

  abbrev new_file : File
  new_file = numbered number file

  abbrev h₂ : List Event
  h₂ = pass_event x a ∷ r.history

  pub its : IsIn v.start r.phase n (placed id (as_written lost (label_of file)))
  its = subst (WorkAgrees v.start r.phase id) works (its_work turn)

  pub its_entry : IsInStock x.stock n
  its_entry = rw works at (its_log turn).allowed

  abbrev put_round : Round
  put_round = new_round (first_visit v.start.passes (found turn s inside))

  abbrev pub installed : After turn
  installed = put_after turn s inside old was (found turn s inside) (refl, refl) put_round n lost file its its_entry small out number late on_n h₂

  -- what the action does
  pub record Effect : Type 0 where
    pub legal : IsHistory v.start h₂
    pub state : state_after_all v.start h₂ ≡ record before {
      at = changed_at before.at s (Some new_file);
      removed = with_removed before.removed old;
      fresh = changed_at before.fresh number false;
    }
    pub held : held_by h₂ x.number ≡ held_by r.history x.number
    pub acts : ActsAt s a

  module _ (does : Effect) where
    puts : Ends turn s inside old (found turn s inside) put_round (n + 1) h₂ (Some new_file) (changed_at before.fresh number false)
    puts = let o = its_log turn in let h = rw works at o.hold in record {
      grows = grows_one x.number r.history _ refl;
      legal = does.legal;
      acted = (r.history, pass_event x a, ([], refl), ([], refl), refl, does.acts);
      holds = before.holds;
      leads = does.state;
      held = does.held ∙ (o.held ∙ ap held_in works);
      let_go = λ m. let a = ap (if_file m) (ap held_in works) in omega arith;
      taken = λ f is. let a = ap (taking (r.node_of f.number)) works in omega arith;
      untaken = λ m apart. ap (taking m) works;
      works = ap busy works;
      begins = begins_first turn s inside (found turn s inside) (refl, refl);
      hold_none = λ is. (h.0, h.1);
      hold = λ f is. (h.0, h.1);
    }

    pub installation_agrees : Agrees v.start (end turn installed)
    installation_agrees = put_agrees turn s inside old was (found turn s inside) (refl, refl) put_round n lost file its its_entry small out number late on_n h₂ puts

    pub installation_tells : (carried homes : List (ℕ × Option Closed)) (e : ℕ) → get_elem? (first_log v.logs).stock e ≡ some n
        → Stepped (as_swapped e (name_in (found turn s inside) - 1) (v, carried)) ([] ▷ a) (retiring_work v.start (found turn s inside) old) v.glance
        (account (range_at_start v.start) s old) (w turn installed, homes)
    installation_tells = put_tells turn s inside old was (found turn s inside) (refl, refl) put_round n lost file its its_entry small out number late on_n h₂ puts
        ([] ▷ a) (part_mine r.history refl)

abbrev pub file_carried : List (ℕ × Option Closed) → Option Closed
file_carried [] = None
file_carried (c ∷ cs) = c.1

module _ (turn : Turn) (s : ℕ) (inside : s < slots_of turn.v.start) (n lost : ℕ) (file : Closed) (works : turn.v.work ≡ Placing n (as_written lost (label_of file)))
    (small : file.entry < 2 ^ 8) (out : turn.v.change ≡ Outside) (slots : ℕ) (carried : List (ℕ × Option Closed))
    (carries : carried ≡ (n, Some file) ∷ []) (number : ℕ) (late : turn.r.nodes.next_number ≤ number) (on_n : turn.r.node_of number ≡ n) where
  open turn use {st, v, r, id, x, here, one}

  abbrev pub put_old : Option File
  put_old = (state_after_all v.start r.history).at s

  abbrev pub put_action : Action
  put_action = Put s (numbered number file) put_old

  pub putting : Effect turn s inside put_old refl n lost file works small out number late on_n put_action
  putting = grind (arith, legal_more, same_shape, held_mine)

  pub install_made : Made turn carried (slot_place s) (λ _. file_word_of n file.entry + lost)
      (Installs (step slots (slot_place s) (file_word_of n file.entry + lost) 0 none) (v, carried))
  install_made = (
    w turn (installed turn s inside put_old refl n lost file works small out number late on_n put_action),
    gives,
    tt,
    rw carries (installation_agrees turn s inside put_old refl n lost file works small out number late on_n put_action putting),
    record {
      replaced = put_old;
      names = found_so turn s inside put_old refl;
      named = names_a_node turn inside;
      stepped = λ m more e other works' carries' at. let same_f : file ≡ other = cc (ap file_carried (sym carries ∙ carries')) in
          let same : n ≡ m = cc (sym works ∙ works') in rw (← same_f, slot_back s) (
            number,
            sym (r.numbering number) ∙ (on_n ∙ same),
            installation_tells turn s inside put_old refl n lost file works small out number late on_n put_action putting
                carried (rest carried) e (at ∙ ap some (sym same)),
          );
      carried = refl;
    },
  )

module _ (turn : Turn) (slots s n lost old_word : ℕ) (file : Closed) (carried : List (ℕ × Option Closed)) (works : turn.v.work ≡ Placing n (as_written lost (label_of file)))
    (carries : carried ≡ (n, Some file) ∷ []) (small : file.entry < 2 ^ 8) (out : turn.v.change ≡ Outside) (in_range : IsInRange turn.v.start s)
    (empty : full_name_in old_word ≡ 0) (number : ℕ) (late : turn.r.nodes.next_number ≤ number) (on_n : turn.r.node_of number ≡ n) where
  open turn use {st, v, r, id, x, here, one}

  abbrev word : ℕ
  word = slot_word st.words s

  within : s < slots_of v.start
  within = let a = r.shape.range in let b = in_range.1 in omega arith

  abbrev Goal : ℕ → Type 0
  Goal y = Made turn carried (slot_place s) (λ _. y) (Exchanges (step slots (slot_place s) old_word (file_word_of n file.entry + lost) none) (v, carried))

  module _ (is : word ≡ old_word) where
    at_none : (state_after_all v.start r.history).at s ≡ None
    at_none = unnamed turn s within (ap full_name_in is ∙ empty)

    abbrev alloc : Action
    alloc = Allocate s (numbered number file)

    allocating : Effect turn s within None at_none n lost file works small out number late on_n alloc
    allocating = grind (arith, legal_more, same_shape, within, at_none, held_mine)

    won : Goal (file_word_of n file.entry + lost)
    won = (
      w turn (installed turn s within None at_none n lost file works small out number late on_n alloc),
      gives,
      tt,
      subst (λ (l : List (ℕ × Option Closed)). Agrees v.start record {
        words = set st.words (slot_place s) (file_word_of n file.entry + lost);
        homes = put_back st.homes l;
        views = set st.views id (w turn (installed turn s within None at_none n lost file works small out number late on_n alloc));
      }) (sym carries) (installation_agrees turn s within None at_none n lost file works small out number late on_n alloc allocating),
      record {
        wins = λ m more e other works' carries' at _. let same_f : file ≡ other = cc (ap file_carried (sym carries ∙ carries')) in
            let same : n ≡ m = cc (sym works ∙ works') in (
              number,
              sym (r.numbering number) ∙ (on_n ∙ same),
              names_a_node turn within,
              rw (← same_f, slot_back s)
                  (subst (λ (b : Bool). Stepped (as_swapped e (name_in word - 1) (v, carried)) ([] ▷ alloc) Idle v.glance (uncounted b true (group_of (range_at_start v.start) s)) (w turn (installed turn s within None at_none n lost file works small out number late on_n alloc), rest carried))
                  (in_range_so (range_at_start v.start) s in_range.0 in_range.1)
                  (installation_tells turn s within None at_none n lost file works small out number late on_n alloc allocating carried (rest carried) e (at ∙ ap some (sym same)))),
              refl,
            );
        loses = λ other. absurd (other is);
      },
    )

pub installs_keep : InstallsKeep Installs
installs_keep k slots id i s n lost new file m x has works carries small inside out place made = rw made (by_turn slots
    (λ k. s < slots_of k) (λ _. slot_place s) (λ _. file_word_of n file.entry + lost)
    (λ i. Installs (step slots i (file_word_of n file.entry + lost) 0 none) m) has inside place
    (λ st r here is fits. let turn = turn_of m x has.1 id st r here in let new = new_number turn works in
    install_made turn s is n lost file works small out slots m.1 carries new.0 new.1 new.2))

pub exchanges_keep : ExchangesKeep Exchanges
exchanges_keep k slots id i s n lost old new file m x has works carries small out in_range place empty made = rw made (by_exchange slots s {m = m} (λ k. IsInRange k s)
    (λ st r its. let a = r.shape.range in let b = its.1 in omega arith) old (file_word_of n file.entry + lost) Exchanges
    (λ seen found other sees. record { wins = λ m more e f w' c' at is. absurd (other is); loses = λ _. sees }) has in_range place
    (λ st r here is. let turn = turn_of m x has.1 id st r here in let new = new_number turn works in
    won turn slots s n lost old file m.1 works carries small out is empty new.0 new.1 new.2))
