-- A replacement by a pass that holds the slot's file keeps the rule: the hold ends with the step,
-- and the removal counts the takes without the pass's own.
use Rattle.fx_lasting.proofs.{◌≡◌, state_after_all, full_name_in, file_word_of, ReplacesHeld, ReplacesHeldKeep, guarded_round, range_at_start, ℕ, ◌+◌}
use Rattle.fx_lasting.proofs.{◌-◌, ◌^◌, ◌<◌, ◌∷◌, sym, ap, ◌∙◌, ◌≤◌, rest, File, Put, ◌▷◌, IsIn, step, Bool, true, Work, List, refl, subst, arith}
use Rattle.fx_lasting.proofs.{Some, none, some, gives, Closed, Event, State, placed, taking, false, Round, ⊎_elim, [], Option, Action, Release}
use Rattle.fx_lasting.proofs.{HoldsAt, held_in, bit_here, bit_else, Outside, Renewing, Stepped, account, name_in, changed_at, numbered, WorkAgrees}
use Rattle.fx_lasting.proofs.{slot_place, HoldsBesides, GuardAgrees, hold_word_of, first_visit, is_guarding, slots_of, label_of, as_written}
use Rattle.fx_lasting.proofs.{IsInStock, HoldAgrees, IsAllowed, Placement, Relieving, new_round, as_swapped, legal_more, same_shape, busy, Turn}
use Rattle.fx_lasting.proofs.{turn_of, After, Made, its_log, its_work, word_at, slot_word, w, slot_back}
use Rattle.fx_lasting.proofs.node_lemmas.StockMoves.{names_a_node}
use Rattle.fx_lasting.proofs.node_lemmas.Labelling.{held_besides}
use Rattle.fx_lasting.proofs.slot_lemmas.Sights.{by_exchange}
use Rattle.fx_lasting.proofs.slot_lemmas.Swaps.{found, Ends}
use Rattle.fx_lasting.proofs.slot_lemmas.Installing.{put_after, put_agrees, put_tells}
use Rattle.fx_lasting.proofs.slot_lemmas.SlotLaws.{file_carried, fresh_number}
use Rattle.fx_lasting.proofs.slot_lemmas.HeldSlots.{there, legal₀, by_number, IsHeld, by_take, by_guard, h₁, own_part, ends_held, leaves_so, own_hold}

-- what a pass works with that holds a file and has placed another one
module _ (turn : Turn) (f : File) (n own : ℕ) (l : Placement) (holds : HoldsBesides turn.v.work f n own l) where
  open turn use {st, v, r, id, x, here, one}

  pub both : HoldsAt v.start r.phase f n × IsIn v.start r.phase own (placed id l)
  both = ⊎_elim (λ is. subst (WorkAgrees v.start r.phase id) is (its_work turn)) (λ is. subst (WorkAgrees v.start r.phase id) is (its_work turn)) holds

  its_busy : busy v.work ≡ own + 1
  its_busy = ⊎_elim (λ is. ap busy is) (λ is. ap busy is) holds

  its_entry : IsInStock x.stock own
  its_entry = let o = its_log turn in ⊎_elim (λ (is : v.work ≡ Renewing f n own l). subst (IsAllowed x.stock x.listed) is o.allowed)
      (λ (is : v.work ≡ Relieving f n own l). let can : IsInStock x.stock own × (x.listed ≡ true) = subst (IsAllowed x.stock x.listed) is o.allowed in can.0) holds

  -- it may remove the held file
  module _ (s : ℕ) (inside : s < slots_of v.start) (names_it : full_name_in (found turn s inside) ≡ n + 1) where
    abbrev Held : Type 0
    Held = (guards : Bool) × (counted : ℕ) × (round : Round) × IsHeld turn s inside f n both.0 (held_besides holds) names_it guards counted round

    held_so : Held
    held_so = let o = its_log turn in ⊎_elim
        (λ (is : v.work ≡ Renewing f n own l). (
          false,
          found turn s inside - 1,
          new_round (first_visit v.start.passes (found turn s inside - 1)),
          by_take turn s inside f n both.0 (held_besides holds) names_it (ap (taking n) is ∙ bit_here n n refl) (ap is_guarding is)
              (λ m other. ap (taking m) is ∙ bit_else m n (λ e. other (sym e))) (let h = rw is at o.hold in (h.0, h.1)),
        ))
        (λ (is : v.work ≡ Relieving f n own l).
        let can : IsInStock x.stock own × (x.listed ≡ true) = subst (IsAllowed x.stock x.listed) is o.allowed in (
          true,
          found turn s inside,
          guarded_round,
          by_guard turn s inside f n both.0 (held_besides holds) names_it (ap is_guarding is) (λ m. ap (taking m) is)
              (subst (HoldAgrees (word_at st.words (hold_word_of v.start x.number)) (r.debt x.number)) is o.hold)
              (subst (GuardAgrees (slot_word st.words) r.phase x.number (r.debt x.number)) is o.guarded) can.1,
        )) holds

module _ (turn : Turn) (s : ℕ) (inside : s < slots_of turn.v.start) (f : File) (n own lost : ℕ) (file : Closed)
    (works : HoldsBesides turn.v.work f n own (as_written lost (label_of file))) (small : file.entry < 2 ^ 8) (out : turn.v.change ≡ Outside)
    (number : ℕ) (late : turn.r.nodes.next_number ≤ number) (on_own : turn.r.node_of number ≡ own)
    (names_it : full_name_in (found turn s inside) ≡ n + 1) (guards : Bool) (counted : ℕ) (round : Round)
    (so : IsHeld turn s inside f n (both turn f n own (as_written lost (label_of file)) works).0 (held_besides works) names_it guards counted round) where
  open turn use {st, v, r, id, x, here, one}

  abbrev before : State
  before = state_after_all v.start r.history

  abbrev word : ℕ
  word = found turn s inside

  abbrev its : HoldsAt v.start r.phase f n × IsIn v.start r.phase own (placed id (as_written lost (label_of file)))
  its = both turn f n own (as_written lost (label_of file)) works

  abbrev holds_it : held_in v.work ≡ Some f
  holds_it = held_besides works

  abbrev stocked : IsInStock x.stock own
  stocked = its_entry turn f n own (as_written lost (label_of file)) works

  abbrev new_file : File
  new_file = numbered number file

  abbrev put : Action
  put = Put s new_file (Some f)

  abbrev h₂ : List Event
  h₂ = h₁ turn s inside f n its.0 holds_it names_it put

  is_there : before.at s ≡ Some f
  is_there = there turn s inside f n its.0 holds_it names_it

  abbrev renewed : After turn
  renewed = put_after turn s inside (Some f) is_there counted so.alike round own lost file its.1 stocked small out number late on_own h₂

  puts : Ends turn s inside (Some f) counted round (own + 1) h₂ (Some new_file) (changed_at before.fresh number false)
  puts = ends_held turn s inside f n its.0 holds_it names_it put so
      (its_busy turn f n own (as_written lost (label_of file)) works)
      (legal_more v.start (legal₀ turn s inside f n its.0 holds_it names_it)
      (let z = (same_shape v.start r.history).0 in (omega arith, r.nodes.fresh number late, sym is_there)) tt) refl refl refl

  module _ (slots old_word : ℕ) (carried : List (ℕ × Option Closed)) (carries : carried ≡ (own, Some file) ∷ []) where
    abbrev new_word : ℕ
    new_word = file_word_of own file.entry + lost

    pub renews : word ≡ old_word → Made turn carried (slot_place s) (λ _. new_word) (ReplacesHeld (step slots (slot_place s) old_word new_word none) (v, carried))
    renews is = (
      w turn renewed,
      gives,
      tt,
      rw carries (put_agrees turn s inside (Some f) is_there counted so.alike round own lost file its.1 stocked small out number late on_own h₂ puts),
      record {
        wins = λ g k m more e other works' carries' at _. let same_f : file ≡ other = cc (ap file_carried (sym carries ∙ carries')) in
            let same_g : f ≡ g = cc (sym holds_it ∙ held_besides works') in
            let same : own ≡ m = (let a = its_busy turn f n own (as_written lost (label_of file)) works in
            let b = its_busy turn g k m (as_written more (label_of other)) works' in omega arith) in rw (← same_f, ← same_g, slot_back s) (
              number,
              own_hold turn s inside f n its.0 holds_it names_it so,
              by_number turn s inside f n its.0 holds_it names_it,
              sym (r.numbering number) ∙ (on_own ∙ same),
              names_a_node turn inside,
              subst (λ (z : Work). Stepped (as_swapped e (name_in word - 1) (v, carried)) ([] ▷ Release f ▷ Put s new_file (Some f)) z v.glance
                  (account (range_at_start v.start) s (Some f)) (w turn renewed, rest carried))
                  (sym (leaves_so turn s inside f n its.0 holds_it names_it so))
                  (put_tells turn s inside (Some f) is_there counted so.alike round own lost file its.1 stocked small out number late on_own h₂ puts
                  ([] ▷ Release f ▷ put)
                  (own_part turn s inside f n its.0 holds_it names_it put) carried (rest carried) e (at ∙ ap some (sym same))),
              refl,
            );
        loses = λ other. absurd (other is);
      },
    )

pub replaces_held_keep : ReplacesHeldKeep ReplacesHeld
replaces_held_keep k slots id i s own lost old new n file f m x has works carries small named inside out place made = rw made (by_exchange slots s
    (λ k. s < slots_of k) (λ st r its. its) old (file_word_of own file.entry + lost) ReplacesHeld
    (λ seen found other sees. record { wins = λ g k m more e other' works at there is. absurd (other is); loses = λ _. sees }) has inside place
    (λ st r here is same. let turn = turn_of m x has.1 id st r here in
    let new_number = fresh_number turn (both turn f n own (as_written lost (label_of file)) works).1.0 in
    let name = ap full_name_in same ∙ named in let h = held_so turn f n own (as_written lost (label_of file)) works s is name in
    renews turn s is f n own lost file works small out new_number.0 new_number.1 new_number.2 name h.0 h.1 h.2 h.3 slots old m.1 carries same))
