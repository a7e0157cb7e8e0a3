-- A slot gets the file that a pass places, whether the pass holds the slot's file or nothing.
use Rattle.fx_lasting.proofs.{Round, IsIn, part_of_pass, map, ◌++◌, ◌≡◌, ◌≢◌, ℕ, ◌+◌, ◌^◌, ◌<◌, List, set, sym, refl, ap, ◌∙◌, subst, arith, Option}
use Rattle.fx_lasting.proofs.{Some, some, get_elem?, false, inl, inr, ◌⊎◌, Closed, File, numbered, Event, Action, State, changed_at, changed_here}
use Rattle.fx_lasting.proofs.{changed_else, pass_event, Agrees, NodeAgrees, OwnerAgrees, state_after_all, slots_of, nodes_of, word_of, count_in}
use Rattle.fx_lasting.proofs.{file_word_of, taken_of, owed, sum_by, sum_set, Phase, placed, seated, removed_in, Change, Stepped, account}
use Rattle.fx_lasting.proofs.{range_at_start, Outside, set_here, set_else, length-set, removal_work, ◌-◌, ◌≤◌, Whereabouts, IsInStock, as_swapped}
use Rattle.fx_lasting.proofs.{first_log, name_in, Placement, label_of, as_written, most_carried, takes_are_few, name_carried, full_name_carried}
use Rattle.fx_lasting.proofs.{entry_carried, takes_carried, heat_carried, each_changed, owner_stays, node_same, Turn, After, word_at, slot_word, w}
use Rattle.fx_lasting.proofs.{end, Homes, asks_alike, few_slots, slot_words, slot_here, slot_else, slot_alike, in_phase, counts_filled}
use Rattle.fx_lasting.proofs.slot_lemmas.Swaps.{Ends, IsAlike, found, NotOf, not_old, d_inside, d_untaken, swap_after, Swap, swap_kept}
use Rattle.fx_lasting.proofs.node_lemmas.StockMoves.{where_moved, stock_moved, names_moved, tells_swapped}

-- The slot gets the file that a pass places, under a number that none had before. What was there is
-- removed, with the takes of the word `counted`: the one that was there, or that one without the
-- take of the pass itself. The pass is to make the round.
module _ (turn : Turn) (s : ℕ) (inside : s < slots_of turn.v.start) (old : Option File) (was : (state_after_all turn.v.start turn.r.history).at s ≡ old)
    (counted : ℕ) (alike : IsAlike turn s inside counted) (round : Round) (n lost : ℕ) (file : Closed)
    (its : IsIn turn.v.start turn.r.phase n (placed turn.id (as_written lost (label_of file)))) (its_entry : IsInStock turn.x.stock n)
    (small : file.entry < 2 ^ 8) (out : turn.v.change ≡ Outside) (number : ℕ) (late : turn.r.nodes.next_number ≤ number) (on_n : turn.r.node_of number ≡ n)
    (h₂ : List Event) where
  open turn use {st, v, r, id, x, here, one}

  abbrev before : State
  before = state_after_all v.start r.history

  abbrev new_file : File
  new_file = numbered number file

  abbrev new_word : ℕ
  new_word = file_word_of n file.entry + lost

  abbrev homes₁ : Homes
  homes₁ = set st.homes n (some (Some file))

  abbrev phase₁ : ℕ → Phase
  phase₁ = changed_at r.phase n (seated s new_file)

  -- the file's node goes from the stock to the slot
  abbrev where₁ : ℕ → Whereabouts
  where₁ = where_moved turn s inside n its_entry

  abbrev stock₁ : List ℕ
  stock₁ = stock_moved turn s inside n its_entry

  abbrev c₂ : Change
  c₂ = account (range_at_start v.start) s old

  abbrev pub put_after : After turn
  put_after = swap_after turn s inside old was counted alike round h₂ new_word (Some new_file) homes₁ phase₁ (number + 1) c₂ where₁ stock₁

  removed_same : (m : ℕ) → removed_in m (phase₁ (r.node_of m)) ≡ removed_in m (r.phase (r.node_of m))
  removed_same m = each_changed (λ q z. removed_in m z ≡ removed_in m (r.phase q)) r.phase
      (λ at. sym (ap (λ (q : ℕ). removed_in m (r.phase q)) at ∙ ap (removed_in m) its.1)) (λ _. refl)

  module _ (does : Ends turn s inside old counted round (n + 1) h₂ (Some new_file) (changed_at before.fresh number false)) where
    total_now : (m : ℕ) → NotOf r.node_of m old → sum_by (taken_of m) (set st.views id (w turn put_after)) ≡ sum_by (taken_of m) st.views
    total_now m apart = let t = sum_set (taken_of m) st.views id v (w turn put_after) here in let b = does.untaken m apart in let c = d_untaken turn s inside old was counted alike round m in omega arith

    its_apart : NotOf r.node_of n old
    its_apart = not_old turn s inside old was its.1 (λ g bad. cc bad)

    few_lost : lost ≤ most_carried
    few_lost = (in_phase turn its.0 its.1).few_lost

    its_count : count_in new_word ≡ lost
    its_count = takes_carried n file.entry lost few_lost

    abbrev Node₁ : ℕ → Phase → Type 0
    Node₁ m = NodeAgrees (state_after_all v.start h₂).at (slots_of v.start) (λ i. count_in (slot_word (slot_words turn s inside new_word) i)) r.node_of
        (number + 1) m (word_at st.words (word_of v.start m)) (sum_by (taken_of m) (set st.views id (w turn put_after)))
        (owed r.debt v.start.passes m) (get_elem? homes₁ m)

    node_here₁ : Node₁ n (seated s new_file)
    node_here₁ = grind (arith, in_phase, total_now, its_apart, slot_here, its_count, set_here, some, changed_here)

    node_else₁ : {m : ℕ} → m < nodes_of v.start → m ≢ n → NotOf r.node_of m old → Node₁ m (r.phase m)
    node_else₁ {m} l other apart = node_same (slots_of v.start) r.node_of m (omega arith) refl (total_now m apart) refl
        (set_else st.homes n m (some (Some file)) other) (r.phase m)
        (λ i f is there. let away : i ≢ s = λ same. apart f (sym was ∙ (ap before.at (sym same) ∙ there)) (sym (in_phase turn l is).file.its_node) in
        (ap (λ (z : State). z.at i) does.leads ∙ changed_else before.at s (Some new_file) i away, ap count_in (slot_else turn s inside new_word i away)))
        (r.nodes.each m l)

    installs : Swap turn s inside old was counted alike round h₂ new_word (Some new_file) homes₁ phase₁ (number + 1) c₂ where₁ stock₁
    installs = record {
      busy_with = n + 1;
      fresh = changed_at before.fresh number false;
      ends = does;
      fresh_on = λ m l. changed_else before.fresh number false m (λ same. omega (arith, l, same)) ∙ r.nodes.fresh m (omega (arith, late, l));
      homes = length-set st.homes n (some (Some file));
      later = omega (arith, late);
      removed_else = removed_same;
      stays = names_moved turn s inside n its_entry new_word (name_carried n file.entry lost small few_lost);
      names = (full_name_carried n file.entry lost small few_lost ∙ ap (λ (i : ℕ). i + 1) (sym on_n), entry_carried n file.entry lost small few_lost);
      few_takes = let a = its_count in let b = takes_are_few v.start.passes lost few_lost in omega arith;
      no_heat = heat_carried n file.entry lost few_lost;
      seat = rw on_n (its.0, changed_here r.phase n (seated s new_file) n refl);
      seat_apart = grind (arith, its_apart);
      kept = λ m. each_changed (λ m ph. (ph ≡ r.phase m) ⊎ ((l : Placement) × (r.phase m ≡ placed id l))) r.phase
          (λ same. inr (as_written lost (label_of file), ap r.phase same ∙ its.1)) (λ other. inl refl);
      labels = grind (arith, each_changed);
      nodes = λ m l apart. each_changed Node₁ r.phase (λ same. subst (λ (i : ℕ). Node₁ i (seated s new_file)) (sym same) node_here₁)
          (λ other. node_else₁ l other apart);
      old_home = λ f is. set_else st.homes n (r.node_of f.number) (some (Some file)) (λ same. its_apart f is (sym same));
      owners = λ m l apart. each_changed (OwnerAgrees (set st.views id (w turn put_after))) r.phase (λ same. tt)
          (λ other. owner_stays st.views id v (w turn put_after) here m (λ bad. let b = does.works in other (omega arith)) (r.phase m) (r.nodes.owners m l));
      counts = counts_filled id (w turn put_after) here r.range s old (few_slots turn) was (slot_alike turn s inside new_word)
          (asks_alike turn put_after refl) refl new_file out;
    }

    pub put_agrees : Agrees v.start (end turn put_after)
    put_agrees = swap_kept turn s inside old was counted alike round h₂ new_word (Some new_file) homes₁ phase₁ (number + 1) c₂ where₁ stock₁ installs

    pub put_tells : (xs : List Action) → part_of_pass x.number h₂ ≡ map (pass_event x) xs ++ part_of_pass x.number r.history → (carried homes : List (ℕ × Option Closed)) (e : ℕ) → get_elem? (first_log v.logs).stock e ≡ some n
        → Stepped (as_swapped e (name_in (found turn s inside) - 1) (v, carried)) xs (removal_work round counted old) v.glance c₂
        (w turn put_after, homes)
    put_tells xs own carried homes = tells_swapped turn s inside n its_entry put_after refl carried homes xs does.grows does.legal own
        (d_inside turn s inside old was counted alike round)
