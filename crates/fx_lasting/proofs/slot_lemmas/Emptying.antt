-- A slot loses its file, whether the pass holds the file or nothing.
use Rattle.fx_lasting.proofs.{Round, ◌≡◌, ◌≢◌, ℕ, ◌<◌, List, sym, refl, ap, ◌∙◌, arith, Option, None, get_elem?, some, Closed, File, Event, Action}
use Rattle.fx_lasting.proofs.{State, changed_else, pass_event, part_of_pass, map, ◌++◌, Agrees, state_after_all, slots_of, count_in, heat_in}
use Rattle.fx_lasting.proofs.{full_name_in, name_in, taken_of, sum_set, Stepped, inl, IsOffCount, account, range_at_start, removal_work, Whereabouts}
use Rattle.fx_lasting.proofs.{IsInStock, as_swapped, first_log, without_file, name_left, no_file_left, no_takes_left, empty_word_of, empty_name_made}
use Rattle.fx_lasting.proofs.{empty_file_made, empty_takes_made, ◌-◌, IsInside, owner_stays, node_same, Turn, After, tells, w, end, asks_alike}
use Rattle.fx_lasting.proofs.{few_slots, slot_else, slot_alike, in_phase, counts_emptied}
use Rattle.fx_lasting.proofs.slot_lemmas.Swaps.{Ends, IsAlike, found, d_inside, d_untaken, swap_after, Swap, swap_kept}
use Rattle.fx_lasting.proofs.node_lemmas.StockMoves.{StaysNamed, names_same, where_moved, stock_moved, names_moved, tells_swapped}

-- The slot becomes empty. What was there is removed, with the takes of the word `counted`: the one
-- that was there, or that one without the take of the pass itself. The pass is to make the round.
module _ (turn : Turn) (s : ℕ) (inside : s < slots_of turn.v.start) (old : Option File) (was : (state_after_all turn.v.start turn.r.history).at s ≡ old)
    (counted : ℕ) (alike : IsAlike turn s inside counted) (round : Round) (h₁ : List Event)
    (ends : Ends turn s inside old counted round 0 h₁ None (state_after_all turn.v.start turn.r.history).fresh)
    (off : IsOffCount turn.v.start s turn.v.change) where
  open turn use {st, v, r, id, x, here, one}

  abbrev before : State
  before = state_after_all v.start r.history

  -- The slot's word becomes this one
  module _ (left : ℕ) (where₁ : ℕ → Whereabouts) (stock₁ : List ℕ) where
    abbrev after : After turn
    after = swap_after turn s inside old was counted alike round h₁ left None st.homes r.phase r.nodes.next_number (account (range_at_start v.start) s old) where₁ stock₁

    removes : StaysNamed turn s left where₁ stock₁ → full_name_in left ≡ 0 → (count_in left ≡ 0) × (heat_in left ≡ 0)
        → Swap turn s inside old was counted alike round h₁ left None st.homes r.phase r.nodes.next_number (account (range_at_start v.start) s old) where₁ stock₁
    removes stays names takes = record {
      busy_with = 0;
      fresh = before.fresh;
      ends = ends;
      fresh_on = r.nodes.fresh;
      homes = refl;
      later = omega arith;
      removed_else = λ m. refl;
      stays = stays;
      names = names;
      few_takes = let a = takes.0 in omega arith;
      no_heat = takes.1;
      seat = tt;
      seat_apart = λ f is. absurd (cc is);
      kept = λ m. inl refl;
      nodes = λ m low apart. node_same (slots_of v.start) r.node_of m (omega arith) refl
          (let t = sum_set (taken_of m) st.views id v (w turn after) here in let a = ends.untaken m apart in
          let b = d_untaken turn s inside old was counted alike round m in omega arith)
          refl refl (r.phase m) (λ i f is there. let other : i ≢ s = λ same. apart f (sym was ∙ (ap before.at (sym same) ∙ there)) (sym (in_phase turn low is).file.its_node) in
          (ap (λ (z : State). z.at i) ends.leads ∙ changed_else before.at s None i other, ap count_in (slot_else turn s inside left i other)))
          (r.nodes.each m low);
      old_home = λ f is. refl;
      owners = λ m low apart. owner_stays st.views id v (w turn after) here m (λ bad. let a = ends.works in omega arith) (r.phase m) (r.nodes.owners m low);
      labels = λ m low apart. r.nodes.labels m low;
      counts = counts_emptied id (w turn after) here r.range s old (few_slots turn) was (slot_alike turn s inside left)
          (asks_alike turn after refl) refl off;
    }

    agrees : StaysNamed turn s left where₁ stock₁ → full_name_in left ≡ 0 → (count_in left ≡ 0) × (heat_in left ≡ 0) → Agrees v.start (end turn after)
    agrees stays names takes = swap_kept turn s inside old was counted alike round h₁ left None st.homes r.phase r.nodes.next_number
        (account (range_at_start v.start) s old) where₁ stock₁ (removes stays names takes)

  knows : IsInside v.start (removal_work round counted old)
  knows = d_inside turn s inside old was counted alike round

  -- it keeps its name alone
  abbrev pub left : After turn
  left = after (without_file (found turn s inside)) r.nodes.where_is x.stock

  pub left_agrees : Agrees v.start (end turn left)
  left_agrees = agrees (without_file (found turn s inside)) r.nodes.where_is x.stock
      (names_same turn inside (without_file (found turn s inside)) (name_left (found turn s inside)))
      (no_file_left (found turn s inside)) (no_takes_left (found turn s inside))

  pub left_tells : (carried : List (ℕ × Option Closed)) (actions : List Action)
      → part_of_pass x.number h₁ ≡ map (pass_event x) actions ++ part_of_pass x.number r.history
      → Stepped (v, carried) actions (removal_work round counted old) v.glance (account (range_at_start v.start) s old) (w turn left, carried)
  left_tells carried actions own = tells turn left refl carried carried actions ends.grows ends.legal own knows

  -- It names a node of the stock, where the node that it named is then
  module _ (n : ℕ) (stocked : IsInStock x.stock n) where
    abbrev pub moved : After turn
    moved = after (empty_word_of n) (where_moved turn s inside n stocked) (stock_moved turn s inside n stocked)

    pub moved_agrees : Agrees v.start (end turn moved)
    moved_agrees = agrees (empty_word_of n) (where_moved turn s inside n stocked) (stock_moved turn s inside n stocked)
        (names_moved turn s inside n stocked (empty_word_of n) (empty_name_made n)) (empty_file_made n) (empty_takes_made n)

    pub moved_tells : (carried : List (ℕ × Option Closed)) (actions : List Action)
        → part_of_pass x.number h₁ ≡ map (pass_event x) actions ++ part_of_pass x.number r.history
        → (e : ℕ) → get_elem? (first_log v.logs).stock e ≡ some n
        → Stepped (as_swapped e (name_in (found turn s inside) - 1) (v, carried)) actions (removal_work round counted old) v.glance
        (account (range_at_start v.start) s old) (w turn moved, carried)
    moved_tells carried actions own = tells_swapped turn s inside n stocked moved refl carried carried actions ends.grows ends.legal own knows
