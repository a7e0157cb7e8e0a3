-- The history of all passes, once they have come back; and that of the only pass, without closing
-- the table.
use Rattle.fx_baton.proofs.Words.{◌≡◌, ℕ, ◌<◌, ◌≤◌, List, [], ◌∷◌, map, length, reverse, sym, refl, ap, ◌∙◌, subst, arith, eqb, some, get_elem?, None}
use Rattle.fx_baton.proofs.Words.{Contains, sum_by, TableId, IsSettled, state_of, node_at, removed_at, is_leaving, Node, pass_of_chain, PassView}
use Rattle.fx_baton.proofs.Words.{HasDrawnInTurn, ClosesTable, times_drawn, Idle, contains_map, contains_mapped, sum_map, Log, View, Start, BatonPass}
use Rattle.fx_baton.proofs.Words.{Shared, opening_of, holds_by, removals_by, leaving_count, IsLog, IsHome, IsKept, first_own, view_of, IsPassOf}
use Rattle.fx_baton.proofs.Words.{logs_in, drawn_inside, drawn_few, all_are_drawn, sum_zero_at, one_if, once_is, ◌++◌, contains_head, file_held}
use Rattle.fx_baton.proofs.Words.{seats, front_in, AreGathered, append-nil, each_rests, gathered_log, numbers, of_only, pass_of, gathered_whole}
use Rattle.fx_table.proofs.Histories.{IsWhole, closes_table, settles as settles_whole}
use Rattle.fx_table.specs.Settling.{IsSettledSoFar}

module _ (id : TableId) (k : Start) where
  -- the one log of a pass
  abbrev pub log_of : BatonPass → Log
  log_of p = record { number = p.number; front = front_in seats p.seat.me.0.logs; own = first_own p.seat.me.0.logs }

  pub its_log : {p : BatonPass} → IsPassOf id k p → p.seat.me.0.logs ≡ log_of p ∷ []
  its_log fits = grind (arith, seats, first_own)

  module _ (ps : List BatonPass) (each : (p : BatonPass) → Contains ps p → IsPassOf id k p) (count : length ps ≡ k.passes) (s : Shared) (r : IsKept k s)
      (seat : ℕ) (v : View) (at : get_elem? s.views seat ≡ some v) (logs_are : v.logs ≡ logs_in (reverse ps))
      (idle : v.doing ≡ Idle) (free : v.loan ≡ None) where
    abbrev pub all : AreGathered seats k s.views (λ (p : BatonPass). p.seat.me.0.logs) log_of ps
    all = record { one = λ p h. its_log (each p h); count = count; seat = seat; view = v; at = at; are = logs_are }

    all_rest : (i : ℕ) (u : View) → get_elem? s.views i ≡ some u → (u.doing ≡ Idle) × (u.loan ≡ None)
    all_rest = each_rests r.life all seats.IsIdle (idle, free) (λ u rests. rests)

    pub at_home : IsHome r.contents s
    at_home = grind (arith, all_rest)

    no_holds : (n : ℕ) → (state_of r.contents).holds n ≡ 0
    no_holds n = sym (r.held n) ∙ sum_zero_at (λ (u : View). holds_by n u.doing) s.views (λ i u e. ap (holds_by n) (all_rest i u e).0)

    no_leaving : (n : ℕ) → leaving_count r.contents n ≡ 0
    no_leaving n = sym (r.leaves n) ∙ sum_zero_at (λ (u : View). removals_by n u.doing) s.views (λ i u e. ap (removals_by n) (all_rest i u e).0)

    none_removed : (n : ℕ) (node : Node) → node_at r.contents.nodes n ≡ node → removed_at n node ≡ None
    none_removed n node e = grind (arith, no_leaving, is_leaving, no_holds)

    settled : IsSettled (state_of r.contents)
    settled = record { unheld = no_holds; closed = λ n. none_removed n (node_at r.contents.nodes n) refl }

    pub known : (p : BatonPass) → Contains ps p → IsLog k r.history r.contents v.doing (log_of p)
    known p h = (r.views seat v at).logs (log_of p) (gathered_log r.life all p h)

    shown_of : {n : ℕ} → 1 ≤ n → n ≤ k.passes → (w : PassView) × Contains (map view_of ps) w × (w.number ≡ n)
    shown_of low high = let p = pass_of r.life all low high in (view_of p.0, contains_mapped view_of ps p.0 p.1, p.2)

    -- a property of each pass as contracts show it
    of_views : (P : PassView → Type 0) → ((p : BatonPass) → Contains ps p → P (view_of p)) → (w : PassView) → Contains (map view_of ps) w → P w
    of_views P each_p w h = let p = contains_map view_of ps w h in subst P (sym p.2) (each_p p.0 p.1)

    counts : (w : PassView) → Contains (map view_of ps) w → (count : ℕ) × HasDrawnInTurn (opening_of k) count w
    counts = of_views (λ w. (count : ℕ) × HasDrawnInTurn (opening_of k) count w) (λ p h. (p.count, (each p h).seated.turns))

    drawn_once : (c : ℕ) → sum_by (times_drawn c) (map view_of ps) ≤ 1
    drawn_once c =
        let q : ℕ = pass_of_chain k.passes c in let shown = sum_map (λ (w : PassView). one_if (eqb w.number q)) view_of ps in
        omega (arith, drawn_few (opening_of k) (map view_of ps) counts c, shown, numbers r.life all q, once_is k.passes q)

    pub whole : 0 < k.passes → IsWhole (opening_of k) r.history (map view_of ps)
    whole some_passes = gathered_whole r.life all view_of (λ p. (refl, refl, refl)) (subst IsSettled r.end settled) record {
      inside = drawn_inside (opening_of k) (map view_of ps) counts;
      once = drawn_once;
      all = all_are_drawn (opening_of k) (map view_of ps) counts some_passes (λ n low high. shown_of low high);
    }

    pub closes : 0 < k.passes → ClosesTable (opening_of k) (map view_of ps) r.contents
    closes some_passes = grind (arith, closes_table, whole, settled)

-- The history of a table with one pass, which is idle, without closing the table.
module _ (id : TableId) (k : Start) (p : BatonPass) (fits : IsPassOf id k p) (idle : p.seat.me.0.doing ≡ Idle) (alone : k.passes ≡ 1)
    (s : Shared) (r : IsKept k s) (seat : ℕ) (at : get_elem? s.views seat ≡ some p.seat.me.0) where
  all_its : p.seat.me.0.logs ≡ p.seat.me.0.logs ++ []
  all_its = sym (append-nil p.seat.me.0.logs)

  pub settles : IsSettledSoFar (opening_of k) (view_of p)
  settles = settles_whole (opening_of k) (view_of p) r.history
      (whole id k (p ∷ []) (of_only (IsPassOf id k) fits) (sym alone) s r seat p.seat.me.0 at all_its idle fits.free (omega (arith, alone))) fits.seated.front
      ((known id k (p ∷ []) (of_only (IsPassOf id k) fits) (sym alone) s r seat p.seat.me.0 at all_its idle fits.free p (contains_head p [])).held ∙ ap file_held idle)
