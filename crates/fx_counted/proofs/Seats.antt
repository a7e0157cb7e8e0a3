-- Seats that are split off and joined, passes as they are dealt out, and all of them in one seat
-- again.
use Rattle.fx_counted.proofs.{◌≡◌, ℕ, List, length, sym, refl, ap, ◌∙◌, subst, arith, ⊎_elim, sum_by, sum_by-append, WorkAgrees, LogAgrees, Agrees}
use Rattle.fx_counted.proofs.{removed_by, Shared, holding, Outside, Log, Start, View, Work, Idle, Change, SplitsKeep, JoinsKeep, Between, one_if}
use Rattle.fx_counted.proofs.{times, ◌*◌, ◌≤◌, [], ◌∷◌, Option, TableId, Seat, Closed, first_alone, IsIdle, dealt, Sat, new_log, pass_of, view_of}
use Rattle.fx_counted.proofs.{IsPassOf, is_idle, CountedPass, new_pass, IsNewPass, some, get_elem?, Contains, Contents, state_of, IsSettled}
use Rattle.fx_counted.proofs.{ClosesTable, times_drawn, HasSameFiles, PassView, contains_head, contains_map, contains_mapped, sum_map, sum_of}
use Rattle.fx_counted.proofs.{found_sum, logs_in, opening_of, state_after_all, first_log, once, ◌<◌, map, reverse, once_is, ◌++◌, held_in, append-nil}
use Rattle.fx_counted.proofs.{IsSettledSoFar, some_there, some_times, AreGathered, Moves, seats, each_rests, gathered_log, of_only, total}
use Rattle.fx_counted.proofs.{gathered_whole, seats_reseated, busy, owner_map, shape_kept, its_idle}
use Rattle.fx_counted.proofs.Openings.{laws}
use Rattle.table_seats.proofs.Moving.{IsRule, alone_is_dealt, may_join, may_split}
use Rattle.fx_table.proofs.Histories.{IsWhole, closes_table, settles as settles_whole}
use Rattle.fx_counted.proofs.Ending.{settled_end}

-- the rule holds where passes are in other seats that do nothing
module _ (k : Start) (s : Shared) (r : Agrees k s) (views : List View) (m : Moves seats k r.history s.views views) where
  by_log : (f : Log → ℕ) → sum_by (λ (u : View). sum_by f u.logs) views ≡ sum_by (λ (u : View). sum_by f u.logs) s.views
  by_log f = m.seats.by_logs (sum_by f) refl (λ xs ys. sum_by-append f xs ys)

  by_change : (f : Change → ℕ) → f Outside ≡ 0 → sum_by (λ (u : View). f u.change) views ≡ sum_by (λ (u : View). f u.change) s.views
  by_change f none = m.seats.by_work (λ u. f u.change) (λ u idle. ap f idle.1 ∙ none)

  reseated : Agrees k record { words = s.words; homes = s.homes; views = views }
  reseated = record {
    shape = shape_kept refl refl r.shape;
    history = r.history;
    phase = r.phase;
    life = seats_reseated r.life m;
    each_slot = r.each_slot;
    each_node = r.each_node;
    each_owner = λ n has. owner_map s.views views n (λ j d is o.
        (o.0, m.seats.others j o.0 o.1 (λ idle. let e : busy d ≡ 0 = ap busy (sym o.2 ∙ idle.0) in omega arith), o.2)) (r.phase n) (r.each_owner n has);
    no_other = r.no_other;
    each_view = λ j u e. ⊎_elim (λ new. record {
      logs = λ x h. let w = new.its x h in
          subst (λ (d : Work). LogAgrees k r.history r.phase d x) (w.3.0 ∙ sym new.idle.0) ((r.each_view w.0 w.1 w.2).logs x w.4);
      work = subst (WorkAgrees k r.phase j) (sym new.idle.0) tt;
    }) (λ old. r.each_view j u old) (m.seats.each j u e);
    holds = λ n. r.holds n ∙ sym (m.seats.by_work (λ u. holding n u.work) (λ u idle. ap (holding n) idle.0));
    look_ups = let b = by_log (λ y. y.looks_left) in let c = r.look_ups in omega arith;
    control = grind (arith, by_change, removed_by);
    draws = let d = r.draws in let t = by_log (λ y. one_if y.no_chains_left) in record {
      given = d.given;
      few = d.few;
      each = λ c. by_log (λ y. times c y.drawn) ∙ d.each c;
      counts = let b = d.counts in omega arith;
      all = λ some_told. d.all (omega arith);
      unused = d.unused;
    };
  }

pub is_rule : IsRule seats Agrees
is_rule = record { history = λ k s r. r.history; life = λ k s r. r.life; moves = reseated }

pub splits_keep : SplitsKeep
splits_keep k id v idle out = may_split is_rule laws k id v (idle, out)

pub joins_keep : JoinsKeep
joins_keep k id v begun idle out other w w_idle w_out = may_join is_rule laws k id v (idle, out) begun other w (w_idle, w_out)

-- Passes as they are dealt out, and all of them in one seat again: what the one history says of
-- each.
-- the pass of a seat that has the first of them
module _ {id : TableId} (k : Start) {p : ℕ} (low : 1 ≤ p) (high : p ≤ k.passes) {seat : Seat (Option Closed) View} {x : CountedPass}
    (new : IsNewPass seat x) (table : seat.table_id ≡ id) (is : seat.me ≡ (first_alone seats (dealt seats k p), [])) where
  me : x.seat.me ≡ (seats.begun k (new_log p ∷ []), [])
  me = ap (λ (z : Seat (Option Closed) View). z.me) new.its_seat ∙ (is ∙ ap (λ (v : View). (v, [])) (alone_is_dealt seats laws k high))

  pub is_new_pass : IsPassOf id k x × (view_of x ≡ new_pass p)
  is_new_pass = (
    record {
      table = ap (λ (z : Seat (Option Closed) View). z.table_id) new.its_seat ∙ table;
      places = ap (λ (m : Sat). m.1) me;
      log = new_log p;
      seated = let none : (n : ℕ) → 0 ≤ n = λ n. omega arith in rw me (assumption (none k.chains, none 64, none (k.numbers * 0)));
      knows = assumption (new, new.flag ∙ sym (ap (λ (m : Sat). is_idle m.0.work) me));
    },
    ap (λ (m : Sat). pass_of m.0) me,
  )

-- All passes in one seat: what the one history says of each of them.
some_pass : {X : Type 0} (l : List X) → 0 < length l → (x : X) × Contains l x
some_pass [] low = absurd (omega arith)
some_pass (x ∷ l) low = (x, contains_head x l)

module _ (id : TableId) (k : Start) where
  -- the one log of a pass
  abbrev pub log_of : CountedPass → Log
  log_of p = first_log p.seat.me.0.logs

  pub its_log : (p : CountedPass) → IsPassOf id k p → p.seat.me.0.logs ≡ log_of p ∷ []
  its_log p fits = fits.seated.one ∙ ap (λ (x : Log). x ∷ []) (sym (ap first_log fits.seated.one))

  module _ (ps : List CountedPass) (each : (p : CountedPass) → Contains ps p → IsPassOf id k p) (count : length ps ≡ k.passes)
      {s : Shared} (r : Agrees k s) (seat : ℕ) {v : View} (at : get_elem? s.views seat ≡ some v) (logs_are : v.logs ≡ logs_in (reverse ps))
      (idle : v.work ≡ Between Idle) where
    abbrev pub all : AreGathered seats k s.views (λ (p : CountedPass). p.seat.me.0.logs) log_of ps
    all = record { one = λ p h. its_log p (each p h); count = count; seat = seat; view = v; at = at; are = logs_are }

    pub all_idle : (i : ℕ) (u : View) → get_elem? s.views i ≡ some u → u.work ≡ Between Idle
    all_idle = each_rests r.life all (λ u. u.work ≡ Between Idle) idle (λ u rests. rests.0)

    pub known : (p : CountedPass) → Contains ps p → LogAgrees k r.history r.phase v.work (log_of p)
    known p h = (r.each_view seat v at).logs (log_of p) (gathered_log r.life all p h)

    drawn_by : (c : ℕ) → sum_by (λ p. times c (log_of p).drawn) ps ≡ once r.draws.given c
    drawn_by c = sym (total r.life all (λ x. times c x.drawn)) ∙ r.draws.each c

    pub whole : 0 < k.passes → IsWhole (opening_of k) r.history (map view_of ps)
    whole some_passes = gathered_whole r.life all view_of (λ p. (refl, refl, refl)) (settled_end r all_idle) record {
      inside = λ w h c d. let p = contains_map view_of ps w h in
          let a = sum_of (λ (q : CountedPass). times c (log_of q).drawn) ps p.0 p.1 in
          let b = some_times c (log_of p.0).drawn (subst (λ (z : PassView). Contains z.drawn c) p.2 d) in
          let e = drawn_by c in let o = once_is r.draws.given c in (omega (arith, o), omega (arith, o, r.draws.few));
      once = λ c. let m = sum_map (times_drawn c) view_of ps in omega (arith, m, drawn_by c, once_is r.draws.given c);
      all = λ ended c low high. let first = some_pass ps (omega arith) in
          let a = sum_of (λ (q : CountedPass). one_if (log_of q).no_chains_left) ps first.0 first.1 in
          let b = ap one_if (ended (view_of first.0) (contains_mapped view_of ps first.0 first.1)) in
          let t = total r.life all (λ x. one_if x.no_chains_left) in let given = r.draws.all (omega arith) in
          let p = found_sum (λ (q : CountedPass). times c (log_of q).drawn) ps (omega (arith, drawn_by c, once_is r.draws.given c)) in
          (view_of p.0, contains_mapped view_of ps p.0 p.1, some_there c (log_of p.0).drawn p.2);
    }

    pub closes : 0 < k.passes → (left : Contents) → HasSameFiles (state_after_all k r.history) (state_of left) → IsSettled (state_of left)
        → ClosesTable (opening_of k) (map view_of ps) left
    closes some_passes left = closes_table (opening_of k) r.history (map view_of ps) left (whole some_passes)

-- the history of a table with one pass, which is idle, without closing the table
module _ (id : TableId) (k : Start) (p : CountedPass) (fits : IsPassOf id k p) (idle : IsIdle (view_of p)) (alone : k.passes ≡ 1)
    {s : Shared} (r : Agrees k s) (seat : ℕ) (at : get_elem? s.views seat ≡ some p.seat.me.0) where
  work : p.seat.me.0.work ≡ Between Idle
  work = its_idle fits idle

  all_its : p.seat.me.0.logs ≡ p.seat.me.0.logs ++ []
  all_its = sym (append-nil p.seat.me.0.logs)

  pub settles : IsSettledSoFar (opening_of k) (view_of p)
  settles = settles_whole (opening_of k) (view_of p) r.history
      (whole id k (p ∷ []) (of_only (IsPassOf id k) fits) (sym alone) r seat at all_its work (omega (arith, alone))) fits.seated.front
      ((known id k (p ∷ []) (of_only (IsPassOf id k) fits) (sym alone) r seat at all_its work p (contains_head p [])).held ∙ ap held_in work)
