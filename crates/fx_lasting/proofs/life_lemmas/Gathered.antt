-- Passes as they are dealt out, and all of them in one seat again: what the one history says of
-- each.
use Rattle.fx_lasting.proofs.{pass_in, LastingPass, first_stock, opening_of, first_alone, ClosesTable, times_drawn, HasSameFiles, AreGathered, ◌≡◌}
use Rattle.fx_lasting.proofs.{IsPassOf, IsSeatOf, IsNewPass, get_elem?, Contains, IsSettled, first_log, HasNoFile, IsHistory, new_passes, ℕ, ◌≤◌, []}
use Rattle.fx_lasting.proofs.{◌∷◌, sym, refl, ap, ◌∙◌, All, map, Sat, Log, View, some, inl, true, false, Seat, fits, seats, List, numbers_of_pass}
use Rattle.fx_lasting.proofs.{contains_head, contains_map, state_after_all, first_passes, contains_tail, contains_none, subst, TableId, reverse}
use Rattle.fx_lasting.proofs.{new_log, pass_of, Contents, state_of, IsAtWork, as_first, PassView, new_pass, sum_zero, arith, Option, length, Closed}
use Rattle.fx_lasting.proofs.{view_of, Start, dealt, Agrees, logs_in, Shared, IsReady, sum_map, alone_is_dealt}
use Rattle.table_seats.proofs.Gathered.{each_rests, whole as gathered_whole}
use Rattle.fx_table.proofs.Histories.{IsWhole, closes_table}
use Rattle.fx_lasting.proofs.life_lemmas.Ending.{settled_end}
use Rattle.fx_lasting.proofs.life_lemmas.Openings.{first_stock_is, laws}

-- a pass as other tables' passes are shown when they are new
abbrev pub shown : LastingPass → PassView
shown p = record (view_of p) { numbers_left = 0 }

-- it is that, and the files that it can install
shown_one : {id : TableId} {k : Start} (p : LastingPass) → IsPassOf id k p
    → view_of p ≡ as_first k.installing (shown p)
shown_one p fits = λ i. record (view_of p) { numbers_left = numbers_of_pass (fits.seated.at.pass.0 i).installing (view_of p).number }

shown_all : {id : TableId} {k : Start} (ps : List LastingPass) → ((p : LastingPass) → Contains ps p → IsPassOf id k p)
    → map view_of ps ≡ map (as_first k.installing) (map shown ps)
shown_all [] each = refl
shown_all (p ∷ ps) each = λ i. shown_one p (each p (contains_head p ps)) i ∷ shown_all ps (λ q h. each q (contains_tail p ps q h)) i

pub shown_so : (id : TableId) (k : Start) (ps : List LastingPass) → All (IsReady (IsPassOf id k) shown) ps → (n : ℕ) → map shown ps ≡ new_passes n
    → map view_of ps ≡ first_passes k.installing n
shown_so id k ps ready n is = shown_all ps (fits (IsPassOf id k) shown ps ready) ∙ ap (map (as_first k.installing)) is

-- The passes that are dealt out
-- the pass of a seat that has the first of them
module _ {id : TableId} (k : Start) {p : ℕ} (low : 1 ≤ p) (high : p ≤ k.passes) {stock : List ℕ} (first : stock ≡ first_stock k p)
    {seat : Seat (Option Closed) View} {x : LastingPass} (new : IsNewPass seat p stock x) (table : seat.table_id ≡ id)
    (is : seat.me ≡ (first_alone seats (dealt seats k p), [])) where
  me : x.seat.me ≡ (seats.begun k (new_log k p ∷ []), [])
  me = ap (λ (z : Seat (Option Closed) View). z.me) new.its_seat ∙ (is ∙ ap (λ (v : View). (v, [])) (alone_is_dealt seats laws k high))

  legal : IsHistory k []
  legal = record { leads = (tt, refl); releases = tt }

  at : IsAtWork k p x.seat.me
  at = rw me record {
    log = new_log k p;
    pass = (refl, refl);
    its_number = refl;
    low = omega (arith, low);
    high = high;
    legal = legal;
    inside = tt;
    stock = first_stock_is k (omega (arith, low)) high;
  }

  seated : IsSeatOf id k x
  seated = record {
    table = ap (λ (z : Seat (Option Closed) View). z.table_id) new.its_seat ∙ table;
    places = ap (λ (m : Sat). m.1) me;
    at = subst (λ (q : ℕ). IsAtWork k q x.seat.me) (sym new.its_number) at;
    change = ap (λ (m : Sat). m.0.change) me;
    stock = new.its_stock ∙ (first ∙ sym (ap (λ (m : Sat). (pass_in m).stock) me));
    next = λ _. omega (arith, new.next, low, high);
    listed = new.unlisted ∙ sym (ap (λ (m : Sat). (pass_in m).listed) me);
    sure = λ is. let bad : true ≡ false = sym is ∙ new.unsure in absurd (cc bad);
  }

  pub is_new_pass : IsPassOf id k x × (shown x ≡ new_pass p)
  is_new_pass = grind (arith, seated, me, legal, pass_of)

-- All passes in one seat: what the one history says of each of them
module _ (id : TableId) (k : Start) where
  -- the one log of a pass
  abbrev pub log_of : LastingPass → Log
  log_of p = first_log p.seat.me.0.logs

  pub its_log : (p : LastingPass) → IsPassOf id k p → p.seat.me.0.logs ≡ log_of p ∷ []
  its_log p fits = let one = fits.seated.at.pass.1 in one ∙ ap (λ (x : Log). x ∷ []) (sym (ap first_log one))

  module _ (ps : List LastingPass) (each : (p : LastingPass) → Contains ps p → IsPassOf id k p) (count : length ps ≡ k.passes)
      {s : Shared} (r : Agrees k s) (seat : ℕ) {v : View} (at : get_elem? s.views seat ≡ some v) (logs_are : v.logs ≡ logs_in (reverse ps))
      (idle : HasNoFile v.work) where
    abbrev all : AreGathered seats k s.views (λ (p : LastingPass). p.seat.me.0.logs) log_of ps
    all = record { one = λ p h. its_log p (each p h); count = count; seat = seat; view = v; at = at; are = logs_are }

    pub all_idle : (i : ℕ) (u : View) → get_elem? s.views i ≡ some u → HasNoFile u.work
    all_idle = each_rests r.life all (λ u. HasNoFile u.work) idle (λ u rests. inl rests.0)

    pub whole : IsWhole (opening_of k) r.history (map view_of ps)
    whole = gathered_whole r.life all view_of (λ p. (refl, refl, refl)) (settled_end r all_idle) record {
      inside = λ w h c d. absurd (contains_none c (subst (λ (z : PassView). Contains z.drawn c) (contains_map view_of ps w h).2 d));
      once = λ c. omega (arith, (sum_map (times_drawn c) view_of ps ∙ sum_zero (λ (p : LastingPass). times_drawn c (view_of p)) ps (λ p h. refl)));
      all = λ ended c low high. absurd (omega arith);
    }

    pub closes : (left : Contents) → HasSameFiles (state_after_all k r.history) (state_of left) → IsSettled (state_of left)
        → ClosesTable (opening_of k) (map view_of ps) left
    closes left = closes_table (opening_of k) r.history (map view_of ps) left whole
