-- A pass shows what it has seen, and another pass learns it: the rule holds afterwards. Neither is
-- an atomic step.
use Rattle.fx_baton.proofs.{◌≡◌, ℕ, List, [], ◌∷◌, sym, refl, ap, ◌∙◌, subst, inl, inr, ⊎_elim, some, get_elem?, set, set_else, at_set, Contents}
use Rattle.fx_baton.proofs.{state_of, IsSeenBy, Event, Log, View, Start, Shared, IsHome, IsAway, IsKept, Splits, ◌≢◌, None, none-some, BatonPass}
use Rattle.fx_baton.proofs.{TableId, Seat, IsPassOf, IsFront, PassView, HasDrawnInTurn, opening_of, first_own, view_of, Seated, IsLegal, begin_of}
use Rattle.fx_baton.proofs.{part_of_pass, some-injective, its_pass, started, seats, front_in, shown_view, seats_show, known, learns_all, legal_end}
use Rattle.fx_baton.proofs.{ends_there}
use Rattle.fx_baton.specs.Showing.{HasLearned}
use Rattle.fx_baton.proofs.SeatsKeepRule.{is_rule, laws}
use Rattle.fx_baton.proofs.StepsKeepRule.{Turns, keeps_rule}
use Rattle.fx_table.specs.Showing.{Learns}

-- a seat with one pass may show what the pass has seen
pub may_show : (k : Start) (id : ℕ) (v : View) {x : Log} → v.logs ≡ x ∷ [] → Splits (IsKept k) id v v (shown_view seats v)
may_show k id v one = seats_show is_rule laws k id v one

-- a seat with one pass that doesn't have the table may learn the whole history
module _ (k : Start) (id : ℕ) (v w : View) (x : Log) (one : v.logs ≡ x ∷ []) (free : v.loan ≡ None) (s : Shared) (r : IsKept k s)
    (at : get_elem? s.views id ≡ some v) (other : ℕ) (there : get_elem? s.views other ≡ some w) where
  abbrev log : Log
  log = record x { front = r.history }

  abbrev learned : View
  learned = record v { logs = log ∷ [] }

  turns : Turns k s r id v at learned r.contents [] s.words s.homes
  turns = learns_all k id v x one s r at v.loan s.words s.homes (⊎_elim
      (λ (home : IsHome r.contents s). inl (
        home.0,
        home.1,
        λ i u e. ⊎_elim
            (λ (m : (i ≡ id) × (learned ≡ u)). ap (λ (z : View). z.loan) (sym m.1) ∙ free)
            (λ m. home.2 i u m.1) (at_set s.views id i learned u e),
      ))
      (λ (away : IsAway r.contents r.history s). let apart : away.holder ≢ id = λ same.
      none-some r.contents (sym free ∙ (ap (λ (z : View). z.loan) (some-injective v away.view (sym at ∙ (ap (get_elem? s.views) (sym same) ∙ away.at))) ∙ away.loan)) in
      inr record {
        words = away.words;
        homes = away.homes;
        holder = away.holder;
        view = away.view;
        at = set_else s.views id away.holder learned apart ∙ away.at;
        loan = away.loan;
        whole = away.whole;
        others = λ i u n e. ⊎_elim
            (λ (m : (i ≡ id) × (learned ≡ u)). ap (λ (z : View). z.loan) (sym m.1) ∙ free)
            (λ m. away.others i u n m.1) (at_set s.views id i learned u e);
      })
      r.place)

  learned_so : HasLearned v w learned
  learned_so = let passed = its_pass r.life id at one in record {
    log = x;
    one = one;
    history = r.history;
    view = refl;
    own = passed.seen;
    shown = known r.life other w there;
    part = passed.own;
    end = state_of r.contents;
    legal = subst (λ (z : Start). IsLegal (begin_of z) r.history (state_of r.contents)) (sym (started one (r.life.seats id v at))) (legal_end r);
  }

  pub may_learn : (z : View) × IsKept k record { words = s.words; homes = s.homes; views = set s.views id z } × HasLearned v w z
  may_learn = (learned, keeps_rule k s r id v at learned r.contents [] s.words s.homes turns, learned_so)

-- the pass that has learned
module _ {id : TableId} {k : Start} {p : BatonPass} (fits : IsPassOf id k p) (w : View) (seat : Seat Contents View)
    (table : seat.table_id ≡ p.seat.table_id) (slots : seat.me.1 ≡ p.seat.me.1) (learns : HasLearned p.seat.me.0 w seat.me.0) where
  abbrev log' : Log
  log' = record (learns.log) { front = learns.history }

  abbrev me : Seated
  me = (record (p.seat.me.0) { logs = log' ∷ [] }, [])

  abbrev now : Seated → BatonPass
  now m = record p { seat = record seat { me = m } }

  is_me : me ≡ seat.me
  is_me = λ i. (sym learns.view i, (sym fits.slots ∙ sym slots) i)

  abbrev v' : PassView
  v' = view_of (now me)

  is_same : v' ≡ record (view_of p) { front = learns.history }
  is_same = λ i. record v' { own = sym (ap first_own learns.one) i }

  number : learns.log.number ≡ p.number
  number = let both : fits.seated.log ∷ [] ≡ learns.log ∷ [] = sym fits.seated.one ∙ learns.one in cc (both, fits.seated.number)

  front : IsFront (opening_of k) v'
  front = record {
    legal = ends_there k (subst (λ (z : Start). IsLegal (begin_of z) learns.history learns.end) fits.seated.start learns.legal);
    mine = subst (λ (n : ℕ). part_of_pass n learns.history ≡ learns.log.own) number learns.part;
  }

  fits_now : IsPassOf id k (now me)
  fits_now = record {
    table = table ∙ fits.table;
    slots = refl;
    free = fits.free;
    passes = fits.passes;
    seated = record {
      log = log';
      one = refl;
      number = number;
      start = fits.seated.start;
      front = front;
      turns = subst (HasDrawnInTurn (opening_of k) p.count) (sym is_same) (let t = fits.seated.turns in assumption t);
      flag = fits.seated.flag;
    };
  }

  learns_now : Learns (opening_of k) w.known (view_of p) v'
  learns_now = record {
    own = subst (λ (h : List Event). IsSeenBy h learns.history) (sym (ap (front_in seats) learns.one)) learns.own;
    shown = learns.shown;
    front = front;
    same = is_same;
  }

  pub learned_pass : IsPassOf id k (record p { seat = seat }) × Learns (opening_of k) w.known (view_of p) (view_of (record p { seat = seat }))
  learned_pass = subst (λ (m : Seated). IsPassOf id k (now m) × Learns (opening_of k) w.known (view_of p) (view_of (now m))) is_me (fits_now, learns_now)
