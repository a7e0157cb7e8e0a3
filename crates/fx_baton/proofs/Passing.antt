-- A pass that takes the table, and one that puts it back.
use Rattle.fx_baton.proofs.Words.{◌≡◌, ℕ, ◌+◌, ◌-◌, ◌*◌, ◌≤◌, Bool, List, [], ◌∷◌, ◌++◌, map, sym, refl, ap, ◌∙◌, subst, arith, Option, Some, None}
use Rattle.fx_baton.proofs.Words.{TableId, Seat, State, Contents, state_of, IsLegal, close_of, ◌▷◌, ◌▷▷◌, File, Event, Release, number_following}
use Rattle.fx_baton.proofs.Words.{state_at, PassView, IsFront, next_of, HasDrawnInTurn, Task, seen_again, seen_further, part_mine, Log, View, Start}
use Rattle.fx_baton.proofs.Words.{Call, BatonPass, Seated, opening_of, begin_of, Takes, lent_view, log_after, view_after, first_own, seats, view_of}
use Rattle.fx_baton.proofs.Words.{IsPassOf, HasTable, HasSeenMore, UsesNext, HasCalled, HasGivenBack, pass_after, activity_of, by, actions_of}
use Rattle.fx_baton.proofs.Words.{doing_of, use_of, events_of, table_of_seats, table_of_loan}
use Rattle.fx_table.specs.Calls.{Adds}

-- a legal history leads to the state at its end
pub ends_there : (k : Start) {h : List Event} {end : State} → IsLegal (begin_of k) h end → IsLegal (begin_of k) h (state_at (opening_of k) h)
ends_there k l = record { leads = (l.leads.0, refl); releases = l.releases }

module _ {id : TableId} {k : Start} {p : BatonPass} (fits : IsPassOf id k p) (seat : Seat Contents View)
    (table : seat.table_id ≡ p.seat.table_id) (taken : Takes p.seat.me fits.seated.log seat.me) where
  abbrev log : Log
  log = record (fits.seated.log) { front = taken.history }

  -- the seat now, and the pass with such a seat
  abbrev me : Seated
  me = (lent_view p.seat.me.0 fits.seated.log taken.history taken.contents, (0, taken.contents) ∷ [])

  abbrev took : Seated → BatonPass
  took m = record p { seat = record seat { me = m } }

  is_me : me ≡ seat.me
  is_me = λ i. (sym taken.view i, sym (taken.slots ∙ ap (λ l. (0, taken.contents) ∷ l) fits.slots) i)

  more : HasSeenMore (view_of p) (view_of (took me))
  more = grind (arith, seats, first_own)

  took_table : HasTable id k (view_of p) taken.contents taken.contents (took me)
  took_table = let s = fits.seated in let seen = seen_again taken.history in record {
    table = table ∙ fits.table;
    slots = refl;
    loan = refl;
    passes = fits.passes;
    more = more;
    seated = grind (arith, ends_there, more);
    knows = assumption (seen, taken.knows);
  }

  pub has_table : HasTable id k (view_of p) (table_of_seats seat.me.1) (table_of_seats seat.me.1) (record p { seat = seat })
  has_table = subst (λ (m : Seated). HasTable id k (view_of p) (table_of_seats m.1) (table_of_seats m.1) (took m)) is_me took_table

-- a close installs nothing
next_close : (p chain : ℕ) (o : Option File) (own : List Event) → number_following (map (by p chain) (close_of o) ++ own) ≡ number_following own
next_close p chain o own = grind arith

next_release : (p chain : ℕ) (f : File) (o : Option File) (own : List Event)
    → number_following (map (by p chain) ([] ▷ Release f ▷▷ close_of o) ++ own) ≡ number_following own
next_release p chain f o own = grind arith

-- the pass's numbers after a call
next_behind : (c : Contents) (v : PassView) (now : ℕ) (doing : Task) (call : Call) (own : List Event) → number_following own ≤ next_of v
    → v.numbers_left ≤ 64 * v.chain → now + (use_of call).numbers ≡ v.numbers_left → UsesNext v call
    → number_following (events_of c v.number v.chain doing call ++ own) ≤ (256 + 64 * v.chain) - now
next_behind c v now doing call own next inside used uses = grind (arith, next_release, next_close)

module _ {id : TableId} {k : Start} {call : Call} {idle : Bool} {p : BatonPass} (t : HasCalled id k call idle p) (seat : Seat Contents View)
    (table : seat.table_id ≡ p.seat.table_id)
    (me_is : seat.me ≡ (
      view_after p.seat.me.0 (events_of (table_of_loan p.seat.me.0.loan) p.number p.chain p.seat.me.0.doing call)
          (doing_of (table_of_loan p.seat.me.0.loan) call),
      [],
    )) where
  abbrev es : List Event
  es = events_of t.taken p.number p.chain p.seat.me.0.doing call

  abbrev before : Log
  before = t.has.seated.log

  -- the seat now, and the pass with such a seat
  abbrev seated : Seated
  seated = (record (p.seat.me.0) { logs = log_after es before ∷ []; doing = doing_of t.taken call; loan = None }, [])

  abbrev gave : Seated → BatonPass
  gave m = pass_after p call idle (record seat { me = m })

  is_seated : seat.me ≡ seated
  is_seated = me_is ∙ simp (t.has.loan, t.has.seated.one)

  legal_now : IsLegal (begin_of k) (es ++ before.front) (state_of t.given)
  legal_now = rw t.has.seated.start at t.turn.legal

  front_is : IsFront (opening_of k) (view_of (gave seated))
  front_is = grind (arith, ends_there, legal_now, part_mine)

  turns_now : HasDrawnInTurn (opening_of k) p.count (view_of (gave seated))
  turns_now = grind (arith, first_own, next_behind)

  fits_again : IsPassOf id k (gave seated)
  fits_again = grind (arith, front_is, turns_now)

  adds_here : Adds (opening_of k) (view_of p) (actions_of t.taken p.seat.me.0.doing call) (activity_of (doing_of t.taken call))
      (use_of call) (view_of (gave seated))
  adds_here = grind (arith, seats, first_own, front_is)

  -- wherever the pass came from
  adds_so : (u : PassView) (c d : Contents) → HasTable id k u c d p
      → Adds (opening_of k) u (actions_of c p.seat.me.0.doing call) (activity_of (doing_of c call)) (use_of call) (view_of (gave seated))
  adds_so u c d h =
      let loans : Some t.taken ≡ Some c = sym t.has.loan ∙ h.loan in let same : t.taken ≡ c = cc loans in
      let saw = subst (λ (z : PassView × Contents). Adds (opening_of k) z.0 (actions_of z.1 p.seat.me.0.doing call)
      (activity_of (doing_of z.1 call)) (use_of call) (view_of (gave seated))) (λ i. (h.more.same i, same i)) adds_here in
      let seen = seen_further u.front (view_of p).front (view_of (gave seated)).front h.more.seen adds_here.seen in assumption (seen, saw)

  pub gives_back : HasGivenBack id k call p (pass_after p call idle seat)
  gives_back = subst (λ (m : Seated). HasGivenBack id k call p (gave m)) (sym is_seated) record {
    fits = fits_again;
    adds = adds_so;
    end = sym legal_now.leads.1 ∙ ap (λ l. state_of (table_of_seats l)) (sym t.has.slots);
  }
