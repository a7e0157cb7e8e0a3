-- A look-up that follows a put that was shown.
use Rattle.std.proofs.Common.{◌≡◌, ◌≢◌, ℕ, List, [], ◌∷◌, ◌++◌, sym, refl, ap, ◌∙◌, subst, cond, eqb, true, false, map, append_assoc, Contains, ⊎_elim}
use Rattle.std.specs.Prelude.{Option, Some, None, Result, Ok, Err}
use Rattle.fx_base.specs.Identity.{Identity}
use Rattle.fx_plain.specs.History.{IsSeenBy, AllReleaseTheirOwn, AllowsAll, action_of, part_of_pass, ◌▷◌, ◌▷▷◌}
use Rattle.fx_plain.specs.State.{State}
use Rattle.fx_plain.specs.declared.event.Action.{Action}
use Rattle.fx_plain.specs.declared.event.Action.TheVariants.{Look, Put, Close}
use Rattle.fx_plain.specs.declared.event.Event.{Event}
use Rattle.fx_plain.specs.declared.event.File.{File}
use Rattle.fx_table.specs.Opening.{Opening, start_of}
use Rattle.fx_table.specs.Pass.{PassView, event_of}
use Rattle.fx_table.specs.Calls.{Adds, Use, one_look, Placed, LookedAfter, Released}
use Rattle.fx_table.specs.Showing.{Learns, LooksUpAfter, FollowsShown}
use Rattle.fx_table.specs.Finding.{IsLegalAt}
use Rattle.fx_table.specs.declared.values.Doing.{Doing}
use Rattle.fx_table.specs.declared.values.Doing.TheVariants.{Idle, Holding}
use Rattle.fx_table.specs.declared.values.Hold.{Hold}
use Rattle.fx_table.specs.declared.values.LookFault.{LookFault}
use Rattle.fx_table.specs.declared.values.LookFault.TheVariants.{Spent, Empty as EmptySlot}
use Rattle.fx_table.specs.declared.values.LookUp.{LookUp}
use Rattle.fx_table.specs.declared.values.Retired.{Retired}
use Rattle.fx_table.proofs.Calls.{follows_shown}
use Rattle.fx_table.proofs.Finding.{finds_the_change, finds_what_was_left}
use Rattle.fx_table.proofs.SumLemmas.{contains_none, contains_head, contains_tail, contains_cases}
use Rattle.example_library.specs.HandOver.{HasPut, FindsThePut, entry_seen}

-- an event of a pass's part is one of the history
from_part : (p : ℕ) (h : List Event) (e : Event) → Contains (part_of_pass p h) e → Contains h e
from_part p [] e i = absurd (contains_none e i)
from_part p (x ∷ h) e i = elim (eqb x.pass p) as (λ b. Contains (cond b (x ∷ part_of_pass p h) (part_of_pass p h)) e → Contains (x ∷ h) e) [
  | true ↦ λ j. ⊎_elim (λ (same : e ≡ x). subst (Contains (x ∷ h)) (sym same) (contains_head x h)) (λ t. contains_tail x h e (from_part p h e t)) (contains_cases x (part_of_pass p h) e j)
  | false ↦ λ j. contains_tail x h e (from_part p h e j)
] i

-- the events before and after one of a history
record Around (h : List Event) (e : Event) : Type 0 where
  before : List Event
  since : List Event
  whole : h ≡ before ▷ e ▷▷ since

around : (h : List Event) (e : Event) → Contains h e → Around h e
around [] e i = absurd (contains_none e i)
around (x ∷ h) e i = ⊎_elim
    (λ (same : e ≡ x). record { before = h; since = []; whole = ap (λ (y : Event). y ∷ h) (sym same) })
    (λ t. let r = around h e t in record { before = r.before; since = x ∷ r.since; whole = ap (λ (l : List Event). x ∷ l) r.whole })
    (contains_cases x h e i)

allowed_before : (start : State) (h later : List Event) → AllowsAll start (map action_of (later ++ h)) → AllowsAll start (map action_of h)
allowed_before start h [] all = all
allowed_before start h (e ∷ later) all = allowed_before start h later all.0

released_before : (h later : List Event) → AllReleaseTheirOwn (later ++ h) → AllReleaseTheirOwn h
released_before h [] all = all
released_before h (e ∷ later) all = released_before h later all.0

-- an initial part of a legal history is legal
legal_before : (o : Opening) (h later : List Event) → IsLegalAt o (h ▷▷ later) → IsLegalAt o h
legal_before o h later legal = record {
  leads = (allowed_before (start_of o) h later legal.leads.0, refl);
  releases = released_before h later legal.releases;
}

-- an action that a call has added is in the pass's front
module _ {o : Opening} {v w : PassView} {actions : List Action} {doing : Doing} {used : Use} (action : Action) (adds : Adds o v (actions ▷ action) doing used w) where
  in_front : Contains w.front (event_of v action)
  in_front = from_part w.number w.front (event_of v action)
      (subst (λ (l : List Event). Contains l (event_of v action)) (sym (adds.front.mine ∙ adds.own)) (contains_head (event_of v action) (map (event_of v) actions ++ v.own)))

put_seen : {o : Opening} {v w : PassView} {doing : Doing} {used : Use} (slot entry : ℕ) (new : File) (replaced : Option File)
    → Adds o v ([] ▷ Put slot new replaced) doing used w → new.identity.entry ≡ entry → HasPut slot entry w.front
put_seen {v = v} {w = w} slot entry new replaced adds is = let a = around w.front (event_of v (Put slot new replaced)) (in_front (Put slot new replaced) adds) in record {
  before = a.before;
  put = event_of v (Put slot new replaced);
  new = new;
  since = a.since;
  whole = a.whole;
  leaves = (refl, refl);
  its_entry = is;
}

put_is_seen : (o : Opening) (v w : PassView) (slot : ℕ) (file : Identity) (result : Option Retired) → Placed o v slot file result w → HasPut slot file.entry w.front
put_is_seen o v w slot file None placed = put_seen slot file.entry placed.0 None placed.2 (ap (λ (f : Identity). f.entry) placed.1.identity)
put_is_seen o v w slot file (Some x) placed = put_seen slot file.entry placed.0 (Some placed.2.0) placed.2.2 (ap (λ (f : Identity). f.entry) placed.1.identity)

-- and so in what the pass shows
pub put_is_shown : (o : Opening) (v w : PassView) (slot entry : ℕ) (file : Identity) (result : Option Retired) (shown : List Event)
    → Placed o v slot file result w → file.entry ≡ entry → shown ≡ w.front → HasPut slot entry shown
put_is_shown o v w slot entry file result shown placed is all =
    subst (HasPut slot entry) (sym all) (subst (λ (n : ℕ). HasPut slot n w.front) is (put_is_seen o v w slot file result placed))

-- the entry of a file that a look-up found
abbrev pub entry_in : Result Hold LookFault → Option ℕ
entry_in (Ok hold) = Some hold.entry
entry_in (Err _) = None

-- a look-up that isn't refused makes one, and returns what it finds
record MakesLook (o : Opening) (v : PassView) (earlier : List Action) (slot : ℕ) (found : Result Hold LookFault) (w : PassView) : Type 0 where
  seen : Option File
  doing : Doing
  adds : Adds o v (earlier ▷ Look slot seen) doing one_look w
  is : entry_in found ≡ entry_seen seen

makes_look : (o : Opening) (v : PassView) (earlier : List Action) (slot : ℕ) (found : Result Hold LookFault) (w : PassView) → found ≢ Err Spent
    → LookedAfter o v earlier slot found w → MakesLook o v earlier slot found w
makes_look o v earlier slot (Ok hold) w unspent l = record {
  seen = Some l.0;
  doing = Holding l.0 hold;
  adds = l.2;
  is = ap (λ (n : ℕ). Some n) l.1.entry;
}
makes_look o v earlier slot (Err Spent) w unspent l = absurd (unspent refl)
makes_look o v earlier slot (Err EmptySlot) w unspent l = record { seen = None; doing = Idle; adds = l; is = refl }

module _ (o : Opening) (shown : List Event) (v u w : PassView) (earlier : List Action) (slot entry : ℕ) (found : Result Hold LookFault)
    (learns : Learns o shown v u) (put : HasPut slot entry shown) (looks : MakesLook o u earlier slot found w) where
  abbrev look : Event
  look = event_of u (Look slot looks.seen)

  follows : FollowsShown shown u (earlier ▷ Look slot looks.seen) w
  follows = follows_shown o shown u w (earlier ▷ Look slot looks.seen) looks.doing one_look learns.front learns.shown looks.adds

  its_look : Around follows.since look
  its_look = around follows.since look
      (from_part u.number follows.since look (subst (λ (l : List Event). Contains l look) (sym follows.part) (contains_head look (map (event_of u) earlier))))

  abbrev between : List Event
  between = its_look.before ++ (learns.shown.0 ++ put.since)

  abbrev at_put : List Event
  at_put = put.before ▷ put.put

  abbrev shown_front : u.front ≡ learns.shown.0 ++ (put.since ++ at_put)
  shown_front = learns.shown.1 ∙ ap (λ (l : List Event). learns.shown.0 ++ l) put.whole

  regrouped : its_look.before ++ (learns.shown.0 ++ (put.since ++ at_put)) ≡ between ++ at_put
  regrouped = ap (λ (l : List Event). its_look.before ++ l) (sym (append_assoc learns.shown.0 put.since at_put))
      ∙ sym (append_assoc its_look.before (learns.shown.0 ++ put.since) at_put)

  whole : w.front ≡ at_put ▷▷ between ▷ look ▷▷ its_look.since
  whole = follows.front ∙ (ap (λ (l : List Event). l ++ u.front) its_look.whole
      ∙ (append_assoc its_look.since (its_look.before ▷ look) u.front
      ∙ ap (λ (l : List Event). its_look.since ++ (look ∷ l)) (ap (λ (l : List Event). its_look.before ++ l) shown_front ∙ regrouped)))

  legal : IsLegalAt o (at_put ▷▷ between ▷ look)
  legal = legal_before o (at_put ▷▷ between ▷ look) its_look.since (subst (IsLegalAt o) whole looks.adds.front.legal)

  finds_so : FindsThePut slot entry (entry_in found) w.front
  finds_so = record {
    before = put.before;
    put = put.put;
    new = put.new;
    since = between;
    look = look;
    seen = looks.seen;
    later = its_look.since;
    whole = whole;
    leaves = put.leaves;
    its_entry = put.its_entry;
    looks = refl;
    is = looks.is;
    left = finds_the_change o put.before between put.put look slot (Some put.new) looks.seen legal put.leaves refl;
    finds = λ keep. let seen_new = finds_what_was_left o put.before between put.put look slot (Some put.new) looks.seen legal put.leaves refl keep in
        looks.is ∙ (ap entry_seen seen_new ∙ ap (λ (n : ℕ). Some n) put.its_entry);
  }

finds_what_was_put : (o : Opening) (shown : List Event) (v : PassView) (slot entry : ℕ) (found : Result Hold LookFault) (freed : Option Identity) (w : PassView)
    → LooksUpAfter o shown v slot found freed w → found ≢ Err Spent → HasPut slot entry shown → FindsThePut slot entry (entry_in found) w.front
finds_what_was_put o shown v slot entry found None w l unspent put =
    finds_so o shown v l.between w [] slot entry found l.learns put (makes_look o l.between [] slot found w unspent l.looked)
finds_what_was_put o shown v slot entry found (Some file) w l unspent put =
    finds_so o shown v l.between w ([] ▷ Close l.looked.0) slot entry found l.learns put
    (makes_look o l.between ([] ▷ Close l.looked.0) slot found w unspent l.looked.2)

pub finds_the_put : (o : Opening) (shown : List Event) (v : PassView) (slot entry : ℕ) (look : LookUp) (result : Option ℕ) (w : PassView)
    → LooksUpAfter o shown v slot look.found look.freed w → look.found ≢ Err Spent → HasPut slot entry shown → entry_in look.found ≡ result → FindsThePut slot entry result w.front
finds_the_put o shown v slot entry look result w l unspent put is =
    subst (λ (found : Option ℕ). FindsThePut slot entry found w.front) is (finds_what_was_put o shown v slot entry look.found look.freed w l unspent put)

-- what was found stays so, and the history goes on
finds_then : (slot entry : ℕ) (found : Option ℕ) (h more : List Event) → FindsThePut slot entry found h → IsSeenBy h more → FindsThePut slot entry found more
finds_then slot entry found h more f seen = record {
  before = f.before;
  put = f.put;
  new = f.new;
  since = f.since;
  look = f.look;
  seen = f.seen;
  later = seen.0 ++ f.later;
  whole = seen.1 ∙ (ap (λ (l : List Event). seen.0 ++ l) f.whole ∙ sym (append_assoc seen.0 f.later (f.before ▷ f.put ▷▷ f.since ▷ f.look)));
  leaves = f.leaves;
  its_entry = f.its_entry;
  looks = f.looks;
  is = f.is;
  left = f.left;
  finds = f.finds;
}

pub released_then : (o : Opening) (v w : PassView) (hold : Hold) (result : Option Identity) (slot entry : ℕ) (found : Option ℕ)
    → Released o v hold result w → FindsThePut slot entry found v.front → FindsThePut slot entry found w.front
released_then o v w hold None slot entry found r f = finds_then slot entry found v.front w.front f r.2.seen
released_then o v w hold (Some file) slot entry found r f = finds_then slot entry found v.front w.front f r.2.1.seen
